-- A newline begins the next line, and every other byte the next column.
use Rattle.std.proofs.Common.{arith}
use Rattle.std.proofs.lemmas.Bool.Decides.{nat_tests}
use Rattle.au_base.proofs.PlaceLemmas.{place_newline, place_other}
use Rattle.au_base.proofs.places.Pos.past.Goals as goal

pub returns-then-byte-eq10-clause-place : goal.returns-then-byte-eq10-clause-place
returns-then-byte-eq10-clause-place c =
    λ file front e. place_newline c.args.self file front c.args.byte e (grind (arith, nat_tests))

pub returns-else-byte-eq10-clause-place : goal.returns-else-byte-eq10-clause-place
returns-else-byte-eq10-clause-place c =
    λ file front e. place_other c.args.self file front c.args.byte e (grind (arith, nat_tests))
