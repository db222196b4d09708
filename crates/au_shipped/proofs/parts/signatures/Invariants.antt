use Rattle.std.proofs.Common.{◌≡◌, map, take}
use Rattle.au_syntax.specs.contracts.parsed.ParsedPhase.TheImpl.{ghosts as parsed}
use Rattle.au_syntax.specs.Views.{header}
use Rattle.au_shipped.specs.Rows.{called}
use Rattle.au_shipped.proofs.parts.signatures.Given as goal

abbrev pub invariant-loop-one : goal.invariant-loop-one
invariant-loop-one l = map (header parsed) l.all.items ≡ map (called l.at) (take l.one-index l.listed)
