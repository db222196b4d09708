use Rattle.std.proofs.Common.{◌≡◌, map, take}
use Rattle.au_syntax.specs.contracts.parsed.ParsedPhase.TheImpl.{ghosts as parsed}
use Rattle.au_syntax.specs.Views.{variant}
use Rattle.au_shipped.specs.Rows.{cased}
use Rattle.au_shipped.proofs.parts.union_cases.Given as goal

abbrev pub invariant-loop-one : goal.invariant-loop-one
invariant-loop-one l = map (variant parsed) l.all.items ≡ map (cased l.at) (take l.one-index l.listed)
