use Rattle.std.proofs.Common.{◌≡◌, map, take}
use Rattle.au_syntax.specs.contracts.parsed.ParsedPhase.TheImpl.{ghosts as parsed}
use Rattle.au_syntax.specs.Views.{in_universe}
use Rattle.au_shipped.specs.Rows.{ranged}
use Rattle.au_shipped.proofs.parts.parameters.Given as goal

abbrev pub invariant-loop-one : goal.invariant-loop-one
invariant-loop-one l = map (in_universe parsed) l.all.items ≡ map (ranged l.at) (take l.one-index l.listed)
