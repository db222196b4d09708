use Rattle.std.proofs.Common.{◌≡◌, map, take}
use Rattle.au_syntax.specs.contracts.parsed.ParsedPhase.TheImpl.{ghosts as parsed}
use Rattle.au_syntax.specs.Views.{placed}
use Rattle.au_shipped.specs.Building.{name}
use Rattle.au_shipped.proofs.parts.names.Given as goal

abbrev pub invariant-loop-one : goal.invariant-loop-one
invariant-loop-one l = map (placed parsed) l.all.items ≡ map (λ part. name l.at part.now) (take l.one-index l.parts)
