use Rattle.std.proofs.Common.{◌≡◌, map, take}
use Rattle.au_syntax.specs.contracts.parsed.ParsedPhase.TheImpl.{ghosts as parsed}
use Rattle.au_syntax.specs.Views.{constrained}
use Rattle.au_shipped.specs.Rows.{generic}
use Rattle.au_shipped.proofs.parts.generics.Given as goal

abbrev pub invariant-loop-one : goal.invariant-loop-one
invariant-loop-one l = map (constrained parsed) l.all.items ≡ map (generic l.at) (take l.one-index l.listed)
