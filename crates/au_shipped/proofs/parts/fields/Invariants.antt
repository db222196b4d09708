use Rattle.std.proofs.Common.{◌≡◌, map, take}
use Rattle.au_syntax.specs.contracts.parsed.ParsedPhase.TheImpl.{ghosts as parsed}
use Rattle.au_syntax.specs.Views.{labelled}
use Rattle.au_shipped.specs.Rows.{taken}
use Rattle.au_shipped.proofs.parts.fields.Given as goal

abbrev pub invariant-loop-one : goal.invariant-loop-one
invariant-loop-one l = map (labelled parsed) l.all.items ≡ map (taken l.at) (take l.one-index l.listed)
