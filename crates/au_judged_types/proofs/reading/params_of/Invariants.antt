use Rattle.std.proofs.Common.{◌≡◌, take}
use Rattle.au_judged_types.specs.Meanings.{written_params}
use Rattle.au_judged_types.specs.GenericViews.{generics_said}
use Rattle.au_judged_types.proofs.reading.params_of.Given as goal

-- the type parameters that are visited
abbrev pub invariant-loop-one : goal.invariant-loop-one
invariant-loop-one l = l.params ≡ written_params (generics_said (take l.one-index l.written))
