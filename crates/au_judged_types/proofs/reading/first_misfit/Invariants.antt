use Rattle.std.proofs.Common.{◌≡◌, drop}
use Rattle.au_judged_types.specs.Meanings.{first_misfit}
use Rattle.au_judged_types.specs.GenericViews.{class_within, generics_said}
use Rattle.au_judged_types.proofs.reading.first_misfit.Given as goal

-- nothing is wrong so far, so the type parameters that are left decide
abbrev pub invariant-loop-one : goal.invariant-loop-one
invariant-loop-one l = first_misfit (class_within l.scope) (generics_said l.written)
    ≡ first_misfit (class_within l.scope) (generics_said (drop l.one-index l.written))
