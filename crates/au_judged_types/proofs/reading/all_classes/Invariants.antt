use Rattle.std.proofs.Common.{◌≡◌, map, take}
use Rattle.au_judged_types.specs.Meanings.{constraints}
use Rattle.au_judged_types.specs.GenericViews.{class_within, generics_said}
use Rattle.au_judged_types.proofs.reading.all_classes.Given as goal

-- the classes of the type parameters that are visited
abbrev pub invariant-loop-one : goal.invariant-loop-one
invariant-loop-one l = l.all.items ≡ map (constraints (class_within l.scope))
    (generics_said (take l.one-index l.written))
