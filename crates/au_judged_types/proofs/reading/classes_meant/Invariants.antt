use Rattle.std.proofs.Common.{◌≡◌, take}
use Rattle.au_judged_types.specs.Meanings.{classes_meant}
use Rattle.au_judged_types.specs.GenericViews.{class_within, names_said}
use Rattle.au_judged_types.proofs.reading.classes_meant.Given as goal

-- the classes of the names that are visited
abbrev pub invariant-loop-one : goal.invariant-loop-one
invariant-loop-one l = l.classes ≡ classes_meant (class_within l.scope) (names_said (take l.one-index l.one-items))
