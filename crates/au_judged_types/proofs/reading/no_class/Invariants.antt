use Rattle.std.proofs.Common.{◌≡◌, drop}
use Rattle.au_judged_types.specs.Meanings.{no_class}
use Rattle.au_judged_types.specs.GenericViews.{class_within, names_said}
use Rattle.au_judged_types.proofs.reading.no_class.Given as goal

-- each name so far means a class, so those that are left decide
abbrev pub invariant-loop-one : goal.invariant-loop-one
invariant-loop-one l = no_class (class_within l.scope) (names_said l.one-items)
    ≡ no_class (class_within l.scope) (names_said (drop l.one-index l.one-items))
