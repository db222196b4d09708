use Rattle.std.proofs.Common.{◌≡◌, ◌++◌, map}
use Rattle.std.specs.Vec.Iter.{into_iter_items}
use Rattle.au_lowering.specs.Drafted.{function_by}
use Rattle.au_lowering.specs.DraftViews.{all_said}
use Rattle.au_lowering.proofs.functions.number_functions.Given as goal

-- the functions so far and those that are left are all
abbrev pub invariant-loop-one : goal.invariant-loop-one
invariant-loop-one l =
    l.made.items ++ map (function_by l.tables.texts l.tables.types)
    (all_said (into_iter_items l.one-iterator))
    ≡ map (function_by l.tables.texts l.tables.types) (all_said l.fn.all.items)
