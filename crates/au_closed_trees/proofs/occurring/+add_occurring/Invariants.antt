use Rattle.std.proofs.Common.{◌≡◌, ◌++◌, drop, false, map}
use Rattle.au_type_texts.specs.Views.{closed_meaning, closed_meanings}
use Rattle.au_closed_trees.specs.Occurring.{all_occurring, counts_in}
use Rattle.au_closed_trees.proofs.occurring.+add_occurring.Given as goal

-- what is found so far, before what is left
abbrev pub invariant-add_all-loop-one : goal.invariant-add_all-loop-one
invariant-add_all-loop-one l =
    map closed_meaning l.found.items
    ++ all_occurring (counts_in false l.heads) (closed_meanings (drop l.one-index l.one-items))
    ≡ map closed_meaning l.fn.found.items
    ++ all_occurring (counts_in false l.heads) (closed_meanings l.one-items)
