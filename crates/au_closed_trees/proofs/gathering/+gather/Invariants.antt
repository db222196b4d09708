use Rattle.std.proofs.Common.{◌≡◌, [], drop, true}
use Rattle.au_graphs.specs.Reached.{adds}
use Rattle.au_type_texts.specs.Same.{same}
use Rattle.au_type_texts.specs.Views.{closed_meanings}
use Rattle.au_closed_trees.specs.Occurring.{all_occurring, counts_in}
use Rattle.au_closed_trees.proofs.gathering.+gather.Given as goal

-- what is left adds to what is found what all add to what was found at first
abbrev pub invariant-gather_all-loop-one : goal.invariant-gather_all-loop-one
invariant-gather_all-loop-one l =
    adds same l.found (all_occurring (counts_in true []) (closed_meanings (drop l.one-index l.one-items)))
    ≡ adds same l.fn.found (all_occurring (counts_in true []) (closed_meanings l.one-items))
