-- As many files are kept as there are.
use Rattle.std.proofs.Common.{arith}
use Rattle.au_outcomes.proofs.CountLemmas.{kept_few, kept_trees}
use Rattle.au_outcomes.proofs.checking.judged_outcome.Goals as goal

pub judge-requires-clause-few : goal.judge-requires-clause-few
judge-requires-clause-few c =
    let same = kept_trees c.args.all.now c.in_ok-trees.trees.items c.in_ok-trees.ensures.comes in
    omega (arith, same, c.requires.few)

pub judge-requires-clause-declared : goal.judge-requires-clause-declared
judge-requires-clause-declared c =
    kept_few c.args.all.now c.in_ok-trees.trees.items c.in_ok-trees.ensures.comes
