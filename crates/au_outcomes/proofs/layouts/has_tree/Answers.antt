-- The tree that is read has these words, its form, and is within the limits.
use Rattle.au_syntax.specs.contracts.parsed.ParsedPhase.TheImpl.{ghosts as parsed}
use Rattle.au_syntax.specs.Files.{says}
use Rattle.au_outcomes.proofs.layouts.has_tree.Goals as goal

pub returns-clause-comes : goal.returns-clause-comes
returns-clause-comes c =
    let whole = c.in_ok-tree_of.field-0 in
    (says parsed whole.tree, whole.formed, c.in_ok-tree_of.ensures.comes, whole.within)
