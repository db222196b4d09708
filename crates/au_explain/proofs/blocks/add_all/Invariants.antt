use Rattle.std.proofs.Common.{◌≡◌, ◌++◌, drop}
use Rattle.au_explain.specs.Mentions.{mentions_of_block}
use Rattle.au_explain.specs.Said.{statements_said}
use Rattle.au_explain.proofs.blocks.add_all.Given as goal

-- what is added and what is left are all
abbrev pub invariant-loop-one : goal.invariant-loop-one
invariant-loop-one l =
    l.made.items ++ mentions_of_block l.x (statements_said (drop l.one-index l.stmts))
    ≡ l.fn.made.items ++ mentions_of_block l.x (statements_said l.stmts)
