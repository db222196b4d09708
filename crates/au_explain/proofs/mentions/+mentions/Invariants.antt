use Rattle.std.proofs.Common.{◌≡◌, ◌++◌, drop}
use Rattle.au_explain.specs.Mentions.{mentions_in_all, mentions_in_arguments}
use Rattle.au_explain.specs.Said.{arguments_said, expressions_said}
use Rattle.au_explain.proofs.mentions.+mentions.Given as goal

-- what is added and what is left are all
abbrev pub invariant-add_all-loop-one : goal.invariant-add_all-loop-one
invariant-add_all-loop-one l =
    l.made.items ++ mentions_in_all l.x l.looks (expressions_said (drop l.one-index l.one-items))
    ≡ l.fn.made.items ++ mentions_in_all l.x l.looks (expressions_said l.one-items)

abbrev pub invariant-add_arguments-loop-one : goal.invariant-add_arguments-loop-one
invariant-add_arguments-loop-one l =
    l.made.items ++ mentions_in_arguments l.x l.looks (arguments_said (drop l.one-index l.one-items))
    ≡ l.fn.made.items ++ mentions_in_arguments l.x l.looks (arguments_said l.one-items)
