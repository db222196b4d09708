use Rattle.std.proofs.Common.{◌≡◌, ◌++◌, take}
use Rattle.au_promises.specs.Mentions.{named_values_mentions, values_mentions}
use Rattle.au_promises.specs.Said.{arguments_said, expressions_said}
use Rattle.au_promises.proofs.values.+push_value.Given as goal

-- the names of the values that are visited
abbrev pub invariant-push_values-loop-one : goal.invariant-push_values-loop-one
invariant-push_values-loop-one l = l.list.items ≡ l.fn.list.items
    ++ values_mentions (expressions_said (take l.one-index l.one-items))

abbrev pub invariant-push_named_values-loop-one : goal.invariant-push_named_values-loop-one
invariant-push_named_values-loop-one l =
    l.list.items ≡ l.fn.list.items ++ named_values_mentions (arguments_said (take l.one-index l.one-items))
