use Rattle.std.proofs.Common.{◌≡◌, ◌++◌, take}
use Rattle.au_formed.specs.Said.{writings_said}
use Rattle.au_formed.specs.Writings.{named_values_writings, values_writings}
use Rattle.au_promises.specs.Said.{arguments_said, expressions_said}
use Rattle.au_formed.proofs.values.+push_value.Given as goal

-- what the values say that are visited
abbrev pub invariant-push_values-loop-one : goal.invariant-push_values-loop-one
invariant-push_values-loop-one l = writings_said l.list.items
    ≡ writings_said l.fn.list.items ++ values_writings (expressions_said (take l.one-index l.one-items))

abbrev pub invariant-push_named_values-loop-one : goal.invariant-push_named_values-loop-one
invariant-push_named_values-loop-one l = writings_said l.list.items
    ≡ writings_said l.fn.list.items ++ named_values_writings (arguments_said (take l.one-index l.one-items))
