use Rattle.std.proofs.Common.{◌≡◌, drop}
use Rattle.au_typing.specs.Calls.{each_is_named_once}
use Rattle.au_noting.specs.Said.{all_typed, labels_said}
use Rattle.au_noting_expressions.proofs.argument_types.each_is_named_once.Given as goal

-- each parameter so far is named once, so those that are left decide
abbrev pub invariant-loop-one : goal.invariant-loop-one
invariant-loop-one l =
    each_is_named_once (labels_said l.args) (all_typed l.params)
    ≡ each_is_named_once (labels_said l.args) (all_typed (drop l.one-index l.params))
