use Rattle.std.proofs.Common.{◌≡◌, ◌++◌, drop, option_map}
use Rattle.au_types.specs.Types.{Meaning}
use Rattle.au_typing.specs.Calls.{labelled_types}
use Rattle.au_noting.specs.Said.{all_typed, labels_said, meanings}
use Rattle.au_noting_expressions.proofs.ParameterLemmas.{before}
use Rattle.au_noting_expressions.proofs.argument_types.labelled_types.Given as goal

-- each label so far names a parameter, and the types of the others come next
abbrev pub invariant-loop-one : goal.invariant-loop-one
invariant-loop-one l =
    labelled_types (labels_said l.args) (all_typed l.params)
    ≡ before (meanings l.types.items) (labelled_types (labels_said (drop l.one-index l.args)) (all_typed l.params))
