use Rattle.std.proofs.Common.{◌∙◌}
use Rattle.au_noting.specs.Said.{all_typed}
use Rattle.au_noting_expressions.proofs.ArgumentLemmas.{labelled_types_length, ordered_types}
use Rattle.au_noting_expressions.proofs.Steps.{gives_at}
use Rattle.au_noting_expressions.proofs.noted_operands.argument_types.Goals as goal

pub returns-in-Positional-clause-gives : goal.returns-in-Positional-clause-gives
returns-in-Positional-clause-gives c =
    gives_at _ c.in_order.result _ _
    (ordered_types c.args.ops.now c.in-Positional.args c.in-Positional.is c.len.result
    (c.len.ensures ∙ c.in-Positional.args.now.ok.0) (all_typed c.args.params.now))
    c.in_order.ensures

pub returns-in-Labelled-clause-lengths : goal.returns-in-Labelled-clause-lengths
returns-in-Labelled-clause-lengths c =
    labelled_types_length c.args.ops.now c.in-Labelled.args c.in-Labelled.is c.as_slice.result.now
    c.as_slice.ensures.value
    (all_typed c.args.params.now) c.by_labels.result c.by_labels.ensures
