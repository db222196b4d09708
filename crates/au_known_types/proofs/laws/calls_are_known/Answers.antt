use Rattle.au_judged_types.specs.Bounds.{parameters}
use Rattle.au_typing.specs.Calls.{by_labels, in_order}
use Rattle.au_typing.specs.Good.{count_of, items_of, labels_of, shown, values_of}
use Rattle.au_known_types.proofs.CallLemmas.{by_labels_well, call_known, in_order_well}
use Rattle.au_known_types.proofs.NotedLemmas.{all_last, labelled_last}
use Rattle.au_known_types.proofs.laws.calls_are_known.Goals as goal

pub returns-clause-in_order : goal.returns-clause-in_order
returns-clause-in_order c = λ sc scope note name es good all wanted.
    call_known sc note name (in_order (count_of es)) (shown (items_of es)) good
    (in_order_well sc (parameters good.called.generics) (count_of es))
    (scope.outside.takes name good.called good.is_called) wanted (all_last sc scope es all)

pub returns-clause-by_labels : goal.returns-clause-by_labels
returns-clause-by_labels c = λ sc scope note name es good all wanted.
    call_known sc note name (by_labels (labels_of es)) (shown (values_of es)) good
    (by_labels_well sc (parameters good.called.generics) (labels_of es))
    (scope.outside.takes name good.called good.is_called) wanted (labelled_last sc scope es all)
