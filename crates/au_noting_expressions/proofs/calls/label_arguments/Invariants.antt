use Rattle.std.proofs.Common.{◌≡◌, drop}
use Rattle.std.specs.Vec.Iter.{into_iter_items}
use Rattle.au_noting_expressions.specs.Said.{all_said}
use Rattle.au_syntax.specs.contracts.parsed.ParsedPhase.TheImpl.{ghosts as parsed}
use Rattle.au_syntax.specs.Views.{argument_all}
use Rattle.au_typing.specs.Search.{labelled}
use Rattle.au_noting_expressions.proofs.LabelLemmas.{labels_left}
use Rattle.au_noting_expressions.proofs.calls.label_arguments.Given as goal

-- the arguments so far, before those of the labels and expressions that are left
abbrev pub invariant-loop-one : goal.invariant-loop-one
invariant-loop-one l =
    labels_left l.made.items (drop l.one-index l.one-items) (into_iter_items l.values)
    ≡ labelled (argument_all parsed l.old.items) (all_said l.fn.args.items)
