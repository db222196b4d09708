use Rattle.std.proofs.Common.{ℕ, ap, sym, ◌∙◌}
use Rattle.std.specs.Option.{option_map}
use Rattle.au_closed_meanings.specs.Views.{called_said}
use Rattle.au_lowered.specs.Expressions.{acts, by_labels}
use Rattle.au_lowering_expressions.specs.Views.{drafts_said}
use Rattle.au_lowering_expressions.proofs.WroteLemmas.{none_written}
use Rattle.au_meaning.specs.Views.{Callee}
use Rattle.au_closed_trees.specs.contracts.phase.ClosedTreesPhase.TheImpl.{ghosts as closed}
use Rattle.au_meaning.specs.Expressions.{labels}
use Rattle.au_syntax.specs.Views.{argument_all}
use Rattle.au_lowering_expressions.proofs.calls.put_named_call.Goals as goal

pub returns-in-None : goal.returns-in-None
returns-in-None g c =
    none_written _ (λ (one : Callee ℕ). acts one.act
    ((by_labels (labels (argument_all closed c.args.labels.now.items))) one.parameters))
    (drafts_said c.args.out.now.items)
    (sym c.in_ok-found.ensures ∙ ap (option_map called_said) c.in-None.is)
