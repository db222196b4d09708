use Rattle.std.proofs.Common.{ℕ, ap, sym, ◌∙◌}
use Rattle.std.specs.Option.{option_map}
use Rattle.au_closed_meanings.specs.Views.{called_said}
use Rattle.au_lowered.specs.Expressions.{acts, by_position}
use Rattle.au_lowering_expressions.specs.Views.{drafts_said}
use Rattle.au_lowering_expressions.proofs.WroteLemmas.{none_written}
use Rattle.au_meaning.specs.Views.{Callee}
use Rattle.au_lowering_expressions.proofs.calls.put_call.Goals as goal

pub returns-in-None : goal.returns-in-None
returns-in-None g c =
    none_written _ (λ (one : Callee ℕ). acts one.act ((by_position) one.parameters))
    (drafts_said c.args.out.now.items)
    (sym c.in_ok-found.ensures ∙ ap (option_map called_said) c.in-None.is)
