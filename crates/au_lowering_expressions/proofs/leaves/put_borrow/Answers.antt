use Rattle.std.proofs.Common.{ap, sym, ◌∙◌}
use Rattle.std.specs.Option.{option_copied, option_map}
use Rattle.au_lowered.specs.Expressions.{borrows}
use Rattle.au_lowering_expressions.specs.declared.locals.Local.{Local}
use Rattle.au_lowering_expressions.specs.Views.{drafts_said, local_said}
use Rattle.au_lowering_expressions.proofs.WroteLemmas.{none_written}
use Rattle.au_lowering_expressions.proofs.leaves.put_borrow.Goals as goal

pub returns-in-None : goal.returns-in-None
returns-in-None c =
    none_written _ (borrows c.args.mode) (drafts_said c.args.out.now.items)
    (sym c.find.ensures ∙ ap (λ o. option_map local_said (option_copied o)) c.in-None.is)
