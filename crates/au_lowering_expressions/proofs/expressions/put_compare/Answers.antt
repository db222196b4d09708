use Rattle.std.proofs.Common.{Some, sym, ◌∙◌}
use Rattle.au_closed_trees.specs.TreeViews.{closed_note}
use Rattle.au_low.specs.declared.instructions.Instr.TheVariants as instr
use Rattle.au_lowered.specs.Drafts.{does}
use Rattle.au_lowering_expressions.specs.Views.{drafts_said}
use Rattle.au_lowering_expressions.proofs.WroteLemmas.{none_written}
use Rattle.au_meaning.specs.Expressions as meant
use Rattle.au_lowering_expressions.proofs.expressions.put_compare.Goals as goal

pub returns-in-None : goal.returns-in-None
returns-in-None c =
    none_written (meant.compared_kind (Some (closed_note c.args.note.now).of))
    (λ kind. does (instr.Compare c.args.order kind)) (drafts_said c.args.out.now.items)
    (sym c.compared_kind.ensures ∙ c.in-None.is)
