use Rattle.std.proofs.Common.{Some, sym, ◌∙◌}
use Rattle.au_closed_trees.specs.TreeViews.{closed_note}
use Rattle.au_low.specs.declared.instructions.Instr.TheVariants as instr
use Rattle.au_lowered.specs.Drafts.{does}
use Rattle.au_lowering_expressions.specs.Views.{drafts_said}
use Rattle.au_lowering_expressions.proofs.WroteLemmas.{none_written}
use Rattle.au_meaning.specs.Expressions as meant
use Rattle.au_lowering_expressions.proofs.leaves.put_integer.Goals as goal

pub returns-in-None : goal.returns-in-None
returns-in-None g c =
    none_written (meant.kind_in (Some (closed_note c.args.note.now).of))
    (λ kind. does (instr.Push kind c.args.value)) (drafts_said c.args.out.now.items)
    (sym c.kind_in.ensures ∙ c.in-None.is)
