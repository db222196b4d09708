use Rattle.std.proofs.Common.{ap, sym, ◌∙◌}
use Rattle.std.specs.Option.{option_copied, option_map}
use Rattle.au_low.specs.declared.instructions.Instr.TheVariants as instr
use Rattle.au_lowered.specs.Drafts.{does}
use Rattle.au_lowered.specs.Statements.{mode_in}
use Rattle.au_lowering_expressions.specs.Views.{drafts_said, local_said}
use Rattle.au_lowering_expressions.proofs.WroteLemmas.{none_written}
use Rattle.au_meaning.specs.Names.{Variable}
use Rattle.au_lowering_statements.proofs.pieces.put_bind.Goals as goal

pub returns-in-None : goal.returns-in-None
returns-in-None c =
    none_written _ (λ (x : Variable). does (instr.Bind x.number c.args.slot (mode_in c.args.mode)))
    (drafts_said c.args.out.now.items)
    (sym c.find.ensures ∙ ap (λ o. option_map local_said (option_copied o)) c.in-None.is)
