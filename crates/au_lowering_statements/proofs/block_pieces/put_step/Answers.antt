use Rattle.std.proofs.Common.{◌+◌, ap, sym, ◌∙◌}
use Rattle.au_low.specs.declared.instructions.Instr.TheVariants.{ForStep}
use Rattle.au_lowered.specs.Drafts.{unless}
use Rattle.au_lowering_expressions.specs.Views.{drafts_said}
use Rattle.au_lowering_expressions.specs.Wrote.{wrote}
use Rattle.au_lowering_expressions.proofs.WroteLemmas.{wrote_nothing}
use Rattle.au_lowering_statements.proofs.block_pieces.put_step.Goals as goal

pub returns-then-returns : goal.returns-then-returns
returns-then-returns c =
    sym (wrote_nothing (drafts_said c.args.out.now.items))
    ∙ ap (λ r. wrote (unless r (ForStep c.args.slot (c.args.slot + 1) c.args.start))
    (drafts_said c.args.out.now.items)) (sym c.if-returns.true)
