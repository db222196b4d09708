use Rattle.std.proofs.Common.{ap, sym, ◌∙◌}
use Rattle.au_lowered.specs.Drafts.{unless}
use Rattle.au_lowering_expressions.specs.Views.{drafts_said}
use Rattle.au_lowering_expressions.specs.Wrote.{wrote}
use Rattle.au_lowering_expressions.proofs.WroteLemmas.{wrote_nothing}
use Rattle.au_lowering_statements.proofs.jumps.put_unless.Goals as goal

pub returns-then-returns : goal.returns-then-returns
returns-then-returns c =
    sym (wrote_nothing (drafts_said c.args.out.now.items))
    ∙ ap (λ r. wrote (unless r c.args.instr) (drafts_said c.args.out.now.items)) (sym c.if-returns.true)

pub returns : goal.returns
returns c =
    c.in_ok-put.ensures
    ∙ ap (λ r. wrote (unless r c.args.instr) (drafts_said c.args.out.now.items)) (sym c.if-returns.false)
