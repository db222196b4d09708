use Rattle.std.proofs.Common.{ap, sym, ◌∙◌}
use Rattle.au_lowered.specs.Expressions.{closing}
use Rattle.au_lowering_expressions.specs.Views.{drafts_said}
use Rattle.au_lowering_expressions.specs.Wrote.{wrote}
use Rattle.au_lowering_expressions.proofs.WroteLemmas.{wrote_nothing}
use Rattle.au_lowering_expressions.proofs.expressions.put_closing.Goals as goal

pub returns-then-opens : goal.returns-then-opens
returns-then-opens c =
    c.in_ok-put.ensures
    ∙ ap (λ o. wrote (closing o c.args.around) (drafts_said c.args.out.now.items)) (sym c.if-opens.true)

pub returns : goal.returns
returns c =
    sym (wrote_nothing (drafts_said c.args.out.now.items))
    ∙ ap (λ o. wrote (closing o c.args.around) (drafts_said c.args.out.now.items)) (sym c.if-opens.false)
