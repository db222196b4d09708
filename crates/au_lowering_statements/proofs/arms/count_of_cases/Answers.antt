use Rattle.au_lowering_statements.specs.Views.{starts_said}
use Rattle.au_lowering_statements.proofs.CaseLemmas.{count_end, count_more}
use Rattle.std.proofs.Common.{ap, ◌∙◌, arith}
use Rattle.au_lowered.specs.Statements.{count_of_cases}
use Rattle.au_lowering_statements.proofs.arms.count_of_cases.Goals as goal

pub returns : goal.returns
returns c =
    count_end c.deref-one-items.result.now c.loop-one.one-index c.loop-one.count _ c.loop-one-test.false
    (c.loop-one.invariant ∙ ap (λ all. count_of_cases (starts_said all)) c.deref-one-items.ensures.value)
