use Rattle.std.proofs.Common.{ap, ◌∙◌}
use Rattle.au_syntax.specs.Views.{expression, expression_all, argument_all}
use Rattle.au_syntax.specs.Plain.{plain_expression, plain_expressions, plain_arguments}
use Rattle.au_lives.specs.Mentions.{counts_in, counts_in_all, counts_in_arguments}
use Rattle.au_lives.specs.Tallies.{tally_of}
use Rattle.au_lives.proofs.CountLemmas as lemmas
use Rattle.au_lives.proofs.counting.+counts.Goals as goal

pub counts_of_all-loop-one-preserved : goal.counts_of_all-loop-one-preserved
counts_of_all-loop-one-preserved g t c =
    let split = lemmas.left_of_all g.P.Phase c.args.x.now c.args.free c.deref-one-items.result.now
    c.loop-one.one-index c.one-item.result c.loop-one-test.true in
    let part = c.counts-part.ensures
    ∙ ap (λ one. tally_of
    (counts_in c.args.x.now c.args.free
    (plain_expression g.P.Phase.name_bytes (expression g.P.Phase one)))) c.one-item.is in
    lemmas.added _ _ _ _ _ _ _ c.loop-one.invariant part split c.tally_and-sum.ensures

pub counts_of_all-returns : goal.counts_of_all-returns
counts_of_all-returns g t c =
    lemmas.ended _ _ _ c.loop-one.invariant
    (lemmas.none_of_all g.P.Phase c.args.x.now c.args.free c.deref-one-items.result.now
    c.loop-one.one-index c.loop-one-test.false)
    ∙ ap (λ items. tally_of
    (counts_in_all c.args.x.now c.args.free
    (plain_expressions g.P.Phase.name_bytes (expression_all g.P.Phase items))))
    c.deref-one-items.ensures.value

pub counts_of_arguments-loop-one-preserved : goal.counts_of_arguments-loop-one-preserved
counts_of_arguments-loop-one-preserved g t c =
    let split = lemmas.left_of_arguments g.P.Phase c.args.x.now c.args.free c.deref-one-items.result.now
    c.loop-one.one-index c.one-item.result c.loop-one-test.true in
    let part = c.counts_of_argument-part.ensures
    ∙ ap (λ one. tally_of
    (counts_in c.args.x.now c.args.free
    (plain_expression g.P.Phase.name_bytes (expression g.P.Phase one.value)))) c.one-item.is in
    lemmas.added _ _ _ _ _ _ _ c.loop-one.invariant part split c.tally_and-sum.ensures

pub counts_of_arguments-returns : goal.counts_of_arguments-returns
counts_of_arguments-returns g t c =
    lemmas.ended _ _ _ c.loop-one.invariant
    (lemmas.none_of_arguments g.P.Phase c.args.x.now c.args.free c.deref-one-items.result.now
    c.loop-one.one-index c.loop-one-test.false)
    ∙ ap (λ items. tally_of
    (counts_in_arguments c.args.x.now c.args.free
    (plain_arguments g.P.Phase.name_bytes (argument_all g.P.Phase items))))
    c.deref-one-items.ensures.value
