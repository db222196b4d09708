use Rattle.std.proofs.Common.{arith, ap, sym, ◌∙◌}
use Rattle.std.proofs.lemmas.List.{at_drop_all}
use Rattle.au_closed_trees.specs.contracts.phase.ClosedTreesPhase.TheImpl.{ghosts as closed}
use Rattle.au_lowered.specs.Expressions.{one_opens, one_opens_named}
use Rattle.au_lowering_expressions.proofs.LoopLemmas.{opens_named_step, opens_step}
use Rattle.au_syntax.specs.Views.{argument_all, expression_all}
use Rattle.au_lowering_expressions.proofs.opening.+opens.Goals as goal

pub one_opens-loop-one-preserved : goal.one_opens-loop-one-preserved
one_opens-loop-one-preserved t c =
    grind (
      arith,
      opens_step c.deref-one-items.result.now c.loop-one.one-index c.one-item.result
          c.loop-one-test.true c.one-item.is,
    )

pub one_opens-returns-then-opens : goal.one_opens-returns-then-opens
one_opens-returns-then-opens t c =
    grind (
      arith,
      opens_step c.deref-one-items.result.now c.loop-one.one-index c.one-item.result
          c.loop-one-test.true c.one-item.is,
    )

pub one_opens-returns : goal.one_opens-returns
one_opens-returns t c =
    sym (at_drop_all (λ rest. one_opens (expression_all closed rest)) c.deref-one-items.result.now
    c.loop-one.one-index c.loop-one-test.false)
    ∙ c.loop-one.invariant
    ∙ ap (λ rest. one_opens (expression_all closed rest)) c.deref-one-items.ensures.value

pub one_opens_named-loop-one-preserved : goal.one_opens_named-loop-one-preserved
one_opens_named-loop-one-preserved t c =
    grind (
      arith,
      opens_named_step c.deref-one-items.result.now c.loop-one.one-index c.one-item.result
          c.loop-one-test.true c.one-item.is,
    )

pub one_opens_named-returns-then-argument_opens : goal.one_opens_named-returns-then-argument_opens
one_opens_named-returns-then-argument_opens t c =
    grind (
      arith,
      opens_named_step c.deref-one-items.result.now c.loop-one.one-index c.one-item.result
          c.loop-one-test.true c.one-item.is,
    )

pub one_opens_named-returns : goal.one_opens_named-returns
one_opens_named-returns t c =
    sym (at_drop_all (λ rest. one_opens_named (argument_all closed rest)) c.deref-one-items.result.now
    c.loop-one.one-index c.loop-one-test.false)
    ∙ c.loop-one.invariant
    ∙ ap (λ rest. one_opens_named (argument_all closed rest)) c.deref-one-items.ensures.value
