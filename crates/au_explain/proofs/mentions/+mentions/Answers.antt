use Rattle.std.proofs.Common.{◌++◌, ap, refl, ◌∙◌}
use Rattle.au_explain.specs.Mentions.{mentions_in, mentions_in_all, mentions_in_arguments}
use Rattle.au_explain.specs.Said.{arguments_said, expression_said, expressions_said}
use Rattle.au_explain.proofs.PutLemmas as puts
use Rattle.au_explain.proofs.mentions.+mentions.Goals as goal

pub add_all-loop-one-preserved : goal.add_all-loop-one-preserved
add_all-loop-one-preserved t c =
    puts.item_put (λ es. mentions_in_all c.args.x.now c.args.looks (expressions_said es))
    c.deref-one-items.result.now c.loop-one.one-index
    c.one-item.result c.one-item.is c.loop-one-test.true
    (mentions_in c.args.x.now c.args.looks (expression_said c.one-item.result))
    c.loop-one.made.items c.add_expression.new.made.items _ refl c.loop-one.invariant c.in_ok-add_expression.ensures

pub add_all-returns : goal.add_all-returns
add_all-returns t c =
    puts.items_put (λ es. mentions_in_all c.args.x.now c.args.looks (expressions_said es))
    c.deref-one-items.result.now c.loop-one.one-index
    c.loop-one-test.false c.loop-one.made.items _ refl c.loop-one.invariant
    ∙ ap (λ es. c.args.made.now.items ++ mentions_in_all c.args.x.now c.args.looks (expressions_said es))
    c.deref-one-items.ensures.value

pub add_arguments-loop-one-preserved : goal.add_arguments-loop-one-preserved
add_arguments-loop-one-preserved t c =
    puts.item_put (λ es. mentions_in_arguments c.args.x.now c.args.looks (arguments_said es))
    c.deref-one-items.result.now c.loop-one.one-index
    c.one-item.result c.one-item.is c.loop-one-test.true
    (mentions_in c.args.x.now c.args.looks (expression_said c.one-item.result.value))
    c.loop-one.made.items c.add_argument.new.made.items _ refl c.loop-one.invariant c.in_ok-add_argument.ensures

pub add_arguments-returns : goal.add_arguments-returns
add_arguments-returns t c =
    puts.items_put (λ es. mentions_in_arguments c.args.x.now c.args.looks (arguments_said es))
    c.deref-one-items.result.now c.loop-one.one-index
    c.loop-one-test.false c.loop-one.made.items _ refl c.loop-one.invariant
    ∙ ap (λ es. c.args.made.now.items ++ mentions_in_arguments c.args.x.now c.args.looks (arguments_said es))
    c.deref-one-items.ensures.value
