use Rattle.std.proofs.Common.{◌+◌, ◌++◌, ap, drop, refl, sym, ◌∙◌}
use Rattle.au_explain.specs.Mentions.{is_bound_by, mentioned, mentions_of, mentions_of_arms}
use Rattle.au_explain.specs.Mentions.{mentions_of_block, mentions_of_branches, unless}
use Rattle.au_explain.specs.Said.{arms_said, binds_said, block_said, branches_said, expression_said}
use Rattle.au_explain.specs.Said.{statement_said, statements_said}
use Rattle.au_explain.proofs.PutLemmas as puts
use Rattle.au_explain.proofs.StatementLemmas.{hidden_behind, shown_behind}
use Rattle.au_explain.proofs.blocks.+statements.Goals as goal

pub add_block-loop-one-preserved : goal.add_block-loop-one-preserved
add_block-loop-one-preserved t c =
    puts.item_put (λ ss. mentions_of_block c.args.x.now (statements_said ss)) c.deref-one-items.result.now
    c.loop-one.one-index
    c.one-item.result c.one-item.is c.loop-one-test.true (mentions_of c.args.x.now (statement_said c.one-item.result))
    c.loop-one.made.items c.add_statement.new.made.items _
    (shown_behind c.args.x.now (statement_said c.one-item.result)
    (statements_said (drop (c.loop-one.one-index + 1) c.deref-one-items.result.now))
    (sym c.if-is_declared_by.false ∙ c.is_declared_by.ensures))
    c.loop-one.invariant c.in_ok-add_statement.ensures

pub add_block-returns-then-is_declared_by : goal.add_block-returns-then-is_declared_by
add_block-returns-then-is_declared_by t c =
    puts.last_put (λ ss. mentions_of_block c.args.x.now (statements_said ss)) c.deref-one-items.result.now
    c.loop-one.one-index
    c.one-item.result c.one-item.is c.loop-one-test.true (mentions_of c.args.x.now (statement_said c.one-item.result))
    c.loop-one.made.items c.add_statement.new.made.items _
    (hidden_behind c.args.x.now (statement_said c.one-item.result)
    (statements_said (drop (c.loop-one.one-index + 1) c.deref-one-items.result.now))
    (sym c.if-is_declared_by.true ∙ c.is_declared_by.ensures))
    c.loop-one.invariant c.in_ok-add_statement.ensures
    ∙ ap (λ ss. c.args.made.now.items ++ mentions_of_block c.args.x.now (statements_said ss))
    c.deref-one-items.ensures.value

pub add_block-returns : goal.add_block-returns
add_block-returns t c =
    puts.items_put (λ ss. mentions_of_block c.args.x.now (statements_said ss)) c.deref-one-items.result.now
    c.loop-one.one-index
    c.loop-one-test.false c.loop-one.made.items _ refl c.loop-one.invariant
    ∙ ap (λ ss. c.args.made.now.items ++ mentions_of_block c.args.x.now (statements_said ss))
    c.deref-one-items.ensures.value

pub add_branches-loop-one-preserved : goal.add_branches-loop-one-preserved
add_branches-loop-one-preserved t c =
    puts.item_put (λ bs. mentions_of_branches c.args.x.now (branches_said bs)) c.deref-one-items.result.now
    c.loop-one.one-index
    c.one-item.result c.one-item.is c.loop-one-test.true
    (mentioned c.args.x.now (expression_said c.one-item.result.test.value)
    ++ mentions_of_block c.args.x.now (block_said c.one-item.result.block))
    c.loop-one.made.items c.add_branch.new.made.items _ refl c.loop-one.invariant c.in_ok-add_branch.ensures

pub add_branches-returns : goal.add_branches-returns
add_branches-returns t c =
    puts.items_put (λ bs. mentions_of_branches c.args.x.now (branches_said bs)) c.deref-one-items.result.now
    c.loop-one.one-index
    c.loop-one-test.false c.loop-one.made.items _ refl c.loop-one.invariant
    ∙ ap (λ bs. c.args.made.now.items ++ mentions_of_branches c.args.x.now (branches_said bs))
    c.deref-one-items.ensures.value

pub add_arms-loop-one-preserved : goal.add_arms-loop-one-preserved
add_arms-loop-one-preserved t c =
    puts.item_put (λ all. mentions_of_arms c.args.x.now (arms_said all)) c.deref-one-items.result.now
    c.loop-one.one-index
    c.one-item.result c.one-item.is c.loop-one-test.true
    (unless c.args.x.now (is_bound_by c.args.x.now (binds_said c.one-item.result.binds.items))
    (mentions_of_block c.args.x.now (block_said c.one-item.result.block)))
    c.loop-one.made.items c.add_arm.new.made.items _ refl c.loop-one.invariant c.in_ok-add_arm.ensures

pub add_arms-returns : goal.add_arms-returns
add_arms-returns t c =
    puts.items_put (λ all. mentions_of_arms c.args.x.now (arms_said all)) c.deref-one-items.result.now
    c.loop-one.one-index
    c.loop-one-test.false c.loop-one.made.items _ refl c.loop-one.invariant
    ∙ ap (λ all. c.args.made.now.items ++ mentions_of_arms c.args.x.now (arms_said all)) c.deref-one-items.ensures.value
