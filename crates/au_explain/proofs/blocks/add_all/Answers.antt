use Rattle.std.proofs.Common.{◌+◌, drop, refl, sym, ◌∙◌}
use Rattle.au_explain.specs.Mentions.{mentions_of, mentions_of_block}
use Rattle.au_explain.specs.Said.{statement_said, statements_said}
use Rattle.au_explain.proofs.PutLemmas as puts
use Rattle.au_explain.proofs.StatementLemmas.{hidden_behind, shown_behind}
use Rattle.au_explain.proofs.blocks.add_all.Goals as goal

pub loop-one-preserved : goal.loop-one-preserved
loop-one-preserved c =
    puts.item_put (λ ss. mentions_of_block c.args.x.now (statements_said ss)) c.args.stmts.now c.loop-one.one-index
    c.one-item.result c.one-item.is c.loop-one-test.true (mentions_of c.args.x.now (statement_said c.one-item.result))
    c.loop-one.made.items c.add_statement.new.made.items _
    (shown_behind c.args.x.now (statement_said c.one-item.result)
    (statements_said (drop (c.loop-one.one-index + 1) c.args.stmts.now))
    (sym c.if-is_declared_by.false ∙ c.is_declared_by.ensures))
    c.loop-one.invariant c.in_ok-add_statement.ensures

pub returns-then-is_declared_by : goal.returns-then-is_declared_by
returns-then-is_declared_by c =
    puts.last_put (λ ss. mentions_of_block c.args.x.now (statements_said ss)) c.args.stmts.now c.loop-one.one-index
    c.one-item.result c.one-item.is c.loop-one-test.true (mentions_of c.args.x.now (statement_said c.one-item.result))
    c.loop-one.made.items c.add_statement.new.made.items _
    (hidden_behind c.args.x.now (statement_said c.one-item.result)
    (statements_said (drop (c.loop-one.one-index + 1) c.args.stmts.now))
    (sym c.if-is_declared_by.true ∙ c.is_declared_by.ensures))
    c.loop-one.invariant c.in_ok-add_statement.ensures

pub returns : goal.returns
returns c =
    puts.items_put (λ ss. mentions_of_block c.args.x.now (statements_said ss)) c.args.stmts.now c.loop-one.one-index
    c.loop-one-test.false c.loop-one.made.items _ refl c.loop-one.invariant
