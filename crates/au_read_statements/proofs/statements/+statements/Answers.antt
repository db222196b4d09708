use Rattle.std.proofs.Common.{◌-◌, ◌+◌, length, drop, map, ap, sym, subst, ◌∙◌, arith}
use Rattle.std.proofs.lemmas.Grind.{common_steps}
use Rattle.std.proofs.lemmas.Result.{err_from_is_err_and}
use Rattle.au_base.specs.declared.tokens.Keyword.TheVariants as keyword
use Rattle.au_base.specs.declared.tokens.What.TheVariants as what
use Rattle.au_read_expressions.specs.ExpressionReading.{call_at, expression_at}
use Rattle.au_read_statements.specs.Seen.{arm_seen, branch_seen}
use Rattle.au_read_statements.specs.StatementReading as spec
use Rattle.au_read_statements.specs.StatementReading.{block_at, conditional_with}
use Rattle.au_read_statements.proofs.BlockHeads.{case_said, while_said, for_said, borrow_in_said, borrow_typed_said}
use Rattle.au_read_statements.proofs.CodeBorrows.{borrow_said, front_is, word_is}
use Rattle.au_read_statements.proofs.CodeLists.{branches_are, arms_are, branches_on, branches_end, branches_fail}
use Rattle.au_read_expressions.specs.Bounds.{usual}
use Rattle.au_read_expressions.specs.Reading.{Gives, is_front, read_of, repeated_at}
use Rattle.au_read_expressions.proofs.Steps.{passes_on}
use Rattle.au_read_expressions.proofs.Loops.{with_front, map_pushed, repeated_on, repeated_fails, repeated_ends}
use Rattle.au_syntax.proofs.StatementLemmas.{if_says, if_else_says, case_says, while_says, for_says}
use Rattle.au_syntax.proofs.StatementLemmas.{borrow_says, borrow_typed_says}
use Rattle.au_syntax.specs.contracts.parsed.ParsedPhase.TheImpl.{ghosts as parsed}
use Rattle.au_syntax.specs.Views.{statement}
use Rattle.au_read_statements.proofs.statements.+statements.Goals as goal

pub several-returns-then-not-begins : goal.several-returns-then-not-begins
several-returns-then-not-begins t c =
    sym c.loop.invariant
    ∙ repeated_ends spec.begins_statement (spec.statement_at usual c.args.levels)
    (map (statement parsed) c.loop.statements.items) (length c.args.tokens.now - c.loop.counter)
    (length c.args.tokens.now - c.loop.counter - 1) c.loop.rest.now (omega (arith, c.loop-test.true))
    (sym c.if-not-begins.ensures)

pub several-returns-in_err-one : goal.several-returns-in_err-one
several-returns-in_err-one t c =
    let p = err_from_is_err_and c.from_residual.result c.from_residual.ensures.1 in
    passes_on (λ x. (map (statement parsed) x.0.items, x.1.now)) c.from_residual.result _ _ _ p c.in_err-one.ensures
    (λ f is. sym c.loop.invariant ∙ repeated_fails spec.begins_statement
    (spec.statement_at usual c.args.levels) (map (statement parsed) c.loop.statements.items) f
    (length c.args.tokens.now - c.loop.counter) (length c.args.tokens.now - c.loop.counter - 1)
    c.loop.rest.now (omega (arith, c.loop-test.true)) (sym c.if-not-begins.ensures) is)

pub several-loop-preserved : goal.several-loop-preserved
several-loop-preserved t c =
    ap (λ xs. with_front xs (repeated_at spec.begins_statement (spec.statement_at usual c.args.levels)
    (length c.args.tokens.now - (c.loop.counter + 1)) c.in_ok-one.next.now))
    (map_pushed (statement parsed) c.loop.statements.items c.push.new.self.items c.in_ok-one.one
    c.in_ok-push.ensures.items)
    ∙ sym (repeated_on spec.begins_statement (spec.statement_at usual c.args.levels)
    (map (statement parsed) c.loop.statements.items) (statement parsed c.in_ok-one.one)
    (length c.args.tokens.now - c.loop.counter) (length c.args.tokens.now - (c.loop.counter + 1))
    c.loop.rest.now c.in_ok-one.next.now (omega (arith, c.loop-test.true)) (sym c.if-not-begins.ensures)
    c.in_ok-one.ensures)
    ∙ c.loop.invariant

pub arms-returns-then-not-is_word : goal.arms-returns-then-not-is_word
arms-returns-then-not-is_word t c =
    sym c.loop.invariant
    ∙ repeated_ends (is_front (what.Word keyword.KwWhen))
    (spec.arm_with usual (expression_at usual c.args.levels) (call_at usual c.args.levels)
    (block_at usual c.args.levels)) (map arm_seen c.loop.cases.items)
    (length c.args.tokens.now - c.loop.counter) (length c.args.tokens.now - c.loop.counter - 1)
    c.loop.rest.now (omega (arith, c.loop-test.true)) (sym c.if-not-is_word.ensures)

pub arms-loop-preserved : goal.arms-loop-preserved
arms-loop-preserved t c =
    ap (λ xs. with_front xs (repeated_at (is_front (what.Word keyword.KwWhen))
    (spec.arm_with usual (expression_at usual c.args.levels) (call_at usual c.args.levels)
    (block_at usual c.args.levels)) (length c.args.tokens.now - (c.loop.counter + 1)) c.in_ok-one.next.now))
    (map_pushed arm_seen c.loop.cases.items c.push.new.self.items c.in_ok-one.one
    c.in_ok-push.ensures.items)
    ∙ sym (repeated_on (is_front (what.Word keyword.KwWhen))
    (spec.arm_with usual (expression_at usual c.args.levels) (call_at usual c.args.levels)
    (block_at usual c.args.levels)) (map arm_seen c.loop.cases.items) (arm_seen c.in_ok-one.one)
    (length c.args.tokens.now - c.loop.counter) (length c.args.tokens.now - (c.loop.counter + 1))
    c.loop.rest.now c.in_ok-one.next.now (omega (arith, c.loop-test.true)) (sym c.if-not-is_word.ensures)
    c.in_ok-one.ensures)
    ∙ c.loop.invariant

pub branches-returns-then-not-else_if : goal.branches-returns-then-not-else_if
branches-returns-then-not-else_if t c =
    sym c.loop.invariant
    ∙ branches_end usual (expression_at usual c.args.levels) (call_at usual c.args.levels)
    (block_at usual c.args.levels) (map (branch_seen parsed) c.loop.tests.items)
    (branch_seen parsed c.in_ok-test.test) (length c.args.tokens.now - c.loop.counter)
    (length c.args.tokens.now - c.loop.counter - 1) c.loop.rest.now c.in_ok-test.next.now
    (omega (arith, c.loop-test.true)) c.in_ok-test.ensures (sym c.if-not-else_if.ensures)
    ∙ ap (λ xs. read_of xs c.in_ok-test.next.now)
    (sym (map_pushed (branch_seen parsed) c.loop.tests.items c.push.new.self.items c.in_ok-test.test
    c.in_ok-push.ensures.items))

pub branches-loop-preserved : goal.branches-loop-preserved
branches-loop-preserved t c =
    ap (λ r. with_front (map (branch_seen parsed) c.push.new.self.items)
    (spec.branches_within usual (expression_at usual c.args.levels) (call_at usual c.args.levels)
    (block_at usual c.args.levels) (length c.args.tokens.now - (c.loop.counter + 1)) r))
    c.after-rest.ensures
    ∙ ap (λ xs. with_front xs (spec.branches_within usual (expression_at usual c.args.levels)
    (call_at usual c.args.levels) (block_at usual c.args.levels)
    (length c.args.tokens.now - (c.loop.counter + 1)) (drop 1 c.in_ok-test.next.now)))
    (map_pushed (branch_seen parsed) c.loop.tests.items c.push.new.self.items c.in_ok-test.test
    c.in_ok-push.ensures.items)
    ∙ sym (branches_on usual (expression_at usual c.args.levels) (call_at usual c.args.levels)
    (block_at usual c.args.levels) (map (branch_seen parsed) c.loop.tests.items)
    (branch_seen parsed c.in_ok-test.test) (length c.args.tokens.now - c.loop.counter)
    (length c.args.tokens.now - (c.loop.counter + 1)) c.loop.rest.now c.in_ok-test.next.now
    (omega (arith, c.loop-test.true)) c.in_ok-test.ensures (sym c.if-not-else_if.ensures))
    ∙ c.loop.invariant

pub arms-returns-in_err-one : goal.arms-returns-in_err-one
arms-returns-in_err-one t c =
    let p = err_from_is_err_and c.from_residual.result c.from_residual.ensures.1 in
    passes_on (λ x. (map arm_seen x.0.items, x.1.now)) c.from_residual.result _ _ _ p c.in_err-one.ensures
    (λ f is. sym c.loop.invariant ∙ repeated_fails (is_front (what.Word keyword.KwWhen))
    (spec.arm_with usual (expression_at usual c.args.levels) (call_at usual c.args.levels)
    (block_at usual c.args.levels)) (map arm_seen c.loop.cases.items) f
    (length c.args.tokens.now - c.loop.counter) (length c.args.tokens.now - c.loop.counter - 1)
    c.loop.rest.now (omega (arith, c.loop-test.true)) (sym c.if-not-is_word.ensures) is)

pub branches-returns-in_err-test : goal.branches-returns-in_err-test
branches-returns-in_err-test t c =
    let p = err_from_is_err_and c.from_residual.result c.from_residual.ensures.1 in
    passes_on (λ x. (map (branch_seen parsed) x.0.items, x.1.now)) c.from_residual.result _ _ _ p c.in_err-test.ensures
    (λ f is. sym c.loop.invariant ∙ branches_fail usual (expression_at usual c.args.levels)
    (call_at usual c.args.levels) (block_at usual c.args.levels)
    (map (branch_seen parsed) c.loop.tests.items) f (length c.args.tokens.now - c.loop.counter)
    (length c.args.tokens.now - c.loop.counter - 1) c.loop.rest.now (omega (arith, c.loop-test.true)) is)

pub statement_with-returns-in-Word-KwBorrow : goal.statement_with-returns-in-Word-KwBorrow
statement_with-returns-in-Word-KwBorrow t c =
    let word = word_is c.first-item.result.what c.in-Word-KwBorrow.field-0 _ c.in-Word-KwBorrow.is
    c.in-Word-KwBorrow.field-0-is in
    let first = front_is c.args.tokens.now c.first-item.result (what.Word keyword.KwBorrow)
    (omega (arith, c.in-len1-up.len_at_least)) c.first-item.is (c.in-Word-KwBorrow.is ∙ ap what.Word word)
    in
    subst (λ read. Gives (λ x. (statement parsed x.0, x.1.now)) c.borrow_statement.result read)
    (sym (borrow_said usual (expression_at usual c.args.levels) (call_at usual c.args.levels)
    (block_at usual c.args.levels) c.args.tokens.now first)) c.borrow_statement.ensures

pub conditional-returns-then-is_word : goal.conditional-returns-then-is_word
unfolding conditional_with
conditional-returns-then-is_word t c = grind (arith, common_steps, if_else_says, branches_are)

pub conditional-returns : goal.conditional-returns
unfolding conditional_with
conditional-returns t c = grind (arith, common_steps, if_says, branches_are)

pub case-returns-in-Ok : goal.case-returns-in-Ok
case-returns-in-Ok t c = grind (arith, common_steps, case_said, case_says, arms_are)

pub while_loop-returns-in-Ok : goal.while_loop-returns-in-Ok
while_loop-returns-in-Ok t c = grind (arith, common_steps, while_said, while_says)

pub for_loop-returns-in-Ok : goal.for_loop-returns-in-Ok
for_loop-returns-in-Ok t c = grind (arith, common_steps, for_said, for_says)

pub borrow_in-returns-in-Ok : goal.borrow_in-returns-in-Ok
borrow_in-returns-in-Ok t c = grind (arith, common_steps, borrow_in_said, borrow_says)

pub borrow_typed-returns-in-Ok : goal.borrow_typed-returns-in-Ok
borrow_typed-returns-in-Ok t c = grind (arith, common_steps, borrow_typed_said, borrow_typed_says)
