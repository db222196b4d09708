use Rattle.std.proofs.Common.{arith, ℕ, ◌+◌, List, Ok, ap, drop, subst, sym, ◌∙◌}
use Rattle.std.proofs.lemmas.Result.{err_from_is_err_and}
use Rattle.au_typing.specs.InScope.{after, fixed_variable, with_bound}
use Rattle.au_typing.specs.Returns.{returns}
use Rattle.au_typing.specs.DerivationSearch.{judge_next, note_arms, note_block, note_branches}
use Rattle.au_judgements.proofs.LeavingLemmas.{after_grown, grown_left, grown_twice}
use Rattle.au_judgements.specs.Leaving.{IsGrown}
use Rattle.au_judgements.specs.Said.{binds_said}
use Rattle.au_sights.specs.contracts.noted.NotedPhase.TheImpl.{ghosts as noted}
use Rattle.au_noting.specs.Said.{fields_said}
use Rattle.au_noting.specs.Scopes.{scope_said}
use Rattle.au_noting_statements.specs.Noted.{all_boxed, boxed}
use Rattle.au_typing.specs.Scopes.{Scope}
use Rattle.au_syntax.specs.contracts.parsed.ParsedPhase.TheImpl.{ghosts as parsed}
use Rattle.au_syntax.specs.Names.{Placed}
use Rattle.au_syntax.specs.Plain.{Bytes}
use Rattle.au_syntax.specs.Statements.{declare, destructure, assign, assign_through, case_of, while_loop}
use Rattle.au_syntax.specs.Statements.{for_loop, borrow_in, borrow_typed, discard, return_of}
use Rattle.au_syntax.specs.Types.{WrittenType}
use Rattle.au_syntax.specs.Views.{arm_all, block, branch_all, expression, placed, statement, statement_all, written}
use Rattle.au_syntax.proofs.StatementLemmas.{skip_says, let_says, destructure_says, assign_says}
use Rattle.au_syntax.proofs.StatementLemmas.{assign_through_says, if_says, if_else_says, case_says}
use Rattle.au_syntax.proofs.StatementLemmas.{while_says, for_says, borrow_says, borrow_typed_says, call_says}
use Rattle.au_syntax.proofs.StatementLemmas.{return_says}
use Rattle.au_typing.specs.Notes.{type_of}
use Rattle.au_noting_statements.proofs.Depths.{ParsedCode, ParsedArm, ParsedBranch, ParsedStmt, if_deep}
use Rattle.au_noting_statements.proofs.Depths.{if_else_deep, case_deep, while_deep, for_deep, borrow_deep}
use Rattle.au_noting_statements.proofs.Depths.{borrow_typed_deep, statement_within, branch_within, arm_within}
use Rattle.au_noting_statements.proofs.Fronts.{stops_by}
use Rattle.au_noting_statements.proofs.Forms.{told_by, if_stops, if_stops_behind, if_noted, if_else_stops}
use Rattle.au_noting_statements.proofs.Forms.{if_else_stops_behind, if_else_stops_last, if_else_noted}
use Rattle.au_noting_statements.proofs.Forms.{case_stops, case_stops_behind, case_noted, while_stops}
use Rattle.au_noting_statements.proofs.Forms.{while_stops_behind, while_noted, for_stops, for_stops_behind}
use Rattle.au_noting_statements.proofs.Forms.{for_noted, borrow_stops, borrow_stops_behind, borrow_noted}
use Rattle.au_noting_statements.proofs.Forms.{typed_stops, typed_stops_behind, typed_noted, left_to}
use Rattle.au_noting_statements.proofs.Forms.{left_again, closed_again, variable_back, bound_back, typed_back}
use Rattle.au_noting_statements.proofs.Forms.{lent_back}
use Rattle.au_noting_statements.proofs.Turns.{rest_is, block_ends, block_turn_stops_behind, block_turn}
use Rattle.au_noting_statements.proofs.Turns.{branches_end, branches_turn_ends, branches_turn_stops}
use Rattle.au_noting_statements.proofs.Turns.{branches_turn, arms_end, arms_turn_stops, arms_turn}
use Rattle.au_noting_statements.proofs.blocks.+note_statement.Goals as goal

pub note_if-returns-in_err-tests-clause-judged : goal.note_if-returns-in_err-tests-clause-judged
note_if-returns-in_err-tests-clause-judged t c =
    let p = err_from_is_err_and c.from_residual.result c.from_residual.ensures.1 in
    stops_by (statement noted) c.from_residual.result _ _ _ p c.in_err-tests.ensures
    (λ f h. if_stops c.args.at (branch_all parsed c.args.branches.now.items) (scope_said c.args.scope.now) f h)

pub note_if-returns-in_err-branches-clause-judged : goal.note_if-returns-in_err-branches-clause-judged
note_if-returns-in_err-branches-clause-judged t c =
    let p = err_from_is_err_and c.from_residual-in_err-branches.result c.from_residual-in_err-branches.ensures.1 in
    stops_by (statement noted) c.from_residual-in_err-branches.result _ _ _ p c.in_err-branches.ensures.judged
    (λ f h. if_stops_behind c.args.at (branch_all parsed c.args.branches.now.items)
    (scope_said c.args.scope.now) (all_boxed c.in_ok-tests.tests.items) f c.in_ok-tests.ensures h)

pub note_if-returns-clause-judged : goal.note_if-returns-clause-judged
note_if-returns-clause-judged t c =
    if_noted c.args.at (branch_all parsed c.args.branches.now.items) (scope_said c.args.scope.now)
    (all_boxed c.in_ok-tests.tests.items) (branch_all noted c.in_ok-branches.branches.items)
    c.in_ok-tests.ensures c.in_ok-branches.ensures.judged
    ∙ ap Ok (sym (if_says noted c.args.at c.in_ok-branches.branches))

pub note_if_else-returns-in_err-tests-clause-judged : goal.note_if_else-returns-in_err-tests-clause-judged
note_if_else-returns-in_err-tests-clause-judged t c =
    let p = err_from_is_err_and c.from_residual.result c.from_residual.ensures.1 in
    stops_by (statement noted) c.from_residual.result _ _ _ p c.in_err-tests.ensures
    (λ f h. if_else_stops c.args.at (branch_all parsed c.args.branches.now.items)
    (scope_said c.args.scope.now) (block parsed c.args.last.now) f h)

pub note_if_else-returns-in_err-branches-clause-judged : goal.note_if_else-returns-in_err-branches-clause-judged
note_if_else-returns-in_err-branches-clause-judged t c =
    let p = err_from_is_err_and c.from_residual-in_err-branches.result c.from_residual-in_err-branches.ensures.1 in
    stops_by (statement noted) c.from_residual-in_err-branches.result _ _ _ p c.in_err-branches.ensures.judged
    (λ f h. if_else_stops_behind c.args.at (branch_all parsed c.args.branches.now.items)
    (scope_said c.args.scope.now) (block parsed c.args.last.now) (all_boxed c.in_ok-tests.tests.items) f
    c.in_ok-tests.ensures h)

pub note_if_else-returns-in_err-last-clause-judged : goal.note_if_else-returns-in_err-last-clause-judged
note_if_else-returns-in_err-last-clause-judged t c =
    let p = err_from_is_err_and c.from_residual-in_err-last.result c.from_residual-in_err-last.ensures.1 in
    stops_by (statement noted) c.from_residual-in_err-last.result _ _ _ p c.in_err-last.ensures.judged
    (λ f h. if_else_stops_last c.args.at (branch_all parsed c.args.branches.now.items)
    (scope_said c.args.scope.now) (block parsed c.args.last.now) (all_boxed c.in_ok-tests.tests.items)
    (branch_all noted c.in_ok-branches.branches.items) f
    c.in_ok-tests.ensures c.in_ok-branches.ensures.judged
    (ap (note_block (block parsed c.args.last.now)) (sym c.in_ok-branches.ensures.left) ∙ h))

pub note_if_else-returns-clause-judged : goal.note_if_else-returns-clause-judged
note_if_else-returns-clause-judged t c =
    if_else_noted c.args.at (branch_all parsed c.args.branches.now.items) (scope_said c.args.scope.now)
    (block parsed c.args.last.now) (all_boxed c.in_ok-tests.tests.items)
    (branch_all noted c.in_ok-branches.branches.items) (block noted c.in_ok-last.last)
    c.in_ok-tests.ensures c.in_ok-branches.ensures.judged
    (ap (note_block (block parsed c.args.last.now)) (sym c.in_ok-branches.ensures.left)
    ∙ c.in_ok-last.ensures.judged)
    ∙ ap Ok (sym (if_else_says noted c.args.at c.in_ok-branches.branches c.in_ok-last.last))

pub note_if_else-returns-clause-left : goal.note_if_else-returns-clause-left
note_if_else-returns-clause-left t c =
    c.in_ok-last.ensures.left ∙ c.in_ok-branches.ensures.left

pub note_case_of-returns-in_err-value-clause-judged : goal.note_case_of-returns-in_err-value-clause-judged
note_case_of-returns-in_err-value-clause-judged t c =
    let p = err_from_is_err_and c.from_residual.result c.from_residual.ensures.1 in
    stops_by (statement noted) c.from_residual.result _ _ _ p c.in_err-value.ensures
    (λ f h. case_stops c.args.at (expression parsed c.args.value.now) (arm_all parsed c.args.arms.now.items)
    (scope_said c.args.scope.now) f h)

pub note_case_of-returns-in_err-arms-clause-judged : goal.note_case_of-returns-in_err-arms-clause-judged
note_case_of-returns-in_err-arms-clause-judged t c =
    let p = err_from_is_err_and c.from_residual-in_err-arms.result c.from_residual-in_err-arms.ensures.1 in
    stops_by (statement noted) c.from_residual-in_err-arms.result _ _ _ p c.in_err-arms.ensures.judged
    (λ f h. case_stops_behind c.args.at (expression parsed c.args.value.now)
    (arm_all parsed c.args.arms.now.items) (scope_said c.args.scope.now) (boxed c.in_ok-value.value) f
    c.in_ok-value.ensures h)

pub note_case_of-returns-clause-judged : goal.note_case_of-returns-clause-judged
note_case_of-returns-clause-judged t c =
    case_noted c.args.at (expression parsed c.args.value.now) (arm_all parsed c.args.arms.now.items)
    (scope_said c.args.scope.now) (boxed c.in_ok-value.value) (arm_all noted c.in_ok-arms.arms.items)
    c.in_ok-value.ensures c.in_ok-arms.ensures.judged
    ∙ ap Ok (sym (case_says noted c.args.at c.in_ok-value.value c.in_ok-arms.arms))

pub note_while-returns-in_err-test-clause-judged : goal.note_while-returns-in_err-test-clause-judged
note_while-returns-in_err-test-clause-judged t c =
    let p = err_from_is_err_and c.from_residual.result c.from_residual.ensures.1 in
    stops_by (statement noted) c.from_residual.result _ _ _ p c.in_err-test.ensures
    (λ f h. while_stops c.args.at (expression parsed c.args.test.now) (block parsed c.args.body.now)
    (scope_said c.args.scope.now) f h)

pub note_while-returns-in_err-body-clause-judged : goal.note_while-returns-in_err-body-clause-judged
note_while-returns-in_err-body-clause-judged t c =
    let p = err_from_is_err_and c.from_residual-in_err-body.result c.from_residual-in_err-body.ensures.1 in
    stops_by (statement noted) c.from_residual-in_err-body.result _ _ _ p c.in_err-body.ensures.judged
    (λ f h. while_stops_behind c.args.at (expression parsed c.args.test.now) (block parsed c.args.body.now)
    (scope_said c.args.scope.now) (boxed c.in_ok-test.test) f c.in_ok-test.ensures h)

pub note_while-returns-clause-judged : goal.note_while-returns-clause-judged
note_while-returns-clause-judged t c =
    while_noted c.args.at (expression parsed c.args.test.now) (block parsed c.args.body.now)
    (scope_said c.args.scope.now) (boxed c.in_ok-test.test) (block noted c.in_ok-body.body)
    c.in_ok-test.ensures c.in_ok-body.ensures.judged
    ∙ ap Ok (sym (while_says noted c.args.at c.in_ok-test.test c.in_ok-body.body))

pub note_for-returns-in_err-name-clause-judged : goal.note_for-returns-in_err-name-clause-judged
note_for-returns-in_err-name-clause-judged t c =
    let p = err_from_is_err_and c.from_residual.result c.from_residual.ensures.1 in
    stops_by (statement noted) c.from_residual.result _ _ _ p c.in_err-name.ensures.judged
    (λ f h. for_stops c.args.at (placed parsed c.args.name.now) (expression parsed c.args.first.now)
    (expression parsed c.args.last.now) (block parsed c.args.body.now) (scope_said c.args.scope.now) f h)

pub note_for-returns-in_err-body-clause-judged : goal.note_for-returns-in_err-body-clause-judged
note_for-returns-in_err-body-clause-judged t c =
    let p = err_from_is_err_and c.from_residual-in_err-body.result c.from_residual-in_err-body.ensures.1 in
    stops_by (statement noted) c.from_residual-in_err-body.result _ _ _ p c.in_err-body.ensures.judged
    (λ f h. for_stops_behind c.args.at (placed parsed c.args.name.now) (expression parsed c.args.first.now)
    (expression parsed c.args.last.now) (block parsed c.args.body.now) (scope_said c.args.scope.now)
    (boxed c.in_ok-name.first) (boxed c.in_ok-name.last) (scope_said c.for_at.new.scope) f
    c.in_ok-name.ensures.judged c.in_ok-name.ensures.inside h)

pub note_for-returns-clause-judged : goal.note_for-returns-clause-judged
note_for-returns-clause-judged t c =
    for_noted c.args.at (placed parsed c.args.name.now) (expression parsed c.args.first.now)
    (expression parsed c.args.last.now) (block parsed c.args.body.now) (scope_said c.args.scope.now)
    (boxed c.in_ok-name.first) (boxed c.in_ok-name.last) (scope_said c.for_at.new.scope)
    (block noted c.in_ok-body.body)
    c.in_ok-name.ensures.judged c.in_ok-name.ensures.inside c.in_ok-body.ensures.judged
    ∙ ap (λ (n : Placed Bytes). Ok
    (for_loop c.args.at n (boxed c.in_ok-name.first) (boxed c.in_ok-name.last)
    (block noted c.in_ok-body.body))) (sym c.in_ok-name.ensures.name)
    ∙ ap Ok (sym (for_says noted c.args.at c.in_ok-name.name c.in_ok-name.first c.in_ok-name.last c.in_ok-body.body))

pub note_for-returns-clause-left : goal.note_for-returns-clause-left
note_for-returns-clause-left t c =
    left_again (scope_said c.args.scope.now) (scope_said c.for_at.new.scope)
    (scope_said c.note_block.new.scope) _ c.depth-depth.result c.depth-depth.ensures
    (variable_back (fixed_variable c.args.name.now.name (type_of (boxed c.in_ok-name.first)))
    (scope_said c.args.scope.now) (scope_said c.for_at.new.scope) c.in_ok-name.ensures.inside)
    c.in_ok-body.ensures.left c.leave_to.ensures

pub note_borrow-returns-in_err-names-clause-judged : goal.note_borrow-returns-in_err-names-clause-judged
note_borrow-returns-in_err-names-clause-judged t c =
    let p = err_from_is_err_and c.from_residual.result c.from_residual.ensures.1 in
    stops_by (statement noted) c.from_residual.result _ _ _ p c.in_err-names.ensures.judged
    (λ f h. borrow_stops c.args.at c.args.kind (placed parsed c.args.names.now.variable)
    (placed parsed c.args.names.now.reference) (placed parsed c.args.names.now.region)
    (block parsed c.args.body.now) c.args.end (scope_said c.args.scope.now) f h)

pub note_borrow-returns-in_err-body-clause-judged : goal.note_borrow-returns-in_err-body-clause-judged
note_borrow-returns-in_err-body-clause-judged t c =
    let p = err_from_is_err_and c.from_residual-in_err-body.result c.from_residual-in_err-body.ensures.1 in
    stops_by (statement noted) c.from_residual-in_err-body.result _ _ _ p c.in_err-body.ensures.judged
    (λ f h. borrow_stops_behind c.args.at c.args.kind (placed parsed c.args.names.now.variable)
    (placed parsed c.args.names.now.reference) (placed parsed c.args.names.now.region)
    (block parsed c.args.body.now) c.args.end (scope_said c.args.scope.now)
    (scope_said c.borrow_at.new.scope) f c.in_ok-names.ensures.judged h)

pub note_borrow-returns-clause-judged : goal.note_borrow-returns-clause-judged
note_borrow-returns-clause-judged t c =
    borrow_noted c.args.at c.args.kind (placed parsed c.args.names.now.variable)
    (placed parsed c.args.names.now.reference) (placed parsed c.args.names.now.region)
    (block parsed c.args.body.now) c.args.end (scope_said c.args.scope.now)
    (scope_said c.borrow_at.new.scope) (block noted c.in_ok-body.body)
    c.in_ok-names.ensures.judged c.in_ok-body.ensures.judged
    ∙ ap (λ (n : Placed Bytes). Ok
    (borrow_in c.args.at c.args.kind n (placed parsed c.args.names.now.reference)
    (placed parsed c.args.names.now.region) (block noted c.in_ok-body.body) c.args.end))
    (sym c.in_ok-names.ensures.variable)
    ∙ ap (λ (n : Placed Bytes). Ok
    (borrow_in c.args.at c.args.kind (placed noted c.in_ok-names.names.variable) n
    (placed parsed c.args.names.now.region) (block noted c.in_ok-body.body) c.args.end))
    (sym c.in_ok-names.ensures.reference)
    ∙ ap (λ (n : Placed Bytes). Ok
    (borrow_in c.args.at c.args.kind (placed noted c.in_ok-names.names.variable)
    (placed noted c.in_ok-names.names.reference) n (block noted c.in_ok-body.body) c.args.end))
    (sym c.in_ok-names.ensures.region)
    ∙ ap Ok (sym (borrow_says noted c.args.at c.args.kind c.in_ok-names.names c.in_ok-body.body c.args.end))

pub note_borrow-returns-clause-left : goal.note_borrow-returns-clause-left
note_borrow-returns-clause-left t c =
    closed_again (scope_said c.args.scope.now) (scope_said c.borrow_at.new.scope)
    (scope_said c.note_block.new.scope) (scope_said c.leave_to.new.self) _ c.depth-depth.result
    c.depth-depth.ensures
    (lent_back c.args.at c.args.kind c.args.names.now.variable.name c.args.names.now.reference.name
    c.args.names.now.region.name (scope_said c.args.scope.now) (scope_said c.borrow_at.new.scope)
    c.in_ok-names.ensures.judged)
    c.in_ok-body.ensures.left c.leave_to.ensures c.leave_region.ensures

pub note_borrow_typed-returns-in_err-name-clause-judged : goal.note_borrow_typed-returns-in_err-name-clause-judged
note_borrow_typed-returns-in_err-name-clause-judged t c =
    let p = err_from_is_err_and c.from_residual.result c.from_residual.ensures.1 in
    stops_by (statement noted) c.from_residual.result _ _ _ p c.in_err-name.ensures.judged
    (λ f h. typed_stops c.args.at (placed parsed c.args.borrow.now.name.now) (written c.args.borrow.now.text.now) c.args.borrow.now.mode
    (placed parsed c.args.borrow.now.of.now) (block parsed c.args.body.now) c.args.end (scope_said c.args.scope.now) f
    h)

pub note_borrow_typed-returns-in_err-body-clause-judged : goal.note_borrow_typed-returns-in_err-body-clause-judged
note_borrow_typed-returns-in_err-body-clause-judged t c =
    let p = err_from_is_err_and c.from_residual-in_err-body.result c.from_residual-in_err-body.ensures.1 in
    stops_by (statement noted) c.from_residual-in_err-body.result _ _ _ p c.in_err-body.ensures.judged
    (λ f h. typed_stops_behind c.args.at (placed parsed c.args.borrow.now.name.now) (written c.args.borrow.now.text.now) c.args.borrow.now.mode
    (placed parsed c.args.borrow.now.of.now) (block parsed c.args.body.now) c.args.end (scope_said c.args.scope.now)
    (scope_said c.typed_at.new.scope) f c.in_ok-name.ensures.judged h)

pub note_borrow_typed-returns-clause-judged : goal.note_borrow_typed-returns-clause-judged
note_borrow_typed-returns-clause-judged t c =
    typed_noted c.args.at (placed parsed c.args.borrow.now.name.now) (written c.args.borrow.now.text.now) c.args.borrow.now.mode
    (placed parsed c.args.borrow.now.of.now) (block parsed c.args.body.now) c.args.end (scope_said c.args.scope.now)
    (scope_said c.typed_at.new.scope) (block noted c.in_ok-body.body)
    c.in_ok-name.ensures.judged c.in_ok-body.ensures.judged
    ∙ ap (λ (n : Placed Bytes). Ok
    (borrow_typed c.args.at n (written c.args.borrow.now.text.now) c.args.borrow.now.mode (placed parsed c.args.borrow.now.of.now)
    (block noted c.in_ok-body.body) c.args.end)) (sym c.in_ok-name.ensures.name)
    ∙ ap (λ (w : WrittenType). Ok (borrow_typed c.args.at (placed noted c.in_ok-name.name) w c.args.borrow.now.mode
    (placed parsed c.args.borrow.now.of.now) (block noted c.in_ok-body.body) c.args.end))
    (sym c.in_ok-name.ensures.text)
    ∙ ap (λ (n : Placed Bytes). Ok
    (borrow_typed c.args.at (placed noted c.in_ok-name.name) (written c.in_ok-name.text) c.args.borrow.now.mode n
    (block noted c.in_ok-body.body) c.args.end)) (sym c.in_ok-name.ensures.of)
    ∙ ap Ok (sym (borrow_typed_says noted c.args.at c.in_ok-name.name c.in_ok-name.text c.args.borrow.now.mode
    c.in_ok-name.of c.in_ok-body.body c.args.end))

pub note_borrow_typed-returns-clause-left : goal.note_borrow_typed-returns-clause-left
note_borrow_typed-returns-clause-left t c =
    closed_again (scope_said c.args.scope.now) (scope_said c.typed_at.new.scope)
    (scope_said c.note_block.new.scope) (scope_said c.leave_to.new.self) _ c.depth-depth.result
    c.depth-depth.ensures
    (typed_back c.args.at c.args.borrow.now.name.now.name (written c.args.borrow.now.text.now) c.args.borrow.now.mode c.args.borrow.now.of.now.name
    (scope_said c.args.scope.now) (scope_said c.typed_at.new.scope) c.in_ok-name.ensures.judged)
    c.in_ok-body.ensures.left c.leave_to.ensures c.leave_region.ensures

pub note_statement-returns-in-Skip-clause-judged : goal.note_statement-returns-in-Skip-clause-judged
note_statement-returns-in-Skip-clause-judged t c =
    grind (arith, skip_says)

pub note_statement-returns-in-Let-clause-judged : goal.note_statement-returns-in-Let-clause-judged
note_statement-returns-in-Let-clause-judged t c =
    told_by (statement parsed c.args.stmt.now) _ (scope_said c.args.scope.now) c.note_let.result
    (ap (statement parsed) c.in-Let.is ∙ let_says parsed c.in-Let.at c.in-Let.binding c.in-Let.name
    c.in-Let.of c.in-Let.value
    ∙ ap (λ (e : ParsedCode). declare c.in-Let.at c.in-Let.binding (placed parsed c.in-Let.name)
    (written c.in-Let.of) (expression parsed e)) (sym c.deref.ensures))
    c.note_let.ensures

pub note_statement-returns-in-Destructure-clause-judged : goal.note_statement-returns-in-Destructure-clause-judged
note_statement-returns-in-Destructure-clause-judged t c =
    told_by (statement parsed c.args.stmt.now) _ (scope_said c.args.scope.now) c.note_destructure.result
    (ap (statement parsed) c.in-Destructure.is ∙ destructure_says parsed c.in-Destructure.at
    c.in-Destructure.binds c.in-Destructure.value
    ∙ ap (λ (e : ParsedCode). destructure c.in-Destructure.at (binds_said c.in-Destructure.binds.items)
    (expression parsed e)) (sym c.deref-in-Destructure.ensures))
    c.note_destructure.ensures

pub note_statement-returns-in-Assign-clause-judged : goal.note_statement-returns-in-Assign-clause-judged
note_statement-returns-in-Assign-clause-judged t c =
    told_by (statement parsed c.args.stmt.now) _ (scope_said c.args.scope.now) c.note_assign.result
    (ap (statement parsed) c.in-Assign.is ∙ assign_says parsed c.in-Assign.at c.in-Assign.name
    c.in-Assign.path c.in-Assign.value
    ∙ ap (λ (e : ParsedCode). assign c.in-Assign.at (placed parsed c.in-Assign.name)
    (fields_said c.in-Assign.path.items) (expression parsed e)) (sym c.deref-in-Assign.ensures))
    c.note_assign.ensures

pub note_statement-returns-in-AssignThrough-clause-judged : goal.note_statement-returns-in-AssignThrough-clause-judged
note_statement-returns-in-AssignThrough-clause-judged t c =
    told_by (statement parsed c.args.stmt.now) _ (scope_said c.args.scope.now) c.note_assign_through.result
    (ap (statement parsed) c.in-AssignThrough.is ∙ assign_through_says parsed c.in-AssignThrough.at
    c.in-AssignThrough.name c.in-AssignThrough.path c.in-AssignThrough.value
    ∙ ap (λ (e : ParsedCode). assign_through c.in-AssignThrough.at (placed parsed c.in-AssignThrough.name)
    (fields_said c.in-AssignThrough.path.items) (expression parsed e))
    (sym c.deref-in-AssignThrough.ensures))
    c.note_assign_through.ensures

pub note_statement-returns-in-If-clause-judged : goal.note_statement-returns-in-If-clause-judged
note_statement-returns-in-If-clause-judged t c =
    told_by (statement parsed c.args.stmt.now) _ (scope_said c.args.scope.now) c.note_if.result
    (ap (statement parsed) c.in-If.is ∙ if_says parsed c.in-If.at c.in-If.branches)
    c.note_if.ensures.judged

pub note_statement-returns-in-IfElse-clause-judged : goal.note_statement-returns-in-IfElse-clause-judged
note_statement-returns-in-IfElse-clause-judged t c =
    told_by (statement parsed c.args.stmt.now) _ (scope_said c.args.scope.now) c.note_if_else.result
    (ap (statement parsed) c.in-IfElse.is ∙ if_else_says parsed c.in-IfElse.at c.in-IfElse.branches c.in-IfElse.last)
    c.note_if_else.ensures.judged

pub note_statement-returns-in-Case-clause-judged : goal.note_statement-returns-in-Case-clause-judged
note_statement-returns-in-Case-clause-judged t c =
    told_by (statement parsed c.args.stmt.now) _ (scope_said c.args.scope.now) c.note_case_of.result
    (ap (statement parsed) c.in-Case.is ∙ case_says parsed c.in-Case.at c.in-Case.value c.in-Case.arms
    ∙ ap (λ (e : ParsedCode). case_of c.in-Case.at (expression parsed e)
    (arm_all parsed c.in-Case.arms.items)) (sym c.deref-in-Case.ensures))
    c.note_case_of.ensures.judged

pub note_statement-returns-in-While-clause-judged : goal.note_statement-returns-in-While-clause-judged
note_statement-returns-in-While-clause-judged t c =
    told_by (statement parsed c.args.stmt.now) _ (scope_said c.args.scope.now) c.note_while.result
    (ap (statement parsed) c.in-While.is ∙ while_says parsed c.in-While.at c.in-While.test c.in-While.body
    ∙ ap (λ (e : ParsedCode). while_loop c.in-While.at (expression parsed e) (block parsed c.in-While.body))
    (sym c.deref-in-While.ensures))
    c.note_while.ensures.judged

pub note_statement-returns-in-For-clause-judged : goal.note_statement-returns-in-For-clause-judged
note_statement-returns-in-For-clause-judged t c =
    told_by (statement parsed c.args.stmt.now) _ (scope_said c.args.scope.now) c.note_for.result
    (ap (statement parsed) c.in-For.is ∙ for_says parsed c.in-For.at c.in-For.name c.in-For.first
    c.in-For.last c.in-For.body
    ∙ ap (λ (e : ParsedCode). for_loop c.in-For.at (placed parsed c.in-For.name) (expression parsed e)
    (expression parsed c.in-For.last.value) (block parsed c.in-For.body)) (sym c.deref-in-For.ensures)
    ∙ ap (λ (e : ParsedCode). for_loop c.in-For.at (placed parsed c.in-For.name)
    (expression parsed c.deref-in-For.result.now) (expression parsed e) (block parsed c.in-For.body))
    (sym c.deref-in-For-2.ensures))
    c.note_for.ensures.judged

pub note_statement-returns-in-Borrow-clause-judged : goal.note_statement-returns-in-Borrow-clause-judged
note_statement-returns-in-Borrow-clause-judged t c =
    told_by (statement parsed c.args.stmt.now) _ (scope_said c.args.scope.now) c.note_borrow.result
    (ap (statement parsed) c.in-Borrow.is ∙ borrow_says parsed c.in-Borrow.at c.in-Borrow.kind
    c.in-Borrow.names c.in-Borrow.body c.in-Borrow.end)
    c.note_borrow.ensures.judged

pub note_statement-returns-in-BorrowTyped-clause-judged : goal.note_statement-returns-in-BorrowTyped-clause-judged
note_statement-returns-in-BorrowTyped-clause-judged t c =
    told_by (statement parsed c.args.stmt.now) _ (scope_said c.args.scope.now) c.note_borrow_typed.result
    (ap (statement parsed) c.in-BorrowTyped.is ∙ borrow_typed_says parsed c.in-BorrowTyped.at
    c.in-BorrowTyped.name c.in-BorrowTyped.text c.in-BorrowTyped.mode c.in-BorrowTyped.of
    c.in-BorrowTyped.body c.in-BorrowTyped.end)
    c.note_borrow_typed.ensures.judged

pub note_statement-returns-in-Call-clause-judged : goal.note_statement-returns-in-Call-clause-judged
note_statement-returns-in-Call-clause-judged t c =
    told_by (statement parsed c.args.stmt.now) _ (scope_said c.args.scope.now) c.note_call.result
    (ap (statement parsed) c.in-Call.is ∙ call_says parsed c.in-Call.at c.in-Call.value
    ∙ ap (λ (e : ParsedCode). discard c.in-Call.at (expression parsed e)) (sym c.deref-in-Call.ensures))
    c.note_call.ensures

pub note_statement-returns-in-Return-clause-judged : goal.note_statement-returns-in-Return-clause-judged
note_statement-returns-in-Return-clause-judged t c =
    told_by (statement parsed c.args.stmt.now) _ (scope_said c.args.scope.now) c.note_return.result
    (ap (statement parsed) c.in-Return.is ∙ return_says parsed c.in-Return.at c.in-Return.value
    ∙ ap (λ (e : ParsedCode). return_of c.in-Return.at (expression parsed e)) (sym c.deref-in-Return.ensures))
    c.note_return.ensures

pub note_arm-returns-clause-left : goal.note_arm-returns-clause-left
note_arm-returns-clause-left t c =
    left_again (scope_said c.args.scope.now) (scope_said c.enter_arm.new.scope)
    (scope_said c.note_block.new.scope) _ c.depth-depth.result c.depth-depth.ensures
    (bound_back (binds_said c.args.arm.now.binds.items) (scope_said c.args.scope.now)
    (scope_said c.enter_arm.new.scope) c.in_ok-case.ensures.inside)
    c.in_ok-block.ensures.left c.leave_to.ensures

pub note_arms-returns-in_err-one-clause-judged : goal.note_arms-returns-in_err-one-clause-judged
note_arms-returns-in_err-one-clause-judged t c =
    let p = err_from_is_err_and c.from_residual.result c.from_residual.ensures.1 in
    stops_by (λ made. arm_all noted made.items) c.from_residual.result _ _ _ p c.in_err-one.ensures.judged
    (λ f h. ap (λ (xs : List ParsedArm). note_arms (arm_all parsed xs) (scope_said c.args.scope.now))
    (sym c.deref-arm-items.ensures.value)
    ∙ arms_turn_stops c.loop-arm.made.items c.deref-arm-items.result.now c.loop-arm.arm-index
    (scope_said c.args.scope.now) _ c.loop-arm.invariant.left c.arm-item.result c.loop-arm-test.true
    c.arm-item.is f (ap (λ (s : Scope). note_block (block parsed c.arm-item.result.block)
    (with_bound (binds_said c.arm-item.result.binds.items) s)) (sym c.loop-arm.invariant.same) ∙ h))

pub note_arms-loop-arm-preserved : goal.note_arms-loop-arm-preserved
note_arms-loop-arm-preserved t c =
    record {
      left = arms_turn c.loop-arm.made.items c.deref-arm-items.result.now c.loop-arm.arm-index
          (scope_said c.args.scope.now) _ c.loop-arm.invariant.left c.arm-item.result c.loop-arm-test.true
          c.arm-item.is c.put_arm.new.made.items c.in_ok-one.one c.in_ok-put_arm.ensures
          (record { at = c.in_ok-one.ensures.at; name = c.in_ok-one.ensures.name; binds = c.in_ok-one.ensures.binds })
          (ap (λ (s : Scope). note_block (block parsed c.arm-item.result.block)
          (with_bound (binds_said c.arm-item.result.binds.items) s)) (sym c.loop-arm.invariant.same)
          ∙ c.in_ok-one.ensures.judged);
      same = c.in_ok-one.ensures.left ∙ c.loop-arm.invariant.same;
    }

pub note_arms-returns-clause-judged : goal.note_arms-returns-clause-judged
note_arms-returns-clause-judged t c =
    ap (λ (xs : List ParsedArm). note_arms (arm_all parsed xs) (scope_said c.args.scope.now))
    (sym c.deref-arm-items.ensures.value)
    ∙ arms_end c.loop-arm.made.items c.deref-arm-items.result.now c.loop-arm.arm-index
    (scope_said c.args.scope.now) _ c.loop-arm.invariant.left c.loop-arm-test.false

pub note_branches-returns-in_err-block-in-Some-clause-judged :
    goal.note_branches-returns-in_err-block-in-Some-clause-judged
note_branches-returns-in_err-block-in-Some-clause-judged t c =
    let p = err_from_is_err_and c.from_residual.result c.from_residual.ensures.1 in
    stops_by (λ made. branch_all noted made.items) c.from_residual.result _ _ _ p c.in_err-block-in-Some.ensures.judged
    (λ f h. ap (λ (xs : List ParsedBranch). note_branches (branch_all parsed xs)
    (all_boxed c.args.tests.items) (scope_said c.args.scope.now)) (sym c.deref-branch-items.ensures.value)
    ∙ branches_turn_stops c.loop-branch.made.items c.deref-branch-items.result.now c.loop-branch.branch-index
    c.loop-branch.tests.items (scope_said c.args.scope.now) _ c.loop-branch.invariant.left
    c.branch-item.result c.loop-branch-test.true c.branch-item.is c.in-Some.test c.next_test.new.tests.items
    f c.in-Some.ensures (ap (note_block (block parsed c.branch-item.result.block))
    (sym c.loop-branch.invariant.same) ∙ h))

pub note_branches-returns-in-None-clause-judged : goal.note_branches-returns-in-None-clause-judged
note_branches-returns-in-None-clause-judged t c =
    ap (λ (xs : List ParsedBranch). note_branches (branch_all parsed xs) (all_boxed c.args.tests.items)
    (scope_said c.args.scope.now)) (sym c.deref-branch-items.ensures.value)
    ∙ branches_turn_ends c.loop-branch.made.items c.deref-branch-items.result.now c.loop-branch.branch-index
    c.loop-branch.tests.items (scope_said c.args.scope.now) _ c.loop-branch.invariant.left
    c.branch-item.result c.loop-branch-test.true c.branch-item.is c.in-None.ensures

pub note_branches-loop-branch-preserved : goal.note_branches-loop-branch-preserved
note_branches-loop-branch-preserved t c =
    record {
      left = branches_turn c.loop-branch.made.items c.deref-branch-items.result.now c.loop-branch.branch-index
          c.loop-branch.tests.items (scope_said c.args.scope.now) _ c.loop-branch.invariant.left
          c.branch-item.result c.loop-branch-test.true c.branch-item.is c.put_branch.new.made.items
          (record { test = c.in-Some.test; block = c.in_ok-block-in-Some.block }) c.next_test.new.tests.items
          c.in_ok-put_branch-in-Some.ensures c.in-Some.ensures
          (ap (note_block (block parsed c.branch-item.result.block)) (sym c.loop-branch.invariant.same)
          ∙ c.in_ok-block-in-Some.ensures.judged);
      same = c.in_ok-block-in-Some.ensures.left ∙ c.loop-branch.invariant.same;
    }

pub note_branches-returns-clause-judged : goal.note_branches-returns-clause-judged
note_branches-returns-clause-judged t c =
    ap (λ (xs : List ParsedBranch). note_branches (branch_all parsed xs) (all_boxed c.args.tests.items)
    (scope_said c.args.scope.now)) (sym c.deref-branch-items.ensures.value)
    ∙ branches_end c.loop-branch.made.items c.deref-branch-items.result.now c.loop-branch.branch-index
    c.loop-branch.tests.items (scope_said c.args.scope.now) _ c.loop-branch.invariant.left
    c.loop-branch-test.false

pub note_block-returns-clause-judged : goal.note_block-returns-clause-judged
note_block-returns-clause-judged t c =
    ap (λ (xs : List ParsedStmt). note_block (statement_all parsed xs) (scope_said c.args.scope.now))
    (sym c.deref-stmt-items.ensures.value)
    ∙ block_ends c.loop-index.statements.items c.deref-stmt-items.result.now c.loop-index.index
    (scope_said c.loop-index.scope) _ c.loop-index.invariant.left c.loop-index-test.false

pub note_block-returns-clause-left : goal.note_block-returns-clause-left
note_block-returns-clause-left t c =
    c.leave_to.ensures
    ∙ ap (λ (n : ℕ). left_to n (scope_said c.loop-index.scope)) c.depth-depth.ensures
    ∙ grown_left (scope_said c.args.scope.now) (scope_said c.loop-index.scope) c.loop-index.invariant.grown

pub note_block-returns-in_err-go_on-clause-judged : goal.note_block-returns-in_err-go_on-clause-judged
note_block-returns-in_err-go_on-clause-judged t c =
    let p = err_from_is_err_and c.from_residual-in_err-go_on.result c.from_residual-in_err-go_on.ensures.1 in
    stops_by (block noted) c.from_residual-in_err-go_on.result _ _ _ p c.in_err-go_on.ensures.judged
    (λ f h. ap (λ (xs : List ParsedStmt). note_block (statement_all parsed xs) (scope_said c.args.scope.now))
    (sym c.deref-stmt-items.ensures.value)
    ∙ block_turn_stops_behind c.loop-index.statements.items c.deref-stmt-items.result.now c.loop-index.index
    (scope_said c.loop-index.scope) _ c.loop-index.invariant.left c.stmt-item.result c.loop-index-test.true
    c.stmt-item.is (statement noted c.in_ok-made.made) f c.in_ok-made.ensures.judged
    (ap (λ (xs : List ParsedStmt). judge_next (returns (statement parsed c.stmt-item.result))
    (statement_all parsed xs)) (ap (drop (c.loop-index.index + 1))
    (c.deref-stmt-items.ensures.value ∙ sym c.deref.ensures.value)
    ∙ rest_is c.deref.result.now (c.loop-index.index + 1)) ∙ h))

pub note_block-loop-index-preserved : goal.note_block-loop-index-preserved
note_block-loop-index-preserved t c =
    record {
      left = block_turn c.loop-index.statements.items c.deref-stmt-items.result.now c.loop-index.index
          (scope_said c.loop-index.scope) _ c.loop-index.invariant.left c.stmt-item.result
          c.loop-index-test.true c.stmt-item.is c.put_statement.new.made.items c.in_ok-made.made
          (scope_said c.go_on.new.scope) c.in_ok-put_statement.ensures
          c.in_ok-made.ensures.judged (ap
          (λ (xs : List ParsedStmt). judge_next (returns (statement parsed c.stmt-item.result))
          (statement_all parsed xs)) (ap (drop (c.loop-index.index + 1))
          (c.deref-stmt-items.ensures.value ∙ sym c.deref.ensures.value)
          ∙ rest_is c.deref.result.now (c.loop-index.index + 1)) ∙ c.in_ok-go_on.ensures.judged)
          (c.in_ok-go_on.ensures.after ∙ ap (after (statement parsed c.stmt-item.result)) c.in_ok-made.ensures.left);
      grown = grown_twice (scope_said c.args.scope.now) (scope_said c.loop-index.scope)
          (scope_said c.go_on.new.scope) c.loop-index.invariant.grown
          (subst (IsGrown (scope_said c.loop-index.scope))
          (sym (c.in_ok-go_on.ensures.after ∙ ap (after (statement parsed c.stmt-item.result))
          c.in_ok-made.ensures.left)) (after_grown (statement parsed c.stmt-item.result)
          (scope_said c.loop-index.scope)));
    }

pub note_statement-note_if-requires : goal.note_statement-note_if-requires
note_statement-note_if-requires t c =
    omega (arith, if_deep c.args.stmt.now c.in-If.at c.in-If.branches c.in-If.is)

pub note_statement-note_if_else-requires : goal.note_statement-note_if_else-requires
note_statement-note_if_else-requires t c =
    omega (arith, if_else_deep c.args.stmt.now c.in-IfElse.at c.in-IfElse.branches c.in-IfElse.last c.in-IfElse.is)

pub note_statement-note_case_of-requires : goal.note_statement-note_case_of-requires
note_statement-note_case_of-requires t c =
    omega (arith, case_deep c.args.stmt.now c.in-Case.at c.in-Case.value c.in-Case.arms c.in-Case.is)

pub note_statement-note_while-requires : goal.note_statement-note_while-requires
note_statement-note_while-requires t c =
    omega (arith, while_deep c.args.stmt.now c.in-While.at c.in-While.test c.in-While.body c.in-While.is)

pub note_statement-note_for-requires : goal.note_statement-note_for-requires
note_statement-note_for-requires t c =
    omega (
      arith,
      for_deep c.args.stmt.now c.in-For.at c.in-For.name c.in-For.first c.in-For.last
          c.in-For.body c.in-For.is,
    )

pub note_statement-note_borrow-requires : goal.note_statement-note_borrow-requires
note_statement-note_borrow-requires t c =
    omega (
      arith,
      borrow_deep c.args.stmt.now c.in-Borrow.at c.in-Borrow.kind c.in-Borrow.names
          c.in-Borrow.body c.in-Borrow.end c.in-Borrow.is,
    )

pub note_statement-note_borrow_typed-requires : goal.note_statement-note_borrow_typed-requires
note_statement-note_borrow_typed-requires t c =
    omega (
      arith,
      borrow_typed_deep c.args.stmt.now c.in-BorrowTyped.at c.in-BorrowTyped.name
          c.in-BorrowTyped.text c.in-BorrowTyped.mode c.in-BorrowTyped.of c.in-BorrowTyped.body
          c.in-BorrowTyped.end c.in-BorrowTyped.is,
    )

pub note_block-note_statement-requires : goal.note_block-note_statement-requires
note_block-note_statement-requires t c =
    omega (
      arith,
      statement_within c.deref-stmt-items.result.now c.args.body.now.statements.items
          c.loop-index.index c.stmt-item.result c.deref-stmt-items.ensures.value c.loop-index-test.true
          c.stmt-item.is,
    )

pub note_branches-note_block-requires : goal.note_branches-note_block-requires
note_branches-note_block-requires t c =
    omega (
      arith,
      branch_within c.deref-branch-items.result.now c.args.branches.now.items
          c.loop-branch.branch-index c.branch-item.result c.deref-branch-items.ensures.value
          c.loop-branch-test.true c.branch-item.is,
    )

pub note_arms-note_arm-requires : goal.note_arms-note_arm-requires
note_arms-note_arm-requires t c =
    omega (
      arith,
      arm_within c.deref-arm-items.result.now c.args.arms.now.items c.loop-arm.arm-index
          c.arm-item.result c.deref-arm-items.ensures.value c.loop-arm-test.true c.arm-item.is,
    )
