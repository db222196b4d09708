use Rattle.std.proofs.Common.{◌≡◌, ℕ, ◌+◌, ◌-◌, ◌||◌, true, false, not, [], ◌++◌, length, map, OnOk, Some}
use Rattle.std.proofs.Common.{refl, ap, sym, subst, ◌∙◌, arith}
use Rattle.std.proofs.lemmas.List.{length-map}
use Rattle.au_closed_trees.specs.contracts.phase.ClosedTreesPhase.TheImpl.{ghosts as closed}
use Rattle.au_closed_trees.specs.ClosedNotes.{ClosedNote}
use Rattle.au_closed_trees.specs.TreeViews.{closed_note}
use Rattle.au_closed_meanings.specs.Surroundings.{view_in}
use Rattle.au_typing.specs.Returns.{block_returns}
use Rattle.au_low.specs.declared.instructions.Instr.TheVariants.{Close, ForStep, Jump, Look, Store}
use Rattle.au_lowered.specs.Drafts.{◌>>◌, does, unless}
use Rattle.au_lowered.specs.Expressions.{whole}
use Rattle.au_lowered.specs.Slots.{after, fields_of_case, with_fields}
use Rattle.au_meaning.specs.Names.{with_reference}
use Rattle.au_lowered.specs.Statements as spec
use Rattle.au_lowering_expressions.specs.Views.{draft_said, drafts_said, scope_said}
use Rattle.au_lowering_expressions.specs.Wrote.{wrote}
use Rattle.au_lowering_expressions.proofs.WroteLemmas.{wrote_row}
use Rattle.au_lowering_statements.specs.Ends.{AllBelow, Holed, binds, branch_upto, lent}
use Rattle.au_lowering_statements.specs.Views.{Begins, starts_said}
use Rattle.au_lowering_statements.proofs.BlockLemmas.{arms_left, arms_step, begins_more, begins_same}
use Rattle.au_lowering_statements.proofs.BlockLemmas.{block_end, block_step, one_arm, one_test, tests_left}
use Rattle.au_lowering_statements.proofs.BlockLemmas.{tests_step}
use Rattle.au_lowering_statements.proofs.CodeLemmas.{said_block, said_statement, said_whole}
use Rattle.au_lowering_statements.proofs.CodeLemmas as lemmas
use Rattle.au_lowering_statements.proofs.HoleLemmas.{loop_written, turn_written, turns_written, when_written}
use Rattle.au_lowering_statements.proofs.JumpLemmas.{holed_branch, holed_plain, holed_row}
use Rattle.au_lowering_statements.specs.Pieces.{arm_to, counted, ended, turn_from, with_bounds}
use Rattle.au_lowering_statements.proofs.SimpleLemmas.{said_simple, simple_all}
use Rattle.au_lowering_statements.proofs.LoopLemmas as loops
use Rattle.au_lowering_statements.proofs.LoopLemmas.{arm_is_last, tests_follow}
use Rattle.au_meaning.specs.Expressions.{note_of}
use Rattle.au_meaning.specs.Names.{Scope, variable_of, with_name}
use Rattle.au_syntax.specs.Views.{arm_all, block, bound, expression, placed, statement, statement_all}
use Rattle.au_lowering_statements.proofs.statements.+write.Goals as goal

-- ---- statements

pub write_statement-returns-in-If-clause-code :
    goal.write_statement-returns-in-If-clause-code
write_statement-returns-in-If-clause-code g t c = grind (arith, lemmas.if_code)

pub write_statement-returns-in-Case-clause-code :
    goal.write_statement-returns-in-Case-clause-code
write_statement-returns-in-Case-clause-code g t c = grind (arith, lemmas.case_code)

pub write_statement-returns-in-While-clause-code :
    goal.write_statement-returns-in-While-clause-code
write_statement-returns-in-While-clause-code g t c = grind (arith, lemmas.while_code)

pub write_statement-returns-in-For-clause-code :
    goal.write_statement-returns-in-For-clause-code
write_statement-returns-in-For-clause-code g t c = grind (arith, lemmas.for_code)

pub write_statement-returns-in-Borrow-clause-code :
    goal.write_statement-returns-in-Borrow-clause-code
write_statement-returns-in-Borrow-clause-code g t c = grind (arith, lemmas.borrow_code)

pub write_statement-returns-in-BorrowTyped-clause-code :
    goal.write_statement-returns-in-BorrowTyped-clause-code
write_statement-returns-in-BorrowTyped-clause-code g t c = grind (arith, lemmas.borrow_typed_code)

pub write_statement-returns-in_default-clause-code :
    goal.write_statement-returns-in_default-clause-code
write_statement-returns-in_default-clause-code g t c =
    let round = g.R.Lookup.round c.args.by.now.lookup.now in
    let around = c.args.by.now.around in
    let slot = c.args.by.now.slot in
    let k = c.in_default in
    subst (λ w. OnOk c.write_simple.result (drafts_said c.write_simple.new.out.items
    ≡ wrote w (drafts_said c.args.out.now.items)))
    (simple_all round around slot (scope_said c.args.scope.now) c.args.of.now
    k.not-If k.not-IfElse k.not-Case k.not-While k.not-For k.not-Borrow k.not-BorrowTyped)
    c.write_simple.ensures

pub write_statement-returns-in_ok-write_last-in-IfElse-clause-code :
    goal.write_statement-returns-in_ok-write_last-in-IfElse-clause-code
write_statement-returns-in_ok-write_last-in-IfElse-clause-code g t c =
    let round = g.R.Lookup.round c.args.by.now.lookup.now in
    let around = c.args.by.now.around in
    let slot = c.args.by.now.slot in
    let scope = scope_said c.args.scope.now in
    let d = drafts_said c.args.out.now.items in
    let p = c.in-IfElse in
    loops.last_is round around slot scope p.branches.items
    (said_block round around slot scope p.last) _ d _ _ (drafts_said c.write_last.new.out.items)
    c.in_ok-jumps-in-IfElse.ensures.code refl
    (c.in_ok-write_last-in-IfElse.ensures.code
    ∙ ap (λ s. ended c.in_ok-jumps-in-IfElse.jumps.items
    (wrote (spec.block (view_in round) around slot (scope_said s) (block closed p.last))
    (drafts_said c.write_jumps.new.out.items)))
    c.in_ok-jumps-in-IfElse.ensures.same)
    ∙ sym (lemmas.if_else_code round around slot scope d p.field-0 p.branches p.last)
    ∙ sym (ap (λ s. wrote (said_statement round around slot scope s) d) p.is)

-- ---- loops

pub write_while-returns-clause-code : goal.write_while-returns-clause-code
write_while-returns-clause-code g t c =
    let round = g.R.Lookup.round c.args.by.now.lookup.now in
    let around = c.args.by.now.around in
    let slot = c.args.by.now.slot in
    let scope = scope_said c.args.scope.now in
    let returns = block_returns (block closed c.args.body.now) in
    let body = said_block round around slot scope c.args.body.now in
    let start = c.in_ok-start.start in
    let d = drafts_said c.args.out.now.items in
    let d1 = drafts_said c.begin_loop.new.out.items in
    loop_written returns (said_whole round around slot scope c.args.test.now) body
    d d1 (drafts_said c.end_test.new.out.items) start c.in_ok-start.ensures.at
    c.in_ok-start.ensures.code
    (when_written (turn_from returns start body) d1 (drafts_said c.put.new.out.items)
    (drafts_said c.put_unless.new.out.items) (drafts_said c.end_test.new.out.items) c.len-at.result
    (omega (arith, c.len-at.ensures, length-map c.begin_loop.new.out.items draft_said))
    c.in_ok-put.ensures
    (c.in_ok-put_unless.ensures
    ∙ ap (λ r. wrote (unless r (Jump start)) (drafts_said c.write_block.new.out.items))
    c.block_returns.ensures
    ∙ ap (wrote (unless returns (Jump start))) c.in_ok-write_block.ensures.code
    ∙ sym (wrote_row body (unless returns (Jump start)) (drafts_said c.put.new.out.items)))
    c.in_ok-end_test.ensures)

pub write_counted-returns-clause-code : goal.write_counted-returns-clause-code
write_counted-returns-clause-code g t c =
    let see = view_in (g.R.Lookup.round c.args.by.now.lookup.now) in
    let around = c.args.by.now.around in
    let slot = c.args.by.now.slot in
    let scope = scope_said c.args.scope.now in
    let d = drafts_said c.args.out.now.items in
    let returns = block_returns (block closed c.args.body.now) in
    let step = ForStep slot (slot + 1) c.args.start in
    c.in_ok-put_step.ensures
    ∙ ap (λ r. wrote (unless r step) (drafts_said c.write_block.new.out.items)) c.block_returns.ensures
    ∙ ap (wrote (unless returns step))
    (c.in_ok-write_block.ensures.code
    ∙ ap (λ n. wrote (spec.block see around n scope (block closed c.args.body.now)) d)
    c.in_ok-slot.ensures)
    ∙ sym (wrote_row (spec.block see around (slot + 3) scope (block closed c.args.body.now))
    (unless returns step) d)

pub write_turn-returns-clause-code : goal.write_turn-returns-clause-code
write_turn-returns-clause-code g t c =
    let see = view_in (g.R.Lookup.round c.args.by.now.lookup.now) in
    let around = c.args.by.now.around in
    let slot = c.args.by.now.slot in
    let scope = scope_said c.args.scope.now in
    let returns = block_returns (block closed c.args.body.now) in
    let body = spec.block see around (slot + 3) scope (block closed c.args.body.now) in
    let d = drafts_said c.args.out.now.items in
    let look = does (Look slot []) in
    let store = does (Store (slot + 2)) in
    let block = counted returns slot c.in_ok-start.start body in
    turn_written returns slot body d (drafts_said c.write_counted.new.out.items)
    c.in_ok-start.start c.in_ok-start.ensures
    (c.in_ok-write_counted.ensures.code
    ∙ ap (wrote block) c.in_ok-put_counter.ensures
    ∙ sym (wrote_row store block (wrote look d))
    ∙ sym (wrote_row look (store >> block) d))

pub write_range-returns-clause-code : goal.write_range-returns-clause-code
write_range-returns-clause-code g t c =
    let see = view_in (g.R.Lookup.round c.args.by.now.lookup.now) in
    let around = c.args.by.now.around in
    let slot = c.args.by.now.slot in
    let scope = scope_said c.args.scope.now in
    turns_written (block_returns (block closed c.args.body.now)) slot
    (spec.block see around (slot + 3) scope (block closed c.args.body.now))
    (drafts_said c.args.out.now.items) (drafts_said c.put_range.new.out.items)
    (drafts_said c.write_turn.new.out.items) (drafts_said c.end_range.new.out.items) c.in_ok-at.at
    c.in_ok-at.ensures.at c.in_ok-at.ensures.code c.in_ok-write_turn.ensures.code c.in_ok-end_range.ensures

pub write_for-returns-clause-code : goal.write_for-returns-clause-code
write_for-returns-clause-code g t c =
    let see = view_in (g.R.Lookup.round c.args.by.now.lookup.now) in
    let around = c.args.by.now.around in
    let slot = c.args.by.now.slot in
    let scope = scope_said c.args.scope.now in
    let first = expression closed c.args.from.now in
    let last = expression closed c.args.to.now in
    let counting = λ (inner : Scope). spec.turns (block_returns (block closed c.args.body.now)) slot
    (spec.block see around (slot + 3) inner (block closed c.args.body.now)) in
    c.in_ok-write_range.ensures.code
    ∙ ap (λ s. wrote (counting s) (drafts_said c.write_bounds.new.out.items))
    (c.in_ok-declare_counter.ensures.said
    ∙ ap (λ (note : ClosedNote). with_name c.args.name.now (slot + 2) (Some note.of) scope)
    c.note_of.ensures)
    ∙ ap (wrote (counting (with_name c.args.name.now (slot + 2) (Some (note_of first).of) scope)))
    c.in_ok-write_bounds.ensures

-- ---- borrow statements

pub write_lent-returns-clause-code : goal.write_lent-returns-clause-code
write_lent-returns-clause-code g t c =
    let see = view_in (g.R.Lookup.round c.args.by.now.lookup.now) in
    let around = c.args.by.now.around in
    let slot = c.args.by.now.slot in
    let scope = scope_said c.args.scope.now in
    let d = drafts_said c.args.out.now.items in
    let returns = block_returns (block closed c.args.body.now) in
    let close = Close around in
    c.in_ok-put_unless.ensures
    ∙ ap (λ r. wrote (unless r close) (drafts_said c.write_block.new.out.items)) c.block_returns.ensures
    ∙ ap (wrote (unless returns close))
    (c.in_ok-write_block.ensures.code
    ∙ ap (λ n. wrote (spec.block see n c.in_ok-slot.slot scope (block closed c.args.body.now)) d)
    c.in_ok-around.ensures
    ∙ ap (λ n. wrote (spec.block see (around + 1) n scope (block closed c.args.body.now)) d)
    c.in_ok-slot.ensures)
    ∙ sym (wrote_row (spec.block see (around + 1) (slot + 1) scope
    (block closed c.args.body.now)) (unless returns close) d)

pub write_borrow-returns-clause-code : goal.write_borrow-returns-clause-code
write_borrow-returns-clause-code g t c =
    let round = g.R.Lookup.round c.args.by.now.lookup.now in
    let around = c.args.by.now.around in
    let slot = c.args.by.now.slot in
    let see = view_in round in
    let scope = scope_said c.args.scope.now in
    let d = drafts_said c.args.out.now.items in
    let returns = block_returns (block closed c.args.body.now) in
    let variable = variable_of scope c.args.variable.now in
    let body = spec.block see (around + 1) (slot + 1)
    (with_reference c.args.mode variable slot c.args.name.now scope) (block closed c.args.body.now) in
    c.in_ok-write_lent.ensures.code
    ∙ ap (λ s. wrote (lent returns around (spec.block see (around + 1) (slot + 1) s
    (block closed c.args.body.now))) (drafts_said c.put_bind.new.out.items))
    c.in_ok-declare_reference.ensures.said
    ∙ ap (wrote (lent returns around body))
    c.in_ok-put_bind.ensures
    ∙ sym (lemmas.lends_row round around slot scope d returns c.args.mode variable body)

-- ---- conditionals

pub write_branch-returns-clause-code : goal.write_branch-returns-clause-code
write_branch-returns-clause-code g t c =
    let round = g.R.Lookup.round c.args.by.now.lookup.now in
    let around = c.args.by.now.around in
    let slot = c.args.by.now.slot in
    let scope = scope_said c.args.scope.now in
    let returns = block_returns (block closed c.args.body.now) in
    holed_branch c.args.followed returns (said_block round around slot scope c.args.body.now)
    c.args.jumps.now.items c.put_end.new.jumps.items (drafts_said c.args.out.now.items)
    (drafts_said c.put.new.out.items) (drafts_said c.write_block.new.out.items)
    (drafts_said c.put_end.new.out.items) (drafts_said c.end_test.new.out.items) c.len-test.result
    (omega (arith, c.len-test.ensures, length-map c.args.out.now.items draft_said))
    c.in_ok-put.ensures c.in_ok-write_block.ensures.code
    (subst (λ u. Holed (λ m. unless u (Jump m)) c.args.jumps.now.items
    (drafts_said c.write_block.new.out.items)
    c.put_end.new.jumps.items (drafts_said c.put_end.new.out.items))
    (c.is_last.ensures ∙ ap (λ r. r || not c.args.followed) c.block_returns.ensures) c.in_ok-put_end.ensures)
    c.in_ok-end_test.ensures

pub write_test-returns-clause-code : goal.write_test-returns-clause-code
write_test-returns-clause-code g t c =
    let round = g.R.Lookup.round c.args.by.now.lookup.now in
    let around = c.args.by.now.around in
    let slot = c.args.by.now.slot in
    let scope = scope_said c.args.scope.now in
    let returns = block_returns (block closed c.args.of.now.block) in
    let test = said_whole round around slot scope c.args.of.now.test.value in
    let body = said_block round around slot scope c.args.of.now.block in
    holed_row (λ m. test) (λ m. branch_upto c.args.followed returns m body)
    c.args.jumps.now.items c.args.jumps.now.items c.write_branch.new.jumps.items
    (drafts_said c.args.out.now.items) (drafts_said c.write_whole.new.out.items)
    (drafts_said c.write_branch.new.out.items)
    (holed_plain test c.args.jumps.now.items (drafts_said c.args.out.now.items)
    (drafts_said c.write_whole.new.out.items)
    (c.in_ok-write_whole.ensures
    ∙ ap (λ e. wrote (said_whole round around slot scope e) (drafts_said c.args.out.now.items))
    c.deref.ensures))
    c.in_ok-write_branch.ensures.code

pub write_tests-loop-one-init : goal.write_tests-loop-one-init
write_tests-loop-one-init g t c = (omega (arith, c.deref-one-items.ensures), (refl, λ all after h. h))

pub write_tests-loop-one-preserved : goal.write_tests-loop-one-preserved
write_tests-loop-one-preserved g t c =
    let round = g.R.Lookup.round c.args.by.now.lookup.now in
    let around = c.args.by.now.around in
    let slot = c.args.by.now.slot in
    let scope = scope_said c.args.scope.now in
    let xs = c.deref-one-items.result.now in
    let x = c.one-item.result in
    let i = c.loop-one.one-index in
    let before = c.loop-one.invariant in
    let count : c.loop-one.left - 1 + (i + 1) ≡ length xs = omega (arith, before.0, c.loop-one-test.true) in (
      count,
      (
        c.in_ok-write_test.ensures.same ∙ before.1.0,
        λ all after h.
            before.1.1 all after
            (tests_step round around slot scope c.args.more c.either-followed.result xs i x
            c.loop-one.jumps.items c.write_test.new.jumps.items all
            (drafts_said c.loop-one.out.items) (drafts_said c.write_test.new.out.items) after
            c.loop-one-test.true c.one-item.is
            (tests_follow c.args.more _ _ xs i c.either-followed.ensures count)
            (subst (λ s. Holed
            (one_test round around slot (scope_said s) c.either-followed.result x)
            c.loop-one.jumps.items (drafts_said c.loop-one.out.items)
            c.write_test.new.jumps.items (drafts_said c.write_test.new.out.items))
            before.1.0 c.in_ok-write_test.ensures.code)
            h),
      ),
    )

pub write_tests-returns-clause-code : goal.write_tests-returns-clause-code
write_tests-returns-clause-code g t c =
    let round = g.R.Lookup.round c.args.by.now.lookup.now in
    let around = c.args.by.now.around in
    let slot = c.args.by.now.slot in
    let scope = scope_said c.args.scope.now in
    subst (λ xs. Holed (tests_left round around slot scope c.args.more xs)
    c.args.jumps.now.items (drafts_said c.args.out.now.items)
    c.loop-one.jumps.items (drafts_said c.loop-one.out.items))
    c.deref-one-items.ensures.value
    (c.loop-one.invariant.1.1 c.loop-one.jumps.items (drafts_said c.loop-one.out.items)
    (loops.tests_end round around slot scope c.args.more c.deref-one-items.result.now
    c.loop-one.one-index c.loop-one.jumps.items (drafts_said c.loop-one.out.items) c.loop-one-test.false))

pub write_conditional-returns-clause-code : goal.write_conditional-returns-clause-code
write_conditional-returns-clause-code g t c =
    let round = g.R.Lookup.round c.args.by.now.lookup.now in
    let around = c.args.by.now.around in
    let slot = c.args.by.now.slot in
    let scope = scope_said c.args.scope.now in
    let d = drafts_said c.args.out.now.items in
    let d1 = drafts_said c.write_tests.new.out.items in
    let all = c.write_tests.new.jumps.items in
    loops.none_is round around slot scope c.args.branches.now.items all d d1
    (drafts_said c.end_jumps.new.out.items)
    (subst (λ j. Holed (tests_left round around slot scope false c.args.branches.now.items)
    j d all d1) c.new-jumps.ensures.items c.in_ok-write_tests.ensures.code)
    c.in_ok-end_jumps.ensures

pub write_jumps-returns-clause-code : goal.write_jumps-returns-clause-code
write_jumps-returns-clause-code g t c =
    let round = g.R.Lookup.round c.args.by.now.lookup.now in
    let around = c.args.by.now.around in
    let slot = c.args.by.now.slot in
    let scope = scope_said c.args.scope.now in
    subst (λ j. Holed (tests_left round around slot scope true c.args.branches.now.items)
    j (drafts_said c.args.out.now.items) c.write_tests.new.jumps.items
    (drafts_said c.write_tests.new.out.items)) c.new-jumps.ensures.items c.in_ok-write_tests.ensures.code

-- ---- cases

pub write_arm_block-returns-clause-code : goal.write_arm_block-returns-clause-code
write_arm_block-returns-clause-code g t c =
    let round = g.R.Lookup.round c.args.by.now.lookup.now in
    let around = c.args.by.now.around in
    let slot = c.args.by.now.slot in
    let scope = scope_said c.args.scope.now in
    let returns = block_returns (block closed c.args.body.now) in
    let body = said_block round around slot scope c.args.body.now in
    holed_row (λ m. body) (λ m. unless (returns || c.args.last) (Jump m))
    c.args.jumps.now.items c.args.jumps.now.items c.put_end.new.jumps.items
    (drafts_said c.args.out.now.items) (drafts_said c.write_block.new.out.items)
    (drafts_said c.put_end.new.out.items)
    (holed_plain body c.args.jumps.now.items (drafts_said c.args.out.now.items)
    (drafts_said c.write_block.new.out.items) c.in_ok-write_block.ensures.code)
    (subst (λ u. Holed (λ m. unless u (Jump m)) c.args.jumps.now.items
    (drafts_said c.write_block.new.out.items)
    c.put_end.new.jumps.items (drafts_said c.put_end.new.out.items))
    (c.either.ensures ∙ ap (λ r. r || c.args.last) c.block_returns.ensures) c.in_ok-put_end.ensures)

pub write_arm-returns-clause-code : goal.write_arm-returns-clause-code
write_arm-returns-clause-code g t c =
    let see = view_in (g.R.Lookup.round c.args.by.now.lookup.now) in
    let around = c.args.by.now.around in
    let slot = c.args.by.now.slot in
    let arm = c.args.of.now in
    let scope = scope_said c.args.scope.now in
    let note = closed_note c.args.note.now in
    let name = (placed closed arm.case).name in
    let fields = fields_of_case see note name in
    let holed = λ (n : ℕ) (sc : Scope). Holed (arm_to (block_returns (block closed arm.block) || c.args.last)
    (spec.block see around n sc (block closed arm.block)))
    c.args.jumps.now.items (drafts_said c.args.out.now.items)
    c.write_arm_block.new.jumps.items (drafts_said c.write_arm_block.new.out.items) in
    subst (λ n. holed n (with_fields fields slot (map (bound closed) arm.binds.items) scope))
    c.in_ok-slot.ensures.next
    (subst (λ sc. holed c.in_ok-slot.slot sc) c.in_ok-slot.ensures.said
    c.in_ok-write_arm_block.ensures.code)

pub write_arms-loop-one-init : goal.write_arms-loop-one-init
write_arms-loop-one-init g t c =
    (omega (arith, c.deref-one-items.ensures), (refl, ((λ all after h. h), (λ b. (b, refl)))))

pub write_arms-loop-one-preserved : goal.write_arms-loop-one-preserved
write_arms-loop-one-preserved g t c =
    let round = g.R.Lookup.round c.args.by.now.lookup.now in
    let around = c.args.by.now.around in
    let slot = c.args.by.now.slot in
    let scope = scope_said c.args.scope.now in
    let note = closed_note c.args.note.now in
    let xs = c.deref-one-items.result.now in
    let x = c.one-item.result in
    let i = c.loop-one.one-index in
    let before = c.loop-one.invariant in
    let count : c.loop-one.left - 1 + (i + 1) ≡ length xs = omega (arith, before.0, c.loop-one-test.true) in
    let flag = arm_is_last _ _ xs i c.is_last-last.ensures count in
    let holed = subst (λ s. Holed (one_arm round around slot (scope_said s) note
    c.is_last-last.result x)
    c.loop-one.jumps.items (drafts_said c.loop-one.out.items)
    c.write_arm.new.jumps.items (drafts_said c.write_arm.new.out.items))
    before.1.0 c.in_ok-write_arm.ensures.code in (
      count,
      (
        c.in_ok-write_arm.ensures.same ∙ before.1.0,
        (
          (λ all after h.
              before.1.1.0 all after
              (arms_step round around slot scope note c.is_last-last.result xs i x
              c.loop-one.jumps.items c.write_arm.new.jumps.items all
              (drafts_said c.loop-one.out.items) (drafts_said c.write_arm.new.out.items) after
              c.loop-one-test.true c.one-item.is flag holed h)),
          (λ b.
              let below = before.1.1.1 b in (
                holed.below below.0,
                loops.begins_step round around slot scope note c.is_last-last.result xs i x
                    c.loop-one.jumps.items c.write_arm.new.jumps.items
                    (drafts_said c.loop-one.out.items) (drafts_said c.write_arm.new.out.items) _ _ _
                    c.loop-one-test.true c.one-item.is flag below.0 holed c.in_ok-put_start.ensures below.1,
              )),
        ),
      ),
    )

pub write_arms-returns-clause-code : goal.write_arms-returns-clause-code
write_arms-returns-clause-code g t c =
    let round = g.R.Lookup.round c.args.by.now.lookup.now in
    let around = c.args.by.now.around in
    let slot = c.args.by.now.slot in
    let scope = scope_said c.args.scope.now in
    let note = closed_note c.args.note.now in
    subst (λ xs. Holed (arms_left round around slot scope note xs)
    c.args.jumps.now.items (drafts_said c.args.out.now.items)
    c.loop-one.jumps.items (drafts_said c.loop-one.out.items))
    c.deref-one-items.ensures.value
    (c.loop-one.invariant.1.1.0 c.loop-one.jumps.items (drafts_said c.loop-one.out.items)
    (loops.arms_end round around slot scope note c.deref-one-items.result.now
    c.loop-one.one-index c.loop-one.jumps.items (drafts_said c.loop-one.out.items) c.loop-one-test.false))

pub write_arms-returns-clause-starts : goal.write_arms-returns-clause-starts
write_arms-returns-clause-starts g t c = λ b.
    let round = g.R.Lookup.round c.args.by.now.lookup.now in
    let around = c.args.by.now.around in
    let slot = c.args.by.now.slot in
    let scope = scope_said c.args.scope.now in
    let note = closed_note c.args.note.now in
    loops.begins_end round around slot scope note c.deref-one-items.result.now
    c.loop-one.one-index (length (drafts_said c.loop-one.out.items)) _ _ c.loop-one-test.false
    (c.loop-one.invariant.1.1.1 b).1
    ∙ ap (λ xs. starts_said c.args.starts.now.items
    ++ loops.begins_at round around slot scope note xs
    (length (drafts_said c.args.out.now.items)))
    c.deref-one-items.ensures.value

pub write_case-returns-clause-code : goal.write_case-returns-clause-code
write_case-returns-clause-code g t c =
    let round = g.R.Lookup.round c.args.by.now.lookup.now in
    let around = c.args.by.now.around in
    let slot = c.args.by.now.slot in
    let scope = scope_said c.args.scope.now in
    let note = closed_note c.note_of.result.now in
    let d = drafts_said c.write_whole.new.out.items in
    let d1 = drafts_said c.put_case.new.out.items in
    let d2 = drafts_said c.write_arms.new.out.items in
    let all = c.write_arms.new.jumps.items in
    let starts = starts_said c.write_arms.new.starts.items in
    let cases = λ (n : ClosedNote). spec.cases slot
    (spec.arms_of (view_in round) around slot scope n (arm_all closed c.args.arms.now.items)) in
    loops.case_is round around slot scope note c.args.arms.now.items all starts
    d d1 d2 (drafts_said c.end_case.new.out.items) c.in_ok-at.at c.in_ok-at.ensures.at c.in_ok-at.ensures.code
    (subst (λ j. Holed (arms_left round around slot scope note c.args.arms.now.items) j d1 all
    d2) c.new-jumps.ensures.items c.in_ok-write_arms.ensures.code)
    (subst (λ s. starts ≡ starts_said s
    ++ loops.begins_at round around slot scope note c.args.arms.now.items (length d1))
    c.new-starts.ensures.items
    (c.in_ok-write_arms.ensures.starts
    (subst (λ j. AllBelow j (length d1)) (sym c.new-jumps.ensures.items) tt)))
    c.in_ok-end_case.ensures
    ∙ ap (λ n. wrote (cases n) d) c.note_of.ensures
    ∙ ap (wrote (cases (note_of (expression closed c.args.value.now))))
    c.in_ok-write_whole.ensures

-- ---- blocks

pub write_block-loop-one-init : goal.write_block-loop-one-init
write_block-loop-one-init g t c = (begins_same c.args.scope.now, refl)

pub write_block-loop-one-preserved : goal.write_block-loop-one-preserved
write_block-loop-one-preserved g t c =
    let round = g.R.Lookup.round c.args.by.now.lookup.now in
    let around = c.args.by.now.around in
    let same = c.in_ok-write_statement.ensures.same in (
      begins_more c.args.scope.now c.loop-one.scope c.enter.new.scope
          c.loop-one.invariant.0
          (subst (λ s. Begins s c.enter.new.scope) same c.in_ok-enter.ensures.keeps),
      block_step round around c.deref-one-items.result.now c.loop-one.one-index c.one-item.result
          c.loop-one.slot c.in_ok-slot.slot (scope_said c.loop-one.scope)
          (scope_said c.enter.new.scope) (drafts_said c.loop-one.out.items)
          (drafts_said c.write_statement.new.out.items) _ c.loop-one-test.true c.one-item.is
          c.in_ok-write_statement.ensures.code
          (c.in_ok-enter.ensures.said
          ∙ ap (λ s.
          after (view_in round) c.loop-one.slot (statement closed c.one-item.result) (scope_said s))
          same)
          (c.in_ok-slot.ensures ∙ ap (λ n. c.loop-one.slot + n) c.kept.ensures)
          c.loop-one.invariant.1,
    )

pub write_block-returns-clause-code : goal.write_block-returns-clause-code
write_block-returns-clause-code g t c =
    let round = g.R.Lookup.round c.args.by.now.lookup.now in
    let around = c.args.by.now.around in
    let slot = c.args.by.now.slot in
    let scope = scope_said c.args.scope.now in
    block_end round around c.deref-one-items.result.now c.loop-one.one-index c.loop-one.slot
    (scope_said c.loop-one.scope) (drafts_said c.loop-one.out.items) _ c.loop-one-test.false
    (c.loop-one.invariant.1
    ∙ ap (λ xs. wrote (spec.block (view_in round) around slot scope (statement_all closed xs))
    (drafts_said c.args.out.now.items)) c.deref-one-items.ensures.value)
