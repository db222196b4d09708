use Rattle.std.proofs.Common.{false, ap, sym, ◌∙◌, arith}
use Rattle.std.proofs.lemmas.List.{length-map}
use Rattle.au_closed_trees.specs.contracts.phase.ClosedTreesPhase.TheImpl.{ghosts as closed}
use Rattle.au_closed_meanings.specs.Surroundings.{view_in}
use Rattle.au_lowered.specs.Drafts.{does, either}
use Rattle.au_lowered.specs.Expressions.{code_of_all, code_of_named}
use Rattle.au_lowering_expressions.specs.Parts.{pushes_false, pushes_true}
use Rattle.au_lowering_expressions.specs.Views.{draft_said, drafts_said, scope_said}
use Rattle.au_lowering_expressions.specs.Wrote.{wrote}
use Rattle.au_syntax.specs.Views.{argument_all, expression, expression_all}
use Rattle.au_lowering_expressions.proofs.CodeLemmas as lemmas
use Rattle.au_lowering_expressions.proofs.LoopLemmas as loops
use Rattle.au_lowering_expressions.proofs.PartLemmas.{operand_alone, operand_other}
use Rattle.au_lowering_expressions.proofs.WroteLemmas.{either_written, first_written}
use Rattle.au_lowering_expressions.proofs.expressions.+write.Goals as goal

pub write-returns-in-Number : goal.write-returns-in-Number
write-returns-in-Number g t c = grind (arith, lemmas.number_code)

pub write-returns-in-Negative : goal.write-returns-in-Negative
write-returns-in-Negative g t c = grind (arith, lemmas.negative_code)

pub write-returns-in-Text : goal.write-returns-in-Text
write-returns-in-Text g t c = grind (arith, lemmas.text_code)

pub write-returns-in-Bool : goal.write-returns-in-Bool
write-returns-in-Bool g t c = grind (arith, lemmas.bool_code)

pub write-returns-in-Nil : goal.write-returns-in-Nil
write-returns-in-Nil g t c = grind (arith, lemmas.nil_code)

pub write-returns-in-Path : goal.write-returns-in-Path
write-returns-in-Path g t c = grind (arith, lemmas.path_code_is)

pub write-returns-in-Arrow : goal.write-returns-in-Arrow
write-returns-in-Arrow g t c = grind (arith, lemmas.arrow_code)

pub write-returns-in_ok-write_all-in-Call : goal.write-returns-in_ok-write_all-in-Call
write-returns-in_ok-write_all-in-Call g t c = grind (arith, lemmas.call_code)

pub write-returns-in_ok-write_arguments-in-NamedCall : goal.write-returns-in_ok-write_arguments-in-NamedCall
write-returns-in_ok-write_arguments-in-NamedCall g t c = grind (arith, lemmas.named_call_code)

pub write-returns-in-Parenthesized : goal.write-returns-in-Parenthesized
write-returns-in-Parenthesized g t c = grind (arith, lemmas.parenthesized_code)

pub write-returns-in_ok-write_operand-in-Dereference : goal.write-returns-in_ok-write_operand-in-Dereference
write-returns-in_ok-write_operand-in-Dereference g t c = grind (arith, lemmas.dereference_code)

pub write-returns-in-Borrow : goal.write-returns-in-Borrow
write-returns-in-Borrow g t c = grind (arith, lemmas.borrow_code)

pub write-returns-in-BorrowPart : goal.write-returns-in-BorrowPart
write-returns-in-BorrowPart g t c = grind (arith, lemmas.borrow_part_code)

pub write-returns-in_ok-write-in-Binary : goal.write-returns-in_ok-write-in-Binary
write-returns-in_ok-write-in-Binary g t c = grind (arith, lemmas.binary_code)

pub write-returns-in_ok-write-in-Not : goal.write-returns-in_ok-write-in-Not
write-returns-in_ok-write-in-Not g t c = grind (arith, lemmas.not_code)

pub write-returns-in-Typed : goal.write-returns-in-Typed
write-returns-in-Typed g t c = grind (arith, lemmas.typed_code)

pub write-returns-in_ok-end_jump-in-If : goal.write-returns-in_ok-end_jump-in-If
write-returns-in_ok-end_jump-in-If g t c =
    let round = g.R.Lookup.round c.args.lookup.now in
    let scope = scope_said c.args.scope.now in
    let p = c.in-If in
    let before = drafts_said c.args.out.now.items in
    let test = lemmas.said_code round scope c.deref-in-If.result.now in
    let first = lemmas.said_code round scope c.deref-in-If-2.result.now in
    let second = lemmas.said_code round scope c.deref-in-If-3.result.now in
    either_written first second
    _ _ _ (drafts_said c.end_jump.new.out.items) c.in_ok-jump-in-If.jump c.in_ok-jump-in-If.ensures
    c.in_ok-write-in-If-2.ensures c.in_ok-end_jump-in-If.ensures
    ∙ ap (wrote (either false first second)) c.in_ok-write-in-If.ensures
    ∙ ap (λ x. wrote (either false (lemmas.said_code round scope x) second) (wrote test before))
    c.deref-in-If-2.ensures
    ∙ ap (λ x. wrote (either false (lemmas.said_code round scope p.first.value)
    (lemmas.said_code round scope x)) (wrote test before)) c.deref-in-If-3.ensures
    ∙ ap (λ x. wrote (either false (lemmas.said_code round scope p.first.value)
    (lemmas.said_code round scope p.second.value)) (wrote (lemmas.said_code round scope x) before))
    c.deref-in-If.ensures
    ∙ sym (lemmas.if_code round scope before p.field-0 p.test p.first p.second)
    ∙ sym (ap (λ e. wrote (lemmas.said_code round scope e) before) p.is)

-- ---- branches

pub write_first-returns : goal.write_first-returns
write_first-returns g t c =
    first_written
    (lemmas.said_code (g.R.Lookup.round c.args.lookup.now) (scope_said c.args.scope.now) c.args.of.now)
    (drafts_said c.args.out.now.items) (drafts_said c.put.new.out.items) (drafts_said c.write.new.out.items)
    (drafts_said c.end_first.new.out.items) c.len-test.result c.len-jump.result
    (cc (length-map c.args.out.now.items draft_said)) c.in_ok-put.ensures c.in_ok-write.ensures
    (cc (length-map c.write.new.out.items draft_said)) c.in_ok-end_first.ensures

pub write_and-returns : goal.write_and-returns
write_and-returns g t c =
    either_written
    (lemmas.said_code (g.R.Lookup.round c.args.lookup.now) (scope_said c.args.scope.now) c.args.second.now)
    (does pushes_false) (drafts_said c.args.out.now.items) (drafts_said c.write_first.new.out.items)
    (drafts_said c.put.new.out.items) (drafts_said c.end_jump.new.out.items) c.in_ok-jump.jump
    c.in_ok-jump.ensures c.in_ok-put.ensures c.in_ok-end_jump.ensures

pub write_or-returns : goal.write_or-returns
write_or-returns g t c =
    either_written (does pushes_true)
    (lemmas.said_code (g.R.Lookup.round c.args.lookup.now) (scope_said c.args.scope.now) c.args.second.now)
    (drafts_said c.args.out.now.items) (drafts_said c.write_true.new.out.items)
    (drafts_said c.write.new.out.items) (drafts_said c.end_jump.new.out.items) c.in_ok-jump.jump
    c.in_ok-jump.ensures c.in_ok-write.ensures c.in_ok-end_jump.ensures

-- ---- operations

pub write_second-returns-in-And : goal.write_second-returns-in-And
write_second-returns-in-And g t c = grind (arith, lemmas.second_and)

pub write_second-returns-in-Or : goal.write_second-returns-in-Or
write_second-returns-in-Or g t c = grind (arith, lemmas.second_or)

pub write_second-returns-in-Computes : goal.write_second-returns-in-Computes
write_second-returns-in-Computes g t c = grind (arith, lemmas.second_computes)

pub write_second-returns-in-Compares : goal.write_second-returns-in-Compares
write_second-returns-in-Compares g t c = grind (arith, lemmas.second_compares)

-- ---- what is looked at

pub write_operand-returns-then-found : goal.write_operand-returns-then-found
write_operand-returns-then-found g t c =
    let e = expression closed c.args.of.now in
    let scope = scope_said c.args.scope.now in
    operand_alone scope e
    (lemmas.said_code (g.R.Lookup.round c.args.lookup.now) scope c.args.of.now)
    (drafts_said c.args.out.now.items) (drafts_said c.put_alone.new.out.items)
    (sym c.in_ok-found.ensures.found ∙ c.if-found.true) c.in_ok-found.ensures.written

pub write_operand-returns : goal.write_operand-returns
write_operand-returns g t c =
    let e = expression closed c.args.of.now in
    let scope = scope_said c.args.scope.now in
    operand_other scope e
    (lemmas.said_code (g.R.Lookup.round c.args.lookup.now) scope c.args.of.now)
    (drafts_said c.args.out.now.items) (drafts_said c.put_alone.new.out.items)
    (drafts_said c.write.new.out.items)
    (sym c.in_ok-found.ensures.found ∙ c.if-found.false) c.in_ok-found.ensures.written c.in_ok-write.ensures

-- ---- arguments

pub write_all-loop-one-preserved : goal.write_all-loop-one-preserved
write_all-loop-one-preserved g t c =
    loops.all_step (g.R.Lookup.round c.args.lookup.now) (scope_said c.args.scope.now)
    c.deref-one-items.result.now c.loop-one.one-index c.one-item.result (drafts_said c.loop-one.out.items) _ _
    c.loop-one-test.true c.one-item.is c.in_ok-write.ensures c.loop-one.invariant

pub write_all-returns : goal.write_all-returns
write_all-returns g t c =
    loops.all_end (g.R.Lookup.round c.args.lookup.now) (scope_said c.args.scope.now)
    c.deref-one-items.result.now c.loop-one.one-index (drafts_said c.loop-one.out.items) _
    c.loop-one-test.false
    (c.loop-one.invariant
    ∙ ap (λ es. wrote (code_of_all (view_in (g.R.Lookup.round c.args.lookup.now))
    (scope_said c.args.scope.now)
    (expression_all closed es)) (drafts_said c.args.out.now.items)) c.deref-one-items.ensures.value)

pub write_arguments-loop-one-preserved : goal.write_arguments-loop-one-preserved
write_arguments-loop-one-preserved g t c =
    loops.named_step (g.R.Lookup.round c.args.lookup.now) (scope_said c.args.scope.now)
    c.deref-one-items.result.now c.loop-one.one-index c.one-item.result (drafts_said c.loop-one.out.items) _ _
    c.loop-one-test.true c.one-item.is c.in_ok-write_argument.ensures c.loop-one.invariant

pub write_arguments-returns : goal.write_arguments-returns
write_arguments-returns g t c =
    loops.named_end (g.R.Lookup.round c.args.lookup.now) (scope_said c.args.scope.now)
    c.deref-one-items.result.now c.loop-one.one-index (drafts_said c.loop-one.out.items) _
    c.loop-one-test.false
    (c.loop-one.invariant
    ∙ ap (λ es. wrote (code_of_named (view_in (g.R.Lookup.round c.args.lookup.now))
    (scope_said c.args.scope.now)
    (argument_all closed es)) (drafts_said c.args.out.now.items)) c.deref-one-items.ensures.value)
