use Rattle.std.proofs.Common.{◌≡◌, List, ap, sym, subst, ◌∙◌, length, refl, arith, get_or, Ok, Err}
use Rattle.std.proofs.lemmas.Result.{err_from_is_err_and}
use Rattle.au_base.proofs.MeasureLemmas.{block_item_falls}
use Rattle.au_lives.specs.Lives.{Hold, held_from}
use Rattle.au_lives.specs.Paths.{whole, bound_names}
use Rattle.au_lives.specs.Walks.{walk, walk_block, walk_step, does, noted, choose, joined}
use Rattle.au_paths.specs.Lendings.{Lending, held_within}
use Rattle.au_paths.specs.Seen.{seen_expression, seen_statement, seen_statements, seen_block, seen_binds}
use Rattle.au_paths.specs.Standing.{reach_of, Stops, Branches, then_on}
use Rattle.au_paths.specs.Walked.{held_in}
use Rattle.au_syntax.specs.declared.statements.Stmt.{size-Stmt}
use Rattle.au_syntax.specs.declared.statements.Block.{size-Block, size_is-Block}
use Rattle.au_paths.proofs.BranchLemmas as lemmas
use Rattle.au_paths.proofs.walks.+walk.Goals as goal

pub walk_block-loop-one-preserved : goal.walk_block-loop-one-preserved
walk_block-loop-one-preserved g t c =
    let inv = c.loop-one.invariant in
    let s = seen_statement g.P.Phase c.one-item.result in
    let x = c.args.of.now.name.now in
    let sort = c.args.of.now.sort in
    record {
      same = c.in_ok-at.ensures.closed ∙ inv.same;
      left =
          lemmas.block_goes g.P.Phase _ _ c.deref-one-items.result.now c.loop-one.one-index c.one-item.result
          c.one-item.is c.loop-one-test.true _ _ _ _ _ inv.left
          (subst
          (λ (b : List Lending). walk x sort s (held_within x c.loop-one.hidden b) (reach_of c.loop-one.at)
          ≡ Ok (reach_of c.in_ok-at.at)) inv.same c.in_ok-at.ensures.gives)
          (c.hidden_after-hidden.ensures c.args.borrows.now);
    }

pub walk_block-returns-in_err-at-clause-gives : goal.walk_block-returns-in_err-at-clause-gives
walk_block-returns-in_err-at-clause-gives g t c =
    let p = err_from_is_err_and c.from_residual.result c.from_residual.ensures.1 in
    let inv = c.loop-one.invariant in
    let x = c.args.of.now.name.now in
    let sort = c.args.of.now.sort in
    rw (p.1, p.2) (lemmas.block_stops g.P.Phase x sort c.deref-one-items.result.now
    c.loop-one.one-index c.one-item.result c.one-item.is c.loop-one-test.true
    (held_within x c.loop-one.hidden c.args.borrows.now) (reach_of c.loop-one.at) _ c.in_err-at.field-0.0
    (inv.left
    ∙ ap (λ l. walk_block x sort (seen_statements g.P.Phase l)
    (held_in c.args.of.now c.args.borrows.now) (reach_of c.args.reach))
    c.deref-one-items.ensures.value)
    (subst
    (λ (b : List Lending). Stops c.in_err-at.field-0.0 (walk x sort
    (seen_statement g.P.Phase c.one-item.result)
    (held_within x c.loop-one.hidden b) (reach_of c.loop-one.at))) inv.same c.in_err-at.ensures.gives))

pub walk_block-returns-clause-gives : goal.walk_block-returns-clause-gives
walk_block-returns-clause-gives g t c =
    let x = c.args.of.now.name.now in
    let sort = c.args.of.now.sort in
    lemmas.block_ends g.P.Phase x sort c.deref-one-items.result.now c.loop-one.one-index
    c.loop-one-test.false (held_within x c.loop-one.hidden c.args.borrows.now) (reach_of c.loop-one.at) _
    (c.loop-one.invariant.left
    ∙ ap (λ l. walk_block x sort (seen_statements g.P.Phase l)
    (held_in c.args.of.now c.args.borrows.now) (reach_of c.args.reach))
    c.deref-one-items.ensures.value)

pub walk_branches-loop-number-preserved : goal.walk_branches-loop-number-preserved
walk_branches-loop-number-preserved g t c =
    let inv = c.loop-number.invariant in
    let x = c.args.of.now.name.now in
    let sort = c.args.of.now.sort in
    record {
      same = c.in_ok-fork.ensures.closed ∙ inv.same;
      left =
          lemmas.branch_goes g.P.Phase x sort c.args.branches.now.items c.loop-number.number
          c.one-item.result
          (c.one-item.is ∙ ap (λ l. get_or l c.loop-number.number c.one-item.result)
          c.deref-one-items.ensures.value)
          (omega (arith, c.loop-number-test.true, ap length c.deref-one-items.ensures.value))
          (held_in c.args.of.now c.args.borrows.now) c.loop-number.fork c.in_ok-fork.fork _ inv.left
          (subst
          (λ (b : List Lending). Branches x sort (held_in c.args.of.now b) (Ok c.in_ok-fork.fork)
          (seen_expression g.P.Phase c.one-item.result.test.value)
          (seen_block g.P.Phase c.one-item.result.block)
          c.loop-number.number c.loop-number.fork) inv.same c.in_ok-fork.ensures.next);
    }

pub walk_branches-returns-in_err-fork-clause-forks : goal.walk_branches-returns-in_err-fork-clause-forks
walk_branches-returns-in_err-fork-clause-forks g t c =
    let p = err_from_is_err_and c.from_residual.result c.from_residual.ensures.1 in
    let inv = c.loop-number.invariant in
    let x = c.args.of.now.name.now in
    let sort = c.args.of.now.sort in
    rw (p.1, p.2) (lemmas.branch_stops g.P.Phase x sort c.args.branches.now.items
    c.loop-number.number c.one-item.result
    (c.one-item.is ∙ ap (λ l. get_or l c.loop-number.number c.one-item.result)
    c.deref-one-items.ensures.value)
    (omega (arith, c.loop-number-test.true, ap length c.deref-one-items.ensures.value))
    (held_in c.args.of.now c.args.borrows.now) c.loop-number.fork (length c.args.branches.now.items)
    c.in_err-fork.field-0.0 _ inv.left
    (subst
    (λ (b : List Lending). Branches x sort (held_in c.args.of.now b) (Err c.in_err-fork.field-0.0)
    (seen_expression g.P.Phase c.one-item.result.test.value) (seen_block g.P.Phase c.one-item.result.block)
    c.loop-number.number c.loop-number.fork) inv.same c.in_err-fork.ensures.next))

pub walk_branches-returns-clause-forks : goal.walk_branches-returns-clause-forks
walk_branches-returns-clause-forks g t c =
    lemmas.branches_end g.P.Phase c.args.of.now.name.now c.args.of.now.sort c.args.branches.now.items
    c.loop-number.number
    (omega (arith, c.loop-number-test.false, ap length c.deref-one-items.ensures.value))
    (omega (arith, ap length c.deref-one-items.ensures.value))
    (held_in c.args.of.now c.args.borrows.now) c.loop-number.fork _
    c.loop-number.invariant.left

pub walk_branch-returns-in_err-tested-clause-next : goal.walk_branch-returns-in_err-tested-clause-next
walk_branch-returns-in_err-tested-clause-next g t c =
    let p = err_from_is_err_and c.from_residual.result c.from_residual.ensures.1 in
    let x = c.args.of.now.name.now in
    let sort = c.args.of.now.sort in
    let e = seen_expression g.P.Phase c.args.branch.now.test.value in
    rw (p.1, p.2) (lemmas.test_stops x sort (held_in c.args.of.now c.args.borrows.now) c.args.number
    e (seen_block g.P.Phase c.args.branch.now.block) c.args.fork c.in_err-tested.field-0.0
    (subst
    (λ (h : Hold). Stops c.in_err-tested.field-0.0 (noted c.args.number
    (walk_step (does x sort (whole e) h) (reach_of c.args.fork.at))))
    c.hold-hold.ensures c.in_err-tested.ensures))

pub walk_branch-returns-in_err-one-clause-next : goal.walk_branch-returns-in_err-one-clause-next
walk_branch-returns-in_err-one-clause-next g t c =
    let p = err_from_is_err_and c.from_residual-in_err-one.result c.from_residual-in_err-one.ensures.1 in
    let x = c.args.of.now.name.now in
    let sort = c.args.of.now.sort in
    let e = seen_expression g.P.Phase c.args.branch.now.test.value in
    rw (p.1, p.2) (lemmas.part_stops x sort (held_in c.args.of.now c.args.borrows.now) c.args.number
    e (seen_block g.P.Phase c.args.branch.now.block)
    c.args.fork c.in_err-one.field-0.0 (reach_of c.in_ok-tested.tested) (reach_of c.in_ok-entry.entry)
    (subst
    (λ (h : Hold). noted c.args.number
    (walk_step (does x sort (whole e) h) (reach_of c.args.fork.at)) ≡ Ok (reach_of c.in_ok-tested.tested))
    c.hold-hold.ensures c.in_ok-tested.ensures)
    c.in_ok-entry.ensures c.in_err-one.ensures.gives)

pub walk_branch-returns-clause-next : goal.walk_branch-returns-clause-next
walk_branch-returns-clause-next g t c =
    let x = c.args.of.now.name.now in
    let sort = c.args.of.now.sort in
    let e = seen_expression g.P.Phase c.args.branch.now.test.value in
    lemmas.branch_done x sort (held_in c.args.of.now c.args.borrows.now) c.args.number
    e (seen_block g.P.Phase c.args.branch.now.block)
    c.args.fork (reach_of c.in_ok-tested.tested) (reach_of c.in_ok-entry.entry) (reach_of c.in_ok-one.one) _
    (subst
    (λ (h : Hold). noted c.args.number
    (walk_step (does x sort (whole e) h) (reach_of c.args.fork.at)) ≡ Ok (reach_of c.in_ok-tested.tested))
    c.hold-hold.ensures c.in_ok-tested.ensures)
    c.in_ok-entry.ensures c.in_ok-one.ensures.gives refl c.merge.ensures

pub walk_block-walk-requires : goal.walk_block-walk-requires
walk_block-walk-requires g t c κs within = (
  block_item_falls (size-Stmt _ _ _ _) c.deref-one-items.result.now c.args.block.now.statements.items
      c.loop-one.one-index c.one-item.result (size-Block _ _ _ _ c.args.block.now) t c.decreases
      (size_is-Block _ _ _ _ c.args.block.now) c.deref-one-items.ensures.value c.loop-one-test.true
      c.one-item.is,
  within,
)

pub walk-returns-in_err-fork-in-If-clause-gives : goal.walk-returns-in_err-fork-in-If-clause-gives
walk-returns-in_err-fork-in-If-clause-gives g t c =
    let p = err_from_is_err_and c.from_residual.result c.from_residual.ensures.1 in
    rw (p.1, p.2) (lemmas.stops_at c.in_err-fork-in-If.field-0.0
    (sym (lemmas.if_walks g.P.Phase c.args.of.now.name.now c.args.of.now.sort
    (held_in c.args.of.now c.args.borrows.now) (reach_of c.args.reach)
    c.args.stmt.now _ c.in-If.branches c.in-If.is))
    (c.in_err-fork-in-If.ensures.forks Ok))

pub walk-returns-in_err-fork-in-IfElse-clause-gives : goal.walk-returns-in_err-fork-in-IfElse-clause-gives
walk-returns-in_err-fork-in-IfElse-clause-gives g t c =
    let p = err_from_is_err_and c.from_residual-in_err-fork-in-IfElse.result
    c.from_residual-in_err-fork-in-IfElse.ensures.1 in
    let h = held_in c.args.of.now c.args.borrows.now in
    rw (p.1, p.2) (lemmas.stops_at c.in_err-fork-in-IfElse.field-0.0
    (sym (lemmas.if_else_walks g.P.Phase c.args.of.now.name.now c.args.of.now.sort h
    (reach_of c.args.reach) c.args.stmt.now _ c.in-IfElse.branches c.in-IfElse.block c.in-IfElse.is))
    (c.in_err-fork-in-IfElse.ensures.forks (walk_block c.args.of.now.name.now c.args.of.now.sort
    (seen_block g.P.Phase c.in-IfElse.block) h)))

pub walk-returns-in_ok-fork-in-If-clause-gives : goal.walk-returns-in_ok-fork-in-If-clause-gives
walk-returns-in_ok-fork-in-If-clause-gives g t c =
    lemmas.gives_at c.walk_past.result
    (sym (c.in_ok-fork-in-If.ensures.forks Ok)
    ∙ sym (lemmas.if_walks g.P.Phase c.args.of.now.name.now c.args.of.now.sort
    (held_in c.args.of.now c.args.borrows.now) (reach_of c.args.reach)
    c.args.stmt.now _ c.in-If.branches c.in-If.is))
    c.walk_past.ensures

pub walk-returns-in_ok-fork-in-IfElse-clause-gives : goal.walk-returns-in_ok-fork-in-IfElse-clause-gives
walk-returns-in_ok-fork-in-IfElse-clause-gives g t c =
    let x = c.args.of.now.name.now in
    let sort = c.args.of.now.sort in
    let b = seen_block g.P.Phase c.in-IfElse.block in
    let h = held_in c.args.of.now c.args.borrows.now in
    lemmas.gives_at c.walk_else.result
    (sym (c.in_ok-fork-in-IfElse.ensures.forks (walk_block x sort b h))
    ∙ sym (lemmas.if_else_walks g.P.Phase x sort h
    (reach_of c.args.reach) c.args.stmt.now _ c.in-IfElse.branches c.in-IfElse.block c.in-IfElse.is))
    (lemmas.gives_at c.walk_else.result
    (ap
    (λ (l : List Lending). then_on (walk_block x sort b (held_in c.args.of.now l)
    (choose (length c.in-IfElse.branches.items) (reach_of c.in_ok-fork-in-IfElse.fork.at)))
    (joined (reach_of c.in_ok-fork-in-IfElse.fork.out)))
    c.in_ok-fork-in-IfElse.ensures.closed)
    c.walk_else.ensures.gives)

pub walk-returns-in_ok-behind-in-Case-clause-gives : goal.walk-returns-in_ok-behind-in-Case-clause-gives
walk-returns-in_ok-behind-in-Case-clause-gives g t c =
    let x = c.args.of.now.name.now in
    let sort = c.args.of.now.sort in
    let e = seen_expression g.P.Phase c.in-Case.e.value in
    lemmas.gives_at c.walk_case.result
    (sym (lemmas.case_walks g.P.Phase x sort (held_in c.args.of.now c.args.borrows.now)
    (reach_of c.args.reach) c.args.stmt.now _ c.in-Case.e c.in-Case.arms c.in-Case.is
    (reach_of c.in_ok-behind-in-Case.behind)
    (subst
    (λ (h : Hold). walk_step (does x sort (whole e) h) (reach_of c.args.reach)
    ≡ Ok (reach_of c.in_ok-behind-in-Case.behind)) c.hold-hold.ensures c.in_ok-behind-in-Case.ensures)))
    c.walk_case.ensures.gives

pub walk_case-returns-in_err-out-clause-gives : goal.walk_case-returns-in_err-out-clause-gives
walk_case-returns-in_err-out-clause-gives g t c =
    let p = err_from_is_err_and c.from_residual.result c.from_residual.ensures.1 in
    let inv = c.loop-number.invariant in
    let x = c.args.of.now.name.now in
    let sort = c.args.of.now.sort in
    rw (p.1, p.2) (lemmas.arm_stops g.P.Phase x sort (held_in c.args.of.now c.args.borrows.now)
    (reach_of c.args.reach) c.args.arms.now.items c.loop-number.number c.one-item.result
    (c.one-item.is ∙ ap (λ l. get_or l c.loop-number.number c.one-item.result)
    c.deref-one-items.ensures.value)
    (omega (arith, c.loop-number-test.true, ap length c.deref-one-items.ensures.value))
    (reach_of c.loop-number.out) c.in_err-out.field-0.0 inv.left
    (subst
    (λ (b : List Lending). Stops c.in_err-out.field-0.0 (then_on (walk_block x sort
    (seen_block g.P.Phase c.one-item.result.block)
    (held_from x (bound_names (seen_binds g.P.Phase c.one-item.result.binds.items))
    (held_in c.args.of.now b)) (choose c.loop-number.number (reach_of c.args.reach)))
    (joined (reach_of c.loop-number.out)))) inv.same c.in_err-out.ensures.gives))

pub walk_case-returns-clause-gives : goal.walk_case-returns-clause-gives
walk_case-returns-clause-gives g t c =
    lemmas.case_ends g.P.Phase c.args.of.now.name.now c.args.of.now.sort
    (held_in c.args.of.now c.args.borrows.now) (reach_of c.args.reach)
    c.args.arms.now.items c.loop-number.number (reach_of c.loop-number.out) c.behind_arms.result
    (omega (arith, c.loop-number-test.false, ap length c.deref-one-items.ensures.value))
    c.loop-number.invariant.left c.behind_arms.ensures.none c.behind_arms.ensures.some

pub walk_case-loop-number-preserved : goal.walk_case-loop-number-preserved
walk_case-loop-number-preserved g t c =
    let inv = c.loop-number.invariant in
    let x = c.args.of.now.name.now in
    let sort = c.args.of.now.sort in
    record {
      same = c.in_ok-out.ensures.closed ∙ inv.same;
      left =
          lemmas.arm_goes g.P.Phase x sort (held_in c.args.of.now c.args.borrows.now)
          (reach_of c.args.reach) c.args.arms.now.items c.loop-number.number c.one-item.result
          (c.one-item.is ∙ ap (λ l. get_or l c.loop-number.number c.one-item.result)
          c.deref-one-items.ensures.value)
          (omega (arith, c.loop-number-test.true, ap length c.deref-one-items.ensures.value))
          (reach_of c.loop-number.out) (reach_of c.in_ok-out.out) _ inv.left
          (subst
          (λ (b : List Lending). then_on (walk_block x sort
          (seen_block g.P.Phase c.one-item.result.block)
          (held_from x (bound_names (seen_binds g.P.Phase c.one-item.result.binds.items))
          (held_in c.args.of.now b)) (choose c.loop-number.number (reach_of c.args.reach)))
          (joined (reach_of c.loop-number.out)) ≡ Ok (reach_of c.in_ok-out.out)) inv.same
          c.in_ok-out.ensures.gives);
    }
