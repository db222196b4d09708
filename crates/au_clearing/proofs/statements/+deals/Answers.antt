use Rattle.std.proofs.Common.{◌≡◌, ◌==◌, false, [], ◌∷◌, ◌++◌, drop, IfOk, OnOk, refl, sym, ap, subst, ◌∙◌}
use Rattle.std.proofs.Common.{append_assoc, arith}
use Rattle.std.proofs.lemmas.Bool.{eqb-true}
use Rattle.std.proofs.lemmas.List.{drop_all, nil_from_length}
use Rattle.std.proofs.lemmas.Result.{IfOk-weaker, on_ok_weaker}
use Rattle.au_syntax.specs.Plain.{plain_statement}
use Rattle.au_syntax.proofs.StatementLemmas as says
use Rattle.au_lives.specs.Lives.{held_from}
use Rattle.au_lives.specs.Paths.{declared, lent, bound_names}
use Rattle.au_lives.specs.Scopes.{scope, scopes, scopes_after, scopes_inside, scopes_of_branches}
use Rattle.au_lives.specs.Scopes.{scopes_of_arms, bound_over}
use Rattle.au_clearing.specs.Touches.{Written, Quiet, kept, touched_at}
use Rattle.au_clearing.specs.Dealings.{nothing, never, once, mention, cased, chain, fork, turns, lend_named}
use Rattle.au_clearing.specs.Dealings.{deal_block, deal_branches, deal_arms, returns_in_block}
use Rattle.au_clearing.specs.Dealings.{returns_in_branches, returns_in_arms}
use Rattle.au_clearing.specs.Seen.{seen_name, seen_expression, seen_binds, seen_statement, seen_statements}
use Rattle.au_clearing.specs.Seen.{seen_block, seen_branches, seen_arms}
use Rattle.au_clearing.specs.Deals.{seen_at, Sums, SumsBlock, SumsStatement, Piles}
use Rattle.au_clearing.proofs.ItemLemmas as items
use Rattle.au_clearing.proofs.SumLemmas as sums
use Rattle.au_clearing.proofs.statements.+deals.Goals as goal

-- a statement

pub deals_before-returns-clause-seen : goal.deals_before-returns-clause-seen
deals_before-returns-clause-seen g t c = λ more rest.
    IfOk-weaker c.chained.result _ _
    (λ d chains.
    sums.sums_statement c.in_ok-own.own c.args.other c.forget_declared.new.deals d
    (seen_statement g.P.Phase c.args.stmt.now) more c.in_ok-own.ensures.seen rest c.forget_declared.ensures
    chains)
    c.chained.ensures

pub deals_before-returns-clause-piles : goal.deals_before-returns-clause-piles
deals_before-returns-clause-piles g t c = λ more rest.
    let s = seen_statement g.P.Phase c.args.stmt.now in
    sums.on_ok_if c.chained.result
    (sums.piles_then (scopes_after s more) (scopes_inside s) c.args.pile_of.now.items
    c.deals_of.new.pile_of.items c.pile_declared.new.pile_of.items c.in_ok-own.ensures.piles
    (c.in_ok-pile_declared.ensures more rest))

-- the statements of a block

pub deals_of_block-loop-left-init : goal.deals_of_block-loop-left-init
deals_of_block-loop-left-init g t c =
    let ss = c.args.block.now.statements in
    let all = sym (drop_all c.len-left.result ss.items (omega (arith, ss.ok.0, c.len-left.ensures))) in
    record {
      within = omega (arith, ss.ok.0, c.len-left.ensures);
      seen = subst (λ l. SumsBlock c.no_step-behind.result (seen_statements g.P.Phase l)) all c.no_step-behind.ensures;
      piles =
          subst
          (λ l. Piles (scopes (seen_statements g.P.Phase l)) c.args.pile_of.now.items c.args.pile_of.now.items) all
          (sums.piles_none c.args.pile_of.now.items);
    }

pub deals_of_block-loop-left-preserved : goal.deals_of_block-loop-left-preserved
deals_of_block-loop-left-preserved g t c =
    let ss = c.args.block.now.statements.items in
    let inv = c.loop-left.invariant in
    let rest = seen_statements g.P.Phase (drop c.loop-left.left ss) in
    record {
      within = omega (arith, inv.within);
      seen =
          subst (λ l. SumsBlock c.in_ok-behind.behind (seen_statements g.P.Phase l))
          (sym (items.item_before ss c.loop-left.left c.index.result.now c.index.ensures
          (omega (arith, c.loop-left-test.true)) inv.within))
          (c.in_ok-behind.ensures.seen rest inv.seen);
      piles =
          sums.piles_before (λ l. scopes (seen_statements g.P.Phase l))
          (λ s more. scopes_after (seen_statement g.P.Phase s) (seen_statements g.P.Phase more)
          ++ scopes_inside (seen_statement g.P.Phase s))
          (λ s more. sym (append_assoc
          (scopes_after (seen_statement g.P.Phase s) (seen_statements g.P.Phase more))
          (scopes_inside (seen_statement g.P.Phase s)) (scopes (seen_statements g.P.Phase more))))
          ss c.loop-left.left c.index.result.now c.index.ensures (omega (arith, c.loop-left-test.true)) inv.within
          c.args.pile_of.now.items c.loop-left.pile_of.items c.deals_before.new.pile_of.items inv.piles
          (c.in_ok-behind.ensures.piles rest inv.seen);
    }

pub deals_of_block-returns-clause-seen : goal.deals_of_block-returns-clause-seen
deals_of_block-returns-clause-seen g t c =
    let none : c.loop-left.left ≡ 0 = omega (arith, c.loop-left-test.false) in
    subst
    (λ n. SumsBlock c.loop-left.behind (seen_statements g.P.Phase (drop n c.args.block.now.statements.items))) none
    c.loop-left.invariant.seen

pub deals_of_block-returns-clause-piles : goal.deals_of_block-returns-clause-piles
deals_of_block-returns-clause-piles g t c =
    let none : c.loop-left.left ≡ 0 = omega (arith, c.loop-left-test.false) in
    subst
    (λ n. Piles (scopes (seen_statements g.P.Phase (drop n c.args.block.now.statements.items)))
    c.args.pile_of.now.items c.loop-left.pile_of.items)
    none c.loop-left.invariant.piles

-- conditionals

pub deals_of_branches-loop-left-init : goal.deals_of_branches-loop-left-init
deals_of_branches-loop-left-init g t c =
    let bs = c.args.branches.now in
    let all = sym (drop_all c.len-left.result bs.items (omega (arith, bs.ok.0, c.len-left.ensures))) in
    record {
      within = omega (arith, bs.ok.0, c.len-left.ensures);
      seen =
          subst
          (λ l. Sums c.args.other
          (λ x free h. deal_branches x free (seen_branches g.P.Phase l) (seen_at c.args.other x free h)
          c.args.other.returns h)
          (returns_in_branches (seen_branches g.P.Phase l) c.args.other.returns))
          all (sums.sums_self c.args.other);
      piles =
          subst
          (λ l. Piles (scopes_of_branches (seen_branches g.P.Phase l)) c.args.pile_of.now.items
          c.args.pile_of.now.items)
          all (sums.piles_none c.args.pile_of.now.items);
    }

pub deals_of_branches-loop-left-preserved : goal.deals_of_branches-loop-left-preserved
deals_of_branches-loop-left-preserved g t c =
    let bs = c.args.branches.now.items in
    let inv = c.loop-left.invariant in
    let one = c.index.result.now in
    let rest = seen_branches g.P.Phase (drop c.loop-left.left bs) in
    record {
      within = omega (arith, inv.within);
      seen =
          subst
          (λ l. Sums c.in_ok-behind.behind
          (λ x free h. deal_branches x free (seen_branches g.P.Phase l) (seen_at c.args.other x free h)
          c.args.other.returns h)
          (returns_in_branches (seen_branches g.P.Phase l) c.args.other.returns))
          (sym (items.item_before bs c.loop-left.left one c.index.ensures (omega (arith, c.loop-left-test.true))
          inv.within))
          (sums.sums_branch c.in_ok-behind.behind c.loop-left.behind
          (seen_expression g.P.Phase one.test.value) (seen_block g.P.Phase one.block) rest
          (λ x free h. seen_at c.args.other x free h) c.args.other.returns c.in_ok-behind.ensures.seen inv.seen);
      piles =
          sums.piles_before (λ l. scopes_of_branches (seen_branches g.P.Phase l))
          (λ b more. scopes (seen_block g.P.Phase b.block)) (λ b more. refl)
          bs c.loop-left.left one c.index.ensures (omega (arith, c.loop-left-test.true)) inv.within
          c.args.pile_of.now.items c.loop-left.pile_of.items c.deals_of_branch.new.pile_of.items inv.piles
          c.in_ok-behind.ensures.piles;
    }

pub deals_of_branches-returns-clause-seen : goal.deals_of_branches-returns-clause-seen
deals_of_branches-returns-clause-seen g t c =
    let none : c.loop-left.left ≡ 0 = omega (arith, c.loop-left-test.false) in
    subst
    (λ n. Sums c.loop-left.behind
    (λ x free h. deal_branches x free (seen_branches g.P.Phase (drop n c.args.branches.now.items))
    (seen_at c.args.other x free h) c.args.other.returns h)
    (returns_in_branches (seen_branches g.P.Phase (drop n c.args.branches.now.items)) c.args.other.returns))
    none c.loop-left.invariant.seen

pub deals_of_branches-returns-clause-piles : goal.deals_of_branches-returns-clause-piles
deals_of_branches-returns-clause-piles g t c =
    let none : c.loop-left.left ≡ 0 = omega (arith, c.loop-left-test.false) in
    subst
    (λ n. Piles (scopes_of_branches (seen_branches g.P.Phase (drop n c.args.branches.now.items)))
    c.args.pile_of.now.items c.loop-left.pile_of.items)
    none c.loop-left.invariant.piles

pub deals_of_branch-returns-clause-seen : goal.deals_of_branch-returns-clause-seen
deals_of_branch-returns-clause-seen g t c =
    let b = seen_block g.P.Phase c.args.branch.now.block in
    let two =
    sums.sums_fork c.in_ok-both.both c.in_ok-block.block c.args.other (λ x free h. deal_block x free b h)
    (λ x free h. seen_at c.args.other x free h) (returns_in_block b) c.args.other.returns c.in_ok-block.ensures.seen
    (sums.sums_self c.args.other) c.in_ok-both.ensures in
    IfOk-weaker c.meets.result _ _
    (λ d all.
    sums.sums_step d c.in_ok-both.both
    (λ x free h. once (touched_at x free h (seen_expression g.P.Phase c.args.branch.now.test.value)))
    (λ x free h. fork (deal_block x free b h) (seen_at c.args.other x free h)) _ two
    (subst
    (λ e. Sums d
    (λ x free h. chain c.in_ok-both.both.returns (once (touched_at x free h (seen_expression g.P.Phase e)))
    (seen_at c.in_ok-both.both x free h))
    c.in_ok-both.both.returns)
    c.deref.ensures all))
    c.meets.ensures

pub deals_of_branch-returns-clause-piles : goal.deals_of_branch-returns-clause-piles
deals_of_branch-returns-clause-piles g t c = sums.on_ok_if c.meets.result c.in_ok-block.ensures.piles

-- loops

pub deals_of_while-returns-clause-seen : goal.deals_of_while-returns-clause-seen
deals_of_while-returns-clause-seen g t c =
    let b = seen_block g.P.Phase c.args.block.now in
    IfOk-weaker c.meets.result _ _
    (λ d all.
    sums.sums_step d c.in_ok-turns.turns
    (λ x free h. once (kept (touched_at x free h (seen_expression g.P.Phase c.args.e.now))))
    (λ x free h. turns (deal_block x free b h)) (returns_in_block b)
    (sums.sums_turns c.in_ok-turns.turns c.in_ok-body.body (λ x free h. deal_block x free b h)
    (returns_in_block b) c.in_ok-body.ensures.seen c.in_ok-turns.ensures)
    all)
    c.meets.ensures

pub deals_of_while-returns-clause-piles : goal.deals_of_while-returns-clause-piles
deals_of_while-returns-clause-piles g t c = sums.on_ok_if c.meets.result c.in_ok-body.ensures.piles

pub deals_of_for-returns-clause-seen : goal.deals_of_for-returns-clause-seen
deals_of_for-returns-clause-seen g t c =
    let b = seen_block g.P.Phase c.args.block.now in
    let name = (seen_name g.P.Phase c.args.name.now).name in
    let second =
    sums.sums_step c.in_ok-behind.behind c.in_ok-turns.turns
    (λ x free h. once (touched_at x free h (seen_expression g.P.Phase c.args.end.now)))
    (λ x free h. turns (deal_block x free b (held_from x (declared name ∷ []) h))) (returns_in_block b)
    c.in_ok-turns.ensures.seen c.in_ok-behind.ensures in
    IfOk-weaker c.meets-2.result _ _
    (λ d all.
    sums.sums_step d c.in_ok-behind.behind
    (λ x free h. once (touched_at x free h (seen_expression g.P.Phase c.args.start.now)))
    (λ x free h. chain (returns_in_block b)
    (once (touched_at x free h (seen_expression g.P.Phase c.args.end.now)))
    (turns (deal_block x free b (held_from x (declared name ∷ []) h))))
    (returns_in_block b) second all)
    c.meets-2.ensures

pub deals_of_for-returns-clause-piles : goal.deals_of_for-returns-clause-piles
deals_of_for-returns-clause-piles g t c = sums.on_ok_if c.meets-2.result c.in_ok-turns.ensures.piles

pub deals_of_turns-returns-clause-seen : goal.deals_of_turns-returns-clause-seen
deals_of_turns-returns-clause-seen g t c =
    let b = seen_block g.P.Phase c.args.block.now in
    let name = (seen_name g.P.Phase c.args.name.now).name in
    IfOk-weaker c.turned.result _ _
    (λ d all.
    sums.sums_turns d c.forget_name.new.deals
    (λ x free h. deal_block x free b (held_from x (declared name ∷ []) h)) (returns_in_block b)
    (sums.sums_hidden c.forget_name.new.deals c.in_ok-body.body (λ x h. held_from x (declared name ∷ []) h)
    (λ x free h. deal_block x free b h) (returns_in_block b) c.in_ok-body.ensures.seen c.forget_name.ensures)
    all)
    c.turned.ensures

pub deals_of_turns-returns-clause-piles : goal.deals_of_turns-returns-clause-piles
deals_of_turns-returns-clause-piles g t c =
    let b = seen_block g.P.Phase c.args.block.now in
    sums.on_ok_if c.turned.result
    (sums.piles_then (scope (seen_name g.P.Phase c.args.name.now) b ∷ []) (scopes b) c.args.pile_of.now.items
    c.deals_of_block.new.pile_of.items c.pile.new.pile.items c.in_ok-body.ensures.piles
    (c.in_ok-pile.ensures b c.in_ok-body.ensures.seen))

-- borrow statements

pub deals_of_loan-returns-clause-seen : goal.deals_of_loan-returns-clause-seen
deals_of_loan-returns-clause-seen g t c =
    let b = seen_block g.P.Phase c.args.block.now in
    sums.sums_loan c.lend.new.deals c.forget_name.new.deals c.in_ok-body.body
    (seen_name g.P.Phase c.args.reference.now).name (seen_name g.P.Phase c.args.variable.now).name c.args.access b
    c.in_ok-body.ensures.seen c.forget_name.ensures
    (subst
    (λ n. Sums c.lend.new.deals
    (λ x free h. lend_named x n c.args.access h (seen_at c.forget_name.new.deals x free h))
    c.forget_name.new.deals.returns)
    c.bytes_of-bytes.ensures.bytes c.in_ok-lend.ensures)

pub deals_of_loan-returns-clause-piles : goal.deals_of_loan-returns-clause-piles
deals_of_loan-returns-clause-piles g t c =
    let b = seen_block g.P.Phase c.args.block.now in
    sums.piles_then (scope (seen_name g.P.Phase c.args.reference.now) b ∷ []) (scopes b)
    c.args.pile_of.now.items c.deals_of_block.new.pile_of.items c.pile.new.pile.items c.in_ok-body.ensures.piles
    (c.in_ok-pile.ensures b c.in_ok-body.ensures.seen)

-- cases

pub deals_of_arms-loop-left-init : goal.deals_of_arms-loop-left-init
deals_of_arms-loop-left-init g t c =
    let rows = c.args.arms.now in
    let all = sym (drop_all c.len-left.result rows.items (omega (arith, rows.ok.0, c.len-left.ensures))) in
    record {
      within = omega (arith, rows.ok.0, c.len-left.ensures);
      seen =
          subst
          (λ l. Sums c.no_path-behind.result (λ x free h. deal_arms x free (seen_arms g.P.Phase l) h)
          (returns_in_arms (seen_arms g.P.Phase l)))
          all c.no_path-behind.ensures;
      piles =
          subst
          (λ l. Piles (scopes_of_arms (seen_arms g.P.Phase l)) c.args.pile_of.now.items
          c.args.pile_of.now.items)
          all (sums.piles_none c.args.pile_of.now.items);
    }

pub deals_of_arms-loop-left-preserved : goal.deals_of_arms-loop-left-preserved
deals_of_arms-loop-left-preserved g t c =
    let all = c.args.arms.now.items in
    let inv = c.loop-left.invariant in
    let one = c.index.result.now in
    let rest = seen_arms g.P.Phase (drop c.loop-left.left all) in
    let b = seen_block g.P.Phase one.block in
    let binds = seen_binds g.P.Phase one.binds.items in
    record {
      within = omega (arith, inv.within);
      seen =
          subst
          (λ l. Sums c.in_ok-behind.behind (λ x free h. deal_arms x free (seen_arms g.P.Phase l) h)
          (returns_in_arms (seen_arms g.P.Phase l)))
          (sym (items.item_before all c.loop-left.left one c.index.ensures (omega (arith, c.loop-left-test.true))
          inv.within))
          (sums.sums_fork c.in_ok-behind.behind c.in_ok-one.one c.loop-left.behind
          (λ x free h. deal_block x free b (held_from x (bound_names binds) h))
          (λ x free h. deal_arms x free rest h) (returns_in_block b) (returns_in_arms rest) c.in_ok-one.ensures.seen
          inv.seen c.in_ok-behind.ensures);
      piles =
          sums.piles_before (λ l. scopes_of_arms (seen_arms g.P.Phase l))
          (λ a more. bound_over (seen_binds g.P.Phase a.binds.items) (seen_block g.P.Phase a.block)
          ++ scopes (seen_block g.P.Phase a.block))
          (λ a more. sym (append_assoc
          (bound_over (seen_binds g.P.Phase a.binds.items) (seen_block g.P.Phase a.block))
          (scopes (seen_block g.P.Phase a.block)) (scopes_of_arms (seen_arms g.P.Phase more))))
          all c.loop-left.left one c.index.ensures (omega (arith, c.loop-left-test.true)) inv.within
          c.args.pile_of.now.items c.loop-left.pile_of.items c.deals_of_arm.new.pile_of.items inv.piles
          c.in_ok-one.ensures.piles;
    }

pub deals_of_arms-returns-clause-seen : goal.deals_of_arms-returns-clause-seen
deals_of_arms-returns-clause-seen g t c =
    let none : c.loop-left.left ≡ 0 = omega (arith, c.loop-left-test.false) in
    subst
    (λ n. Sums c.loop-left.behind
    (λ x free h. deal_arms x free (seen_arms g.P.Phase (drop n c.args.arms.now.items)) h)
    (returns_in_arms (seen_arms g.P.Phase (drop n c.args.arms.now.items))))
    none c.loop-left.invariant.seen

pub deals_of_arms-returns-clause-piles : goal.deals_of_arms-returns-clause-piles
deals_of_arms-returns-clause-piles g t c =
    let none : c.loop-left.left ≡ 0 = omega (arith, c.loop-left-test.false) in
    subst
    (λ n. Piles (scopes_of_arms (seen_arms g.P.Phase (drop n c.args.arms.now.items)))
    c.args.pile_of.now.items c.loop-left.pile_of.items)
    none c.loop-left.invariant.piles

pub deals_of_arm-returns-clause-seen : goal.deals_of_arm-returns-clause-seen
deals_of_arm-returns-clause-seen g t c =
    let b = seen_block g.P.Phase c.args.arm.now.block in
    sums.sums_hidden c.forget_binds.new.deals c.in_ok-body.body
    (λ x h. held_from x (bound_names (seen_binds g.P.Phase c.args.arm.now.binds.items)) h)
    (λ x free h. deal_block x free b h) (returns_in_block b) c.in_ok-body.ensures.seen c.forget_binds.ensures

pub deals_of_arm-returns-clause-piles : goal.deals_of_arm-returns-clause-piles
deals_of_arm-returns-clause-piles g t c =
    let b = seen_block g.P.Phase c.args.arm.now.block in
    sums.piles_then (bound_over (seen_binds g.P.Phase c.args.arm.now.binds.items) b) (scopes b)
    c.args.pile_of.now.items c.deals_of_block.new.pile_of.items c.pile_binds.new.pile_of.items
    c.in_ok-body.ensures.piles (c.in_ok-pile_binds.ensures b c.in_ok-body.ensures.seen)

pub deals_of_case-returns-then-is_empty-clause-seen : goal.deals_of_case-returns-then-is_empty-clause-seen
deals_of_case-returns-then-is_empty-clause-seen g t c =
    let rows = c.args.arms.now in
    let len = eqb-true rows.len 0 (sym c.is_empty.ensures ∙ c.if-is_empty.true) in
    let none = nil_from_length rows.items (sym rows.ok.0 ∙ len) in
    subst
    (λ l. IfOk c.meets.result
    (λ d. Sums d
    (λ x free h. chain (returns_in_arms (seen_arms g.P.Phase l))
    (once (touched_at x free h (seen_expression g.P.Phase c.args.e.now)))
    (cased x free (seen_arms g.P.Phase l) (deal_arms x free (seen_arms g.P.Phase l) h)))
    (returns_in_arms (seen_arms g.P.Phase l))))
    (sym none)
    (IfOk-weaker c.meets.result _ _
    (λ d all.
    sums.sums_step d c.no_step-other.result
    (λ x free h. once (touched_at x free h (seen_expression g.P.Phase c.args.e.now))) (λ x free h. nothing) 0
    c.no_step-other.ensures all)
    c.meets.ensures)

pub deals_of_case-returns-then-is_empty-clause-piles : goal.deals_of_case-returns-then-is_empty-clause-piles
deals_of_case-returns-then-is_empty-clause-piles g t c =
    let rows = c.args.arms.now in
    let len = eqb-true rows.len 0 (sym c.is_empty.ensures ∙ c.if-is_empty.true) in
    let none = nil_from_length rows.items (sym rows.ok.0 ∙ len) in
    subst
    (λ l. OnOk c.meets.result
    (Piles (scopes_of_arms (seen_arms g.P.Phase l)) c.args.pile_of.now.items c.args.pile_of.now.items))
    (sym none) (sums.on_ok_if c.meets.result (sums.piles_none c.args.pile_of.now.items))

pub deals_of_case-returns-clause-seen : goal.deals_of_case-returns-clause-seen
deals_of_case-returns-clause-seen g t c =
    let rows = c.args.arms.now in
    let all = seen_arms g.P.Phase rows.items in
    let some =
    subst (λ n. (n == 0) ≡ false) rows.ok.0 (sym c.is_empty.ensures ∙ c.if-is_empty.false) in
    IfOk-weaker c.meets-2.result _ _
    (λ d met.
    sums.sums_step d c.in_ok-behind.behind
    (λ x free h. once (touched_at x free h (seen_expression g.P.Phase c.args.e.now)))
    (λ x free h. cased x free all (deal_arms x free all h)) (returns_in_arms all)
    (sums.sums_as c.in_ok-behind.behind (λ x free h. deal_arms x free all h)
    (λ x free h. cased x free all (deal_arms x free all h)) (returns_in_arms all) c.in_ok-behind.ensures.seen
    (λ x free h. sym (sums.cased_some g.P.Phase x free rows.items (deal_arms x free all h) some)))
    met)
    c.meets-2.ensures

pub deals_of_case-returns-clause-piles : goal.deals_of_case-returns-clause-piles
deals_of_case-returns-clause-piles g t c = sums.on_ok_if c.meets-2.result c.in_ok-behind.ensures.piles

-- the statements, one by one

pub deals_of-returns-in-Skip-clause-seen : goal.deals_of-returns-in-Skip-clause-seen
deals_of-returns-in-Skip-clause-seen g t c =
    let is = ap (seen_statement g.P.Phase) c.in-Skip.is
    ∙ ap (plain_statement g.P.Phase.name_bytes) (says.skip_says g.P.Phase _) in
    subst (SumsStatement c.no_step.result) (sym is) c.no_step.ensures

pub deals_of-returns-in-Let-clause-seen : goal.deals_of-returns-in-Let-clause-seen
deals_of-returns-in-Let-clause-seen g t c =
    let is = ap (seen_statement g.P.Phase) c.in-Let.is
    ∙ ap (plain_statement g.P.Phase.name_bytes) (says.let_says g.P.Phase _ _ _ _ _) in
    sums.said_as c.expression.result _ _ is
    (subst
    (λ e. IfOk c.expression.result
    (λ d. Sums d (λ x free h. once (touched_at x free h (seen_expression g.P.Phase e))) 0))
    c.deref.ensures c.expression.ensures)

pub deals_of-returns-in-Destructure-clause-seen : goal.deals_of-returns-in-Destructure-clause-seen
deals_of-returns-in-Destructure-clause-seen g t c =
    let is = ap (seen_statement g.P.Phase) c.in-Destructure.is
    ∙ ap (plain_statement g.P.Phase.name_bytes) (says.destructure_says g.P.Phase _ _ _) in
    sums.said_as c.expression-in-Destructure.result _ _ is
    (subst
    (λ e. IfOk c.expression-in-Destructure.result
    (λ d. Sums d (λ x free h. once (touched_at x free h (seen_expression g.P.Phase e))) 0))
    c.deref-in-Destructure.ensures c.expression-in-Destructure.ensures)

pub deals_of-returns-in-Call-clause-seen : goal.deals_of-returns-in-Call-clause-seen
deals_of-returns-in-Call-clause-seen g t c =
    let is = ap (seen_statement g.P.Phase) c.in-Call.is
    ∙ ap (plain_statement g.P.Phase.name_bytes) (says.call_says g.P.Phase _ _) in
    sums.said_as c.expression-in-Call.result _ _ is
    (subst
    (λ e. IfOk c.expression-in-Call.result
    (λ d. Sums d (λ x free h. once (touched_at x free h (seen_expression g.P.Phase e))) 0))
    c.deref-in-Call.ensures c.expression-in-Call.ensures)

pub deals_of-returns-in-Assign-clause-seen : goal.deals_of-returns-in-Assign-clause-seen
deals_of-returns-in-Assign-clause-seen g t c =
    let is = ap (seen_statement g.P.Phase) c.in-Assign.is
    ∙ ap (plain_statement g.P.Phase.name_bytes) (says.assign_says g.P.Phase _ _ _ _) in
    sums.said_as c.assignment.result _ _ is
    (subst
    (λ e. IfOk c.assignment.result
    (λ d. Sums d (λ x free h. chain 0 (once (touched_at x free h (seen_expression g.P.Phase e)))
    (mention x free (seen_name g.P.Phase c.in-Assign.name).name Written h)) 0))
    c.deref-in-Assign.ensures c.assignment.ensures)

pub deals_of-returns-in-AssignThrough-clause-seen : goal.deals_of-returns-in-AssignThrough-clause-seen
deals_of-returns-in-AssignThrough-clause-seen g t c =
    let is = ap (seen_statement g.P.Phase) c.in-AssignThrough.is
    ∙ ap (plain_statement g.P.Phase.name_bytes) (says.assign_through_says g.P.Phase _ _ _ _) in
    sums.said_as c.assignment-in-AssignThrough.result _ _ is
    (subst
    (λ e. IfOk c.assignment-in-AssignThrough.result
    (λ d. Sums d (λ x free h. chain 0 (once (touched_at x free h (seen_expression g.P.Phase e)))
    (mention x free (seen_name g.P.Phase c.in-AssignThrough.name).name Quiet h)) 0))
    c.deref-in-AssignThrough.ensures c.assignment-in-AssignThrough.ensures)

pub deals_of-returns-in-Return-clause-seen : goal.deals_of-returns-in-Return-clause-seen
deals_of-returns-in-Return-clause-seen g t c =
    let is = ap (seen_statement g.P.Phase) c.in-Return.is
    ∙ ap (plain_statement g.P.Phase.name_bytes) (says.return_says g.P.Phase _ _) in
    sums.said_as c.giving.result _ _ is
    (subst
    (λ e. IfOk c.giving.result
    (λ d. Sums d (λ x free h. chain 1 (once (touched_at x free h (seen_expression g.P.Phase e))) never) 1))
    c.deref-in-Return.ensures c.giving.ensures)

pub deals_of-returns-in-If-clause-seen : goal.deals_of-returns-in-If-clause-seen
deals_of-returns-in-If-clause-seen g t c =
    let is = ap (seen_statement g.P.Phase) c.in-If.is
    ∙ ap (plain_statement g.P.Phase.name_bytes) (says.if_says g.P.Phase _ _) in
    sums.said_as c.deals_of_branches.result _ _ is
    (IfOk-weaker c.deals_of_branches.result _ _
    (λ d all.
    sums.sums_other d c.no_step-other.result (seen_branches g.P.Phase c.in-If.branches.items)
    (λ x free h. nothing) 0 c.no_step-other.ensures all)
    c.deals_of_branches.ensures.seen)

pub deals_of-returns-in_ok-other-in-IfElse-clause-seen : goal.deals_of-returns-in_ok-other-in-IfElse-clause-seen
deals_of-returns-in_ok-other-in-IfElse-clause-seen g t c =
    let is = ap (seen_statement g.P.Phase) c.in-IfElse.is
    ∙ ap (plain_statement g.P.Phase.name_bytes) (says.if_else_says g.P.Phase _ _ _) in
    let b = seen_block g.P.Phase c.in-IfElse.block in
    sums.said_as c.deals_of_branches-in-IfElse.result _ _ is
    (IfOk-weaker c.deals_of_branches-in-IfElse.result _ _
    (λ d all.
    sums.sums_other d c.in_ok-other-in-IfElse.other (seen_branches g.P.Phase c.in-IfElse.branches.items)
    (λ x free h. deal_block x free b h) (returns_in_block b) c.in_ok-other-in-IfElse.ensures.seen all)
    c.deals_of_branches-in-IfElse.ensures.seen)

pub deals_of-returns-in-Case-clause-seen : goal.deals_of-returns-in-Case-clause-seen
deals_of-returns-in-Case-clause-seen g t c =
    let is = ap (seen_statement g.P.Phase) c.in-Case.is
    ∙ ap (plain_statement g.P.Phase.name_bytes) (says.case_says g.P.Phase _ _ _) in
    sums.said_as c.deals_of_case.result _ _ is
    (subst
    (λ e. IfOk c.deals_of_case.result
    (λ d. Sums d
    (λ x free h. chain (returns_in_arms (seen_arms g.P.Phase c.in-Case.arms.items))
    (once (touched_at x free h (seen_expression g.P.Phase e)))
    (cased x free (seen_arms g.P.Phase c.in-Case.arms.items)
    (deal_arms x free (seen_arms g.P.Phase c.in-Case.arms.items) h)))
    (returns_in_arms (seen_arms g.P.Phase c.in-Case.arms.items))))
    c.deref-in-Case.ensures c.deals_of_case.ensures.seen)

pub deals_of-returns-in-While-clause-seen : goal.deals_of-returns-in-While-clause-seen
deals_of-returns-in-While-clause-seen g t c =
    let is = ap (seen_statement g.P.Phase) c.in-While.is
    ∙ ap (plain_statement g.P.Phase.name_bytes) (says.while_says g.P.Phase _ _ _) in
    let b = seen_block g.P.Phase c.in-While.block in
    sums.said_as c.deals_of_while.result _ _ is
    (subst
    (λ e. IfOk c.deals_of_while.result
    (λ d. Sums d
    (λ x free h. chain (returns_in_block b) (once (kept (touched_at x free h (seen_expression g.P.Phase e))))
    (turns (deal_block x free b h)))
    (returns_in_block b)))
    c.deref-in-While.ensures c.deals_of_while.ensures.seen)

pub deals_of-returns-in-For-clause-seen : goal.deals_of-returns-in-For-clause-seen
deals_of-returns-in-For-clause-seen g t c =
    let is = ap (seen_statement g.P.Phase) c.in-For.is
    ∙ ap (plain_statement g.P.Phase.name_bytes) (says.for_says g.P.Phase _ _ _ _ _) in
    let b = seen_block g.P.Phase c.in-For.block in
    let name = (seen_name g.P.Phase c.in-For.name).name in
    sums.said_as c.deals_of_for.result _ _ is
    (subst
    (λ e. IfOk c.deals_of_for.result
    (λ d. Sums d
    (λ x free h. chain (returns_in_block b)
    (once (touched_at x free h (seen_expression g.P.Phase c.in-For.start.value)))
    (chain (returns_in_block b) (once (touched_at x free h (seen_expression g.P.Phase e)))
    (turns (deal_block x free b (held_from x (declared name ∷ []) h)))))
    (returns_in_block b)))
    c.deref-in-For-2.ensures
    (subst
    (λ e. IfOk c.deals_of_for.result
    (λ d. Sums d
    (λ x free h. chain (returns_in_block b) (once (touched_at x free h (seen_expression g.P.Phase e)))
    (chain (returns_in_block b)
    (once (touched_at x free h (seen_expression g.P.Phase c.deref-in-For-2.result.now)))
    (turns (deal_block x free b (held_from x (declared name ∷ []) h)))))
    (returns_in_block b)))
    c.deref-in-For.ensures c.deals_of_for.ensures.seen))

pub deals_of-returns-in-Borrow-clause-seen : goal.deals_of-returns-in-Borrow-clause-seen
deals_of-returns-in-Borrow-clause-seen g t c =
    let is = ap (seen_statement g.P.Phase) c.in-Borrow.is
    ∙ ap (plain_statement g.P.Phase.name_bytes) (says.borrow_says g.P.Phase _ _ _ _ _) in
    sums.said_as c.deals_of_loan.result _ _ is c.deals_of_loan.ensures.seen

pub deals_of-returns-in-BorrowTyped-clause-seen : goal.deals_of-returns-in-BorrowTyped-clause-seen
deals_of-returns-in-BorrowTyped-clause-seen g t c =
    let is = ap (seen_statement g.P.Phase) c.in-BorrowTyped.is
    ∙ ap (plain_statement g.P.Phase.name_bytes) (says.borrow_typed_says g.P.Phase _ _ _ _ _ _ _) in
    let b = seen_block g.P.Phase c.in-BorrowTyped.block in
    sums.said_as c.deals_of_loan-in-BorrowTyped.result _ _ is
    (subst
    (λ access. IfOk c.deals_of_loan-in-BorrowTyped.result
    (λ d. Sums d
    (λ x free h. lend_named x (seen_name g.P.Phase c.in-BorrowTyped.variable).name access h
    (deal_block x free b
    (held_from x (declared (seen_name g.P.Phase c.in-BorrowTyped.reference).name
    ∷ lent access (seen_name g.P.Phase c.in-BorrowTyped.variable).name ∷ []) h)))
    (returns_in_block b)))
    c.access_of.ensures c.deals_of_loan-in-BorrowTyped.ensures.seen)

pub deals_of-returns-in-Skip-clause-piles : goal.deals_of-returns-in-Skip-clause-piles
deals_of-returns-in-Skip-clause-piles g t c =
    let is = ap (seen_statement g.P.Phase) c.in-Skip.is
    ∙ ap (plain_statement g.P.Phase.name_bytes) (says.skip_says g.P.Phase _) in
    let p = c.args.pile_of.now.items in
    subst (λ s. Piles (scopes_inside s) p p) (sym is) (sums.piles_none p)

pub deals_of-returns-in-Let-clause-piles : goal.deals_of-returns-in-Let-clause-piles
deals_of-returns-in-Let-clause-piles g t c =
    let is = ap (seen_statement g.P.Phase) c.in-Let.is
    ∙ ap (plain_statement g.P.Phase.name_bytes) (says.let_says g.P.Phase _ _ _ _ _) in
    let p = c.args.pile_of.now.items in
    sums.piled_as c.expression.result _ _ p p is (sums.on_ok_if c.expression.result (sums.piles_none p))

pub deals_of-returns-in-Destructure-clause-piles : goal.deals_of-returns-in-Destructure-clause-piles
deals_of-returns-in-Destructure-clause-piles g t c =
    let is = ap (seen_statement g.P.Phase) c.in-Destructure.is
    ∙ ap (plain_statement g.P.Phase.name_bytes) (says.destructure_says g.P.Phase _ _ _) in
    let p = c.args.pile_of.now.items in
    sums.piled_as c.expression-in-Destructure.result _ _ p p is
    (sums.on_ok_if c.expression-in-Destructure.result (sums.piles_none p))

pub deals_of-returns-in-Assign-clause-piles : goal.deals_of-returns-in-Assign-clause-piles
deals_of-returns-in-Assign-clause-piles g t c =
    let is = ap (seen_statement g.P.Phase) c.in-Assign.is
    ∙ ap (plain_statement g.P.Phase.name_bytes) (says.assign_says g.P.Phase _ _ _ _) in
    let p = c.args.pile_of.now.items in
    sums.piled_as c.assignment.result _ _ p p is (sums.on_ok_if c.assignment.result (sums.piles_none p))

pub deals_of-returns-in-AssignThrough-clause-piles : goal.deals_of-returns-in-AssignThrough-clause-piles
deals_of-returns-in-AssignThrough-clause-piles g t c =
    let is = ap (seen_statement g.P.Phase) c.in-AssignThrough.is
    ∙ ap (plain_statement g.P.Phase.name_bytes) (says.assign_through_says g.P.Phase _ _ _ _) in
    let p = c.args.pile_of.now.items in
    sums.piled_as c.assignment-in-AssignThrough.result _ _ p p is
    (sums.on_ok_if c.assignment-in-AssignThrough.result (sums.piles_none p))

pub deals_of-returns-in-Call-clause-piles : goal.deals_of-returns-in-Call-clause-piles
deals_of-returns-in-Call-clause-piles g t c =
    let is = ap (seen_statement g.P.Phase) c.in-Call.is
    ∙ ap (plain_statement g.P.Phase.name_bytes) (says.call_says g.P.Phase _ _) in
    let p = c.args.pile_of.now.items in
    sums.piled_as c.expression-in-Call.result _ _ p p is (sums.on_ok_if c.expression-in-Call.result (sums.piles_none p))

pub deals_of-returns-in-Return-clause-piles : goal.deals_of-returns-in-Return-clause-piles
deals_of-returns-in-Return-clause-piles g t c =
    let is = ap (seen_statement g.P.Phase) c.in-Return.is
    ∙ ap (plain_statement g.P.Phase.name_bytes) (says.return_says g.P.Phase _ _) in
    let p = c.args.pile_of.now.items in
    sums.piled_as c.giving.result _ _ p p is (sums.on_ok_if c.giving.result (sums.piles_none p))

pub deals_of-returns-in-If-clause-piles : goal.deals_of-returns-in-If-clause-piles
deals_of-returns-in-If-clause-piles g t c =
    let is = ap (seen_statement g.P.Phase) c.in-If.is
    ∙ ap (plain_statement g.P.Phase.name_bytes) (says.if_says g.P.Phase _ _) in
    sums.piled_as c.deals_of_branches.result _ _ c.args.pile_of.now.items c.deals_of_branches.new.pile_of.items is
    c.deals_of_branches.ensures.piles

pub deals_of-returns-in_ok-other-in-IfElse-clause-piles : goal.deals_of-returns-in_ok-other-in-IfElse-clause-piles
deals_of-returns-in_ok-other-in-IfElse-clause-piles g t c =
    let is = ap (seen_statement g.P.Phase) c.in-IfElse.is
    ∙ ap (plain_statement g.P.Phase.name_bytes) (says.if_else_says g.P.Phase _ _ _) in
    sums.piled_as c.deals_of_branches-in-IfElse.result _ _ c.args.pile_of.now.items
    c.deals_of_branches-in-IfElse.new.pile_of.items is
    (on_ok_weaker c.deals_of_branches-in-IfElse.result
    (sums.piles_then (scopes_of_branches (seen_branches g.P.Phase c.in-IfElse.branches.items))
    (scopes (seen_block g.P.Phase c.in-IfElse.block)) c.args.pile_of.now.items c.deals_of_block.new.pile_of.items
    c.deals_of_branches-in-IfElse.new.pile_of.items c.in_ok-other-in-IfElse.ensures.piles)
    c.deals_of_branches-in-IfElse.ensures.piles)

pub deals_of-returns-in-Case-clause-piles : goal.deals_of-returns-in-Case-clause-piles
deals_of-returns-in-Case-clause-piles g t c =
    let is = ap (seen_statement g.P.Phase) c.in-Case.is
    ∙ ap (plain_statement g.P.Phase.name_bytes) (says.case_says g.P.Phase _ _ _) in
    sums.piled_as c.deals_of_case.result _ _ c.args.pile_of.now.items c.deals_of_case.new.pile_of.items is
    c.deals_of_case.ensures.piles

pub deals_of-returns-in-While-clause-piles : goal.deals_of-returns-in-While-clause-piles
deals_of-returns-in-While-clause-piles g t c =
    let is = ap (seen_statement g.P.Phase) c.in-While.is
    ∙ ap (plain_statement g.P.Phase.name_bytes) (says.while_says g.P.Phase _ _ _) in
    sums.piled_as c.deals_of_while.result _ _ c.args.pile_of.now.items c.deals_of_while.new.pile_of.items is
    c.deals_of_while.ensures.piles

pub deals_of-returns-in-For-clause-piles : goal.deals_of-returns-in-For-clause-piles
deals_of-returns-in-For-clause-piles g t c =
    let is = ap (seen_statement g.P.Phase) c.in-For.is
    ∙ ap (plain_statement g.P.Phase.name_bytes) (says.for_says g.P.Phase _ _ _ _ _) in
    sums.piled_as c.deals_of_for.result _ _ c.args.pile_of.now.items c.deals_of_for.new.pile_of.items is
    c.deals_of_for.ensures.piles

pub deals_of-returns-in-Borrow-clause-piles : goal.deals_of-returns-in-Borrow-clause-piles
deals_of-returns-in-Borrow-clause-piles g t c =
    let is = ap (seen_statement g.P.Phase) c.in-Borrow.is
    ∙ ap (plain_statement g.P.Phase.name_bytes) (says.borrow_says g.P.Phase _ _ _ _ _) in
    sums.piled_as c.deals_of_loan.result _ _ c.args.pile_of.now.items c.deals_of_loan.new.pile_of.items is
    c.deals_of_loan.ensures.piles

pub deals_of-returns-in-BorrowTyped-clause-piles : goal.deals_of-returns-in-BorrowTyped-clause-piles
deals_of-returns-in-BorrowTyped-clause-piles g t c =
    let is = ap (seen_statement g.P.Phase) c.in-BorrowTyped.is
    ∙ ap (plain_statement g.P.Phase.name_bytes) (says.borrow_typed_says g.P.Phase _ _ _ _ _ _ _) in
    sums.piled_as c.deals_of_loan-in-BorrowTyped.result _ _ c.args.pile_of.now.items
    c.deals_of_loan-in-BorrowTyped.new.pile_of.items is
    c.deals_of_loan-in-BorrowTyped.ensures.piles
