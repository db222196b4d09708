-- Whatever is found of a statement or a block is good.
use Rattle.std.proofs.Common.{◌≡◌, Bool, true, false, List, [], ◌∷◌, refl, sym, ap, subst, ◌∙◌}
use Rattle.std.specs.Prelude.{Some, Ok}
use Rattle.au_syntax.specs.Plain.{PlainArms, PlainBranches, PlainStatement, PlainStatements}
use Rattle.au_syntax.specs.Statements.{skip, declare, destructure, assign, assign_through, conditional}
use Rattle.au_syntax.specs.Statements.{conditional_else, case_of, while_loop, for_loop, borrow_in}
use Rattle.au_syntax.specs.Statements.{borrow_typed, discard, return_of, no_statements, statements}
use Rattle.au_syntax.specs.Statements.{no_branches, branches, no_arms, arms}
use Rattle.au_typing.specs.Scopes.{Scope}
use Rattle.au_types.specs.Types as mean
use Rattle.au_types.specs.Types.{Meaning}
use Rattle.au_typing.specs.Faults.{◌>>=◌}
use Rattle.au_typing.specs.Notes.{NotedExpression, erase, type_of}
use Rattle.au_typing.specs.Search.{note}
use Rattle.au_typing.proofs.Steps.{bind_ok, ok_same}
use Rattle.au_typing.specs.DerivationFaults.{◌then◌, placed}
use Rattle.au_typing.specs.InScope.{after, fixed_variable, with_bound, with_reference, with_variable}
use Rattle.au_typing.specs.Parts.{borrow_type, heads_of, mode_for}
use Rattle.au_typing.specs.Returns.{may_follow, returns}
use Rattle.au_typing.specs.DerivationSearch.{judge_borrow, judge_lent, judge_next, note_arms, note_assigned}
use Rattle.au_typing.specs.DerivationSearch.{note_block, note_bounds, note_branches, note_case, note_declared}
use Rattle.au_typing.specs.DerivationSearch.{note_discarded, note_put, note_statement, note_taken, note_test}
use Rattle.au_typing.specs.DerivationSearch.{note_tests}
use Rattle.au_typing.specs.Statements.{GoodArmBlocks, GoodBlock, GoodBranches, GoodCase, GoodStatement, Wants}
use Rattle.au_typing.specs.Trees.{NotedArms, NotedBranches, NotedStatement, NotedStatements, erase_arms}
use Rattle.au_typing.specs.Trees.{erase_block, erase_branches, erase_statement}
use Rattle.au_typing.proofs.FoundLemmas.{after_erased, heads_erased, returns_erased}
use Rattle.au_typing.proofs.SoundPartLemmas.{assigned_sound, borrow_sound, bounds_sound, case_sound}
use Rattle.au_typing.proofs.SoundPartLemmas.{declared_sound, discarded_sound, lent_sound, put_sound}
use Rattle.au_typing.proofs.SoundPartLemmas.{taken_sound, wants_sound}
use Rattle.au_typing.proofs.StepLemmas.{judged_is, placed_gave, then_gave}

-- a statement with these notes is good and without them this one, and the same of blocks and of arms
abbrev pub IsStatement : PlainStatement → Scope → NotedStatement → Type 0
IsStatement s sc t = GoodStatement t sc × (erase_statement t ≡ s)

abbrev pub IsBlock : PlainStatements → Scope → NotedStatements → Type 0
IsBlock s sc t = GoodBlock t sc × (erase_block t ≡ s)

abbrev pub AreBranches : PlainBranches → Scope → NotedBranches → Type 0
AreBranches s sc t = GoodBranches t sc × (erase_branches t ≡ s)

abbrev pub AreArms : PlainArms → Scope → NotedArms → Type 0
AreArms s sc t = GoodArmBlocks t sc × (erase_arms t ≡ s)

-- ---- what may follow

follows : (has_returned : Bool) (rest : NotedStatements) (z : Unit {0})
    → judge_next has_returned (erase_block rest) ≡ Ok z → may_follow has_returned rest ≡ true
follows has_returned no_statements z e = refl
follows true (statements s rest) z e = absurd cc
follows false (statements s rest) z e = refl

may_follow_found : (s : PlainStatement) (t : NotedStatement) (rest : PlainStatements) (all : NotedStatements)
    (z : Unit {0}) → erase_statement t ≡ s → erase_block all ≡ rest → judge_next (returns s) rest ≡ Ok z
    → may_follow (returns t) all ≡ true
may_follow_found s t rest all z is are e =
    follows (returns t) all z
    (subst (λ b. judge_next b (erase_block all) ≡ Ok z) (ap returns (sym is) ∙ returns_erased t)
    (subst (λ r. judge_next (returns s) r ≡ Ok z) (sym are) e))

-- ---- statements and blocks

-- the noted tests of a conditional want Bool and erase to its tests
abbrev pub AreTests : PlainBranches → Scope → List NotedExpression → Type 0
AreTests no_branches sc noted = noted ≡ []
AreTests (branches e block rest) sc [] = ⊥
AreTests (branches e block rest) sc (a ∷ noted) =
    Wants sc a (Some mean.truth) × (erase a ≡ e) × AreTests rest sc noted

tests_sound : (all : PlainBranches) (sc : Scope) (noted : List NotedExpression) → note_tests sc all ≡ Ok noted
    → AreTests all sc noted
tests_sound no_branches sc noted h = sym (ok_same [] noted h)
tests_sound (branches e block rest) sc noted h =
    let first = bind_ok (note_test sc e) (λ a. note_tests sc rest >>= λ tests. Ok (a ∷ tests)) noted h in
    let others = bind_ok (note_tests sc rest) (λ tests. Ok (first.0 ∷ tests)) noted first.2 in
    let is : (first.0 ∷ others.0) ≡ noted = ok_same (first.0 ∷ others.0) noted others.2 in
    let wants = wants_sound sc e (Some mean.truth) first.0 first.1 in
    subst (AreTests (branches e block rest) sc) is
    (wants.0, wants.1, tests_sound rest sc others.0 others.1)

mutual
  pub statement_sound : (s : PlainStatement) (sc : Scope) (t : NotedStatement) → note_statement s sc ≡ Ok t
      → IsStatement s sc t
  statement_sound (skip at) sc t h = subst (IsStatement (skip at) sc) (judged_is (skip at) t h) (tt, refl)
  statement_sound (declare at binding name of e) sc t h =
      let step = then_gave (placed at (note_declared sc of e)) (λ a. Ok (declare at binding name of a)) t h in
      let good = declared_sound sc of e step.0
      (placed_gave at (note_declared sc of e) step.0 step.1) in
      subst (IsStatement (declare at binding name of e) sc) (judged_is
      (declare at binding name of step.0) t step.2)
      (good.0, ap (declare at binding name of) good.1)
  statement_sound (destructure at binds e) sc t h =
      let step = then_gave (placed at (note_taken sc binds e)) (λ a. Ok (destructure at binds a)) t h in
      let good = taken_sound sc binds e step.0 (placed_gave at (note_taken sc binds e) step.0 step.1) in
      subst (IsStatement (destructure at binds e) sc) (judged_is (destructure at binds step.0) t step.2)
      (good.0, ap (destructure at binds) good.1)
  statement_sound (assign at x path e) sc t h =
      let step = then_gave (placed at (note_assigned sc x.name path e)) (λ a. Ok (assign at x path a)) t h in
      let good = assigned_sound sc x.name path e step.0
      (placed_gave at (note_assigned sc x.name path e) step.0 step.1) in
      subst (IsStatement (assign at x path e) sc) (judged_is (assign at x path step.0) t step.2)
      (good.0, ap (assign at x path) good.1)
  statement_sound (assign_through at r path e) sc t h =
      let step = then_gave (placed at (note_put sc r.name path e)) (λ a. Ok
      (assign_through at r path a)) t h in
      let good = put_sound sc r.name path e step.0
      (placed_gave at (note_put sc r.name path e) step.0 step.1) in
      subst (IsStatement (assign_through at r path e) sc) (judged_is
      (assign_through at r path step.0) t step.2)
      (good.0, ap (assign_through at r path) good.1)
  statement_sound (conditional at tests) sc t h =
      let first = then_gave (placed at (note_tests sc tests))
      (λ noted. note_branches tests noted sc then λ all. Ok (conditional at all)) t h in
      let second = then_gave (note_branches tests first.0 sc) (λ all. Ok (conditional at all)) t first.2 in
      let good = branches_sound tests first.0 sc second.0
      (tests_sound tests sc first.0 (placed_gave at (note_tests sc tests) first.0 first.1)) second.1 in
      subst (IsStatement (conditional at tests) sc) (judged_is (conditional at second.0) t second.2)
      (good.0, ap (conditional at) good.1)
  statement_sound (conditional_else at tests block) sc t h =
      let first = then_gave (placed at (note_tests sc tests))
      (λ noted. note_branches tests noted sc
      then λ all. note_block block sc then λ b. Ok (conditional_else at all b)) t h in
      let second = then_gave (note_branches tests first.0 sc)
      (λ all. note_block block sc then λ b. Ok (conditional_else at all b)) t first.2 in
      let third = then_gave (note_block block sc) (λ b. Ok (conditional_else at second.0 b)) t second.2 in
      let good = branches_sound tests first.0 sc second.0
      (tests_sound tests sc first.0 (placed_gave at (note_tests sc tests) first.0 first.1)) second.1 in
      let other = block_sound block sc third.0 third.1 in
      subst (IsStatement (conditional_else at tests block) sc)
      (judged_is (conditional_else at second.0 third.0) t third.2)
      ((good.0, other.0), λ i. conditional_else at (good.1 i) (other.1 i))
  statement_sound (case_of at e all) sc t h =
      let first = then_gave (placed at (note_case sc e (heads_of all)))
      (λ a. note_arms all sc then λ noted. Ok (case_of at a noted)) t h in
      let second = then_gave (note_arms all sc) (λ noted. Ok (case_of at first.0 noted)) t first.2 in
      let good = case_sound sc (heads_of all) e first.0
      (placed_gave at (note_case sc e (heads_of all)) first.0 first.1) in
      let blocks = arms_sound all sc second.0 second.1 in
      let heads : heads_of all ≡ heads_of second.0 = ap heads_of (sym blocks.1) ∙ heads_erased second.0 in
      subst (IsStatement (case_of at e all) sc) (judged_is (case_of at first.0 second.0) t second.2)
      ((subst (GoodCase sc first.0) heads good.0, blocks.0), λ i. case_of at (good.1 i) (blocks.1 i))
  statement_sound (while_loop at e block) sc t h =
      let first = then_gave (placed at (note_test sc e))
      (λ a. note_block block sc then λ b. Ok (while_loop at a b)) t h in
      let second = then_gave (note_block block sc) (λ b. Ok (while_loop at first.0 b)) t first.2 in
      let test = wants_sound sc e (Some mean.truth) first.0
      (placed_gave at (note_test sc e) first.0 first.1) in
      let good = block_sound block sc second.0 second.1 in
      subst (IsStatement (while_loop at e block) sc) (judged_is (while_loop at first.0 second.0) t second.2)
      ((test.0, good.0), λ i. while_loop at (test.1 i) (good.1 i))
  statement_sound (for_loop at name start last block) sc t h =
      let first = then_gave (placed at (note_bounds sc start last))
      (λ y. note_block block (with_variable (fixed_variable name.name (type_of y.0)) sc)
      then λ b. Ok (for_loop at name y.0 y.1 b)) t h in
      let y : NotedExpression × NotedExpression = first.0 in
      let inner : Scope = with_variable (fixed_variable name.name (type_of y.0)) sc in
      let second = then_gave (note_block block inner) (λ b. Ok (for_loop at name y.0 y.1 b)) t first.2 in
      let bounds = bounds_sound sc start last y
      (placed_gave at (note_bounds sc start last) y first.1) in
      let good = block_sound block inner second.0 second.1 in
      subst (IsStatement (for_loop at name start last block) sc)
      (judged_is (for_loop at name y.0 y.1 second.0) t second.2)
      ((bounds.0, good.0), λ i. for_loop at name (bounds.1 i) (bounds.2 i) (good.1 i))
  statement_sound (borrow_in at kind x r region block stop) sc t h =
      let first = then_gave (placed at (judge_lent sc (mode_for kind) x.name))
      (λ of. note_block block
      (with_reference r.name region.name (borrow_type (mode_for kind) region.name of) sc)
      then λ b. Ok (borrow_in at kind x r region b stop)) t h in
      let inner : Scope =
      with_reference r.name region.name (borrow_type (mode_for kind) region.name first.0) sc in
      let second = then_gave (note_block block inner) (λ b. Ok
      (borrow_in at kind x r region b stop)) t first.2 in
      let lent = lent_sound sc (mode_for kind) x.name first.0
      (placed_gave at (judge_lent sc (mode_for kind) x.name) first.0 first.1) in
      let good = block_sound block inner second.0 second.1 in
      subst (IsStatement (borrow_in at kind x r region block stop) sc)
      (judged_is (borrow_in at kind x r region second.0 stop) t second.2)
      ((first.0, lent, good.0), ap (λ b. borrow_in at kind x r region b stop) good.1)
  statement_sound (borrow_typed at r of mode x block stop) sc t h =
      let first = then_gave (placed at (judge_borrow sc of mode x.name))
      (λ y. note_block block (with_reference r.name y.0 y.1 sc)
      then λ b. Ok (borrow_typed at r of mode x b stop)) t h in
      let inner : Scope = with_reference r.name (first.0).0 (first.0).1 sc in
      let second = then_gave (note_block block inner) (λ b. Ok
      (borrow_typed at r of mode x b stop)) t first.2 in
      let borrow = borrow_sound sc of mode x.name first.0
      (placed_gave at (judge_borrow sc of mode x.name) first.0 first.1) in
      let good = block_sound block inner second.0 second.1 in
      subst (IsStatement (borrow_typed at r of mode x block stop) sc)
      (judged_is (borrow_typed at r of mode x second.0 stop) t second.2)
      (((first.0).0, (first.0).1, borrow, good.0), ap (λ b. borrow_typed at r of mode x b stop) good.1)
  statement_sound (discard at e) sc t h =
      let step = then_gave (placed at (note_discarded sc e)) (λ a. Ok (discard at a)) t h in
      let good = discarded_sound sc e step.0 (placed_gave at (note_discarded sc e) step.0 step.1) in
      subst (IsStatement (discard at e) sc) (judged_is (discard at step.0) t step.2)
      ((good.0, good.1), ap (discard at) good.2)
  statement_sound (return_of at e) sc t h =
      let step = then_gave (placed at (note sc e (Some sc.result))) (λ a. Ok (return_of at a)) t h in
      let good = wants_sound sc e (Some sc.result) step.0
      (placed_gave at (note sc e (Some sc.result)) step.0 step.1) in
      subst (IsStatement (return_of at e) sc) (judged_is (return_of at step.0) t step.2)
      (good.0, ap (return_of at) good.1)

  pub block_sound : (ss : PlainStatements) (sc : Scope) (t : NotedStatements) → note_block ss sc ≡ Ok t
      → IsBlock ss sc t
  block_sound no_statements sc t h = subst (IsBlock no_statements sc) (judged_is no_statements t h) (tt, refl)
  block_sound (statements s rest) sc t h =
      let first = then_gave (note_statement s sc)
      (λ a. judge_next (returns s) rest
      then λ may. note_block rest (after s sc) then λ all. Ok (statements a all)) t h in
      let next = then_gave (judge_next (returns s) rest)
      (λ may. note_block rest (after s sc) then λ all. Ok (statements first.0 all)) t first.2 in
      let others = then_gave (note_block rest (after s sc)) (λ all. Ok (statements first.0 all)) t next.2 in
      let good = statement_sound s sc first.0 first.1 in
      let goods = block_sound rest (after s sc) others.0 others.1 in
      let scope : after s sc ≡ after first.0 sc =
      ap (λ r. after r sc) (sym good.1) ∙ after_erased first.0 sc in
      let may = may_follow_found s first.0 rest others.0 next.0 good.1 goods.1 next.1 in
      subst (IsBlock (statements s rest) sc) (judged_is (statements first.0 others.0) t others.2)
      ((good.0, may, subst (GoodBlock others.0) scope goods.0), λ i. statements (good.1 i) (goods.1 i))

  branches_sound : (all : PlainBranches) (noted : List NotedExpression) (sc : Scope) (t : NotedBranches)
      → AreTests all sc noted → note_branches all noted sc ≡ Ok t → AreBranches all sc t
  branches_sound no_branches noted sc t tests h =
      subst (AreBranches no_branches sc) (judged_is no_branches t h) (tt, refl)
  branches_sound (branches e block rest) [] sc t tests h = absurd tests
  branches_sound (branches e block rest) (a ∷ noted) sc t tests h =
      let first = then_gave (note_block block sc)
      (λ b. note_branches rest noted sc then λ all. Ok (branches a b all)) t h in
      let second = then_gave (note_branches rest noted sc) (λ all. Ok (branches a first.0 all)) t first.2 in
      let good = block_sound block sc first.0 first.1 in
      let goods = branches_sound rest noted sc second.0 tests.2 second.1 in
      subst (AreBranches (branches e block rest) sc) (judged_is (branches a first.0 second.0) t second.2)
      ((tests.0, good.0, goods.0), λ i. branches (tests.1 i) (good.1 i) (goods.1 i))

  arms_sound : (all : PlainArms) (sc : Scope) (t : NotedArms) → note_arms all sc ≡ Ok t → AreArms all sc t
  arms_sound no_arms sc t h = subst (AreArms no_arms sc) (judged_is no_arms t h) (tt, refl)
  arms_sound (arms at n binds block rest) sc t h =
      let first = then_gave (note_block block (with_bound binds sc))
      (λ b. note_arms rest sc then λ all. Ok (arms at n binds b all)) t h in
      let second = then_gave (note_arms rest sc) (λ all. Ok (arms at n binds first.0 all)) t first.2 in
      let good = block_sound block (with_bound binds sc) first.0 first.1 in
      let goods = arms_sound rest sc second.0 second.1 in
      subst (AreArms (arms at n binds block rest) sc) (judged_is
      (arms at n binds first.0 second.0) t second.2)
      ((good.0, goods.0), λ i. arms at n binds (good.1 i) (goods.1 i))
