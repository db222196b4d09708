-- Steps of the loops over the tests of a conditional and the arms of a case, whose jumps are filled later.
use Rattle.std.proofs.Common.{◌≡◌, ℕ, ◌+◌, ◌<◌, ◌≤◌, Bool, true, false, ◌||◌, not, nat_lt, List, [], ◌∷◌}
use Rattle.std.proofs.Common.{◌++◌, drop, get_or, length, map, set, Option, Some, None, unwrap_or, refl, sym}
use Rattle.std.proofs.Common.{ap, subst, ◌∙◌, arith}
use Rattle.std.proofs.lemmas.Bool.{lt-ltb}
use Rattle.std.proofs.lemmas.List.{append-nil, append_assoc, at_drop_all, at_drop_more, length-drop}
use Rattle.au_closed_trees.specs.contracts.phase.ClosedTreesPhase.TheImpl.{ghosts as closed}
use Rattle.au_closed_trees.specs.ClosedNotes.{ClosedNote}
use Rattle.au_closed_meanings.specs.Surroundings.{Surroundings, view_in}
use Rattle.au_typing.specs.Returns.{block_returns}
use Rattle.au_lowered.specs.Drafts.{Draft, Written, count_unless, does, nothing, plain}
use Rattle.au_low.specs.declared.instructions.Instr.TheVariants.{Case}
use Rattle.au_lowered.specs.Statements.{arms_of, cases, count_of_cases, is_last, labels_of, tests_of}
use Rattle.au_lowering_expressions.specs.Wrote.{wrote}
use Rattle.au_lowering_expressions.proofs.WroteLemmas.{wrote_nothing}
use Rattle.au_lowering_statements.specs.Ends.{AllBelow, Holed, arm_block, arms_upto, has_tests, with_jumps}
use Rattle.au_lowering_statements.proofs.ArmLemmas.{arm_next, cases_written}
use Rattle.au_lowering_statements.proofs.ArmLemmas as ended
use Rattle.au_lowering_statements.proofs.BlockLemmas.{arms_left, one_arm, tests_left}
use Rattle.au_lowering_statements.proofs.CodeLemmas.{ClosedArm, ClosedBranch}
use Rattle.au_lowering_statements.proofs.JumpLemmas.{holed_nothing, jumps_length}
use Rattle.au_lowering_statements.proofs.TestLemmas.{ended_written}
use Rattle.au_lowering_statements.proofs.TestLemmas as tested
use Rattle.au_lowering_statements.specs.Pieces.{arm_to}
use Rattle.au_meaning.specs.Names.{Scope}
use Rattle.au_meaning.specs.Statements.{tag_told}
use Rattle.au_syntax.specs.Views.{arm_all, block, bound, branch_all, placed}

-- ---- how many are left

some_tests : (xs : List ClosedBranch) → nat_lt 0 (length xs) ≡ has_tests (branch_all closed xs)
some_tests [] = refl
some_tests (x ∷ rest) = lt-ltb 0 (length (x ∷ rest)) (omega arith)

no_arms_left : (xs : List ClosedArm) → not (nat_lt 0 (length xs)) ≡ is_last (arm_all closed xs)
no_arms_left [] = refl
no_arms_left (x ∷ rest) = ap not (lt-ltb 0 (length (x ∷ rest)) (omega arith))

left_is : {A : Type 0} (xs : List A) (left i : ℕ) → left + (i + 1) ≡ length xs
    → left ≡ length (drop (i + 1) xs)
left_is xs left i all = omega (arith, all, length-drop (i + 1) xs)

pub tests_follow : (more followed : Bool) (left : ℕ) (xs : List ClosedBranch) (i : ℕ)
    → followed ≡ (more || nat_lt 0 left) → left + (i + 1) ≡ length xs
    → followed ≡ (more || has_tests (branch_all closed (drop (i + 1) xs)))
tests_follow more followed left xs i is all =
    is ∙ ap (λ n. more || nat_lt 0 n) (left_is xs left i all)
    ∙ ap (λ b. more || b) (some_tests (drop (i + 1) xs))

pub arm_is_last : (last : Bool) (left : ℕ) (xs : List ClosedArm) (i : ℕ)
    → last ≡ not (nat_lt 0 left) → left + (i + 1) ≡ length xs
    → last ≡ is_last (arm_all closed (drop (i + 1) xs))
arm_is_last last left xs i is all =
    is ∙ ap (λ n. not (nat_lt 0 n)) (left_is xs left i all) ∙ no_arms_left (drop (i + 1) xs)

-- ---- where none is left

module _ (round : Surroundings) (around slot : ℕ) (scope : Scope) where
  pub tests_end : (more : Bool) (xs : List ClosedBranch) (i : ℕ) (jumps : List ℕ) (d : List Draft)
      → length xs ≤ i → Holed (tests_left round around slot scope more (drop i xs)) jumps d jumps d
  tests_end more xs i jumps d ends =
      subst (λ (all : List ClosedBranch). Holed (tests_left round around slot scope more all) jumps d jumps d)
      (sym (at_drop_all (λ (all : List ClosedBranch). all) xs i ends)) (holed_nothing jumps d)

  pub arms_end : (note : ClosedNote) (xs : List ClosedArm) (i : ℕ) (jumps : List ℕ) (d : List Draft)
      → length xs ≤ i → Holed (arms_left round around slot scope note (drop i xs)) jumps d jumps d
  arms_end note xs i jumps d ends =
      subst (λ (all : List ClosedArm). Holed (arms_left round around slot scope note all) jumps d jumps d)
      (sym (at_drop_all (λ (all : List ClosedArm). all) xs i ends)) (holed_nothing jumps d)

  -- ---- where the arms begin

  abbrev pub begins_at : ClosedNote → List ClosedArm → ℕ → List (Option ℕ × ℕ)
  begins_at note xs p = (arms_upto (view_in round) around slot scope 0 note (arm_all closed xs) p).starts

  pub begins_end : (note : ClosedNote) (xs : List ClosedArm) (i p : ℕ) (starts whole : List (Option ℕ × ℕ))
      → length xs ≤ i → starts ++ begins_at note (drop i xs) p ≡ whole → starts ≡ whole
  begins_end note xs i p starts whole ends so_far =
      sym (append-nil starts)
      ∙ sym (at_drop_all (λ (all : List ClosedArm). starts ++ begins_at note all p) xs i ends) ∙ so_far

  -- behind an arm the next one begins
  arm_ends_at : (u : Bool) (a : Written) (j0 j1 : List ℕ) (d0 d1 : List Draft)
      → AllBelow j0 (length d0) → Holed (arm_to u a) j0 d0 j1 d1
      → length d1 ≡ length d0 + length (a (length d0)) + count_unless u
  arm_ends_at u a j0 j1 d0 d1 below holed =
      let size : length (with_jumps 0 j0 d0) ≡ length d0 = jumps_length 0 j0 d0 in
      sym (jumps_length 0 j1 d1) ∙ ap length (holed.filled below 0)
      ∙ arm_next 0 u a (with_jumps 0 j0 d0)
      ∙ ap (λ n. n + length (a n) + count_unless u) size

  pub begins_step : (note : ClosedNote) (last : Bool) (xs : List ClosedArm) (i : ℕ) (x : ClosedArm)
      (j0 j1 : List ℕ) (d0 d1 : List Draft) (starts more whole : List (Option ℕ × ℕ))
      → i < length xs → x ≡ get_or xs i x
      → last ≡ is_last (arm_all closed (drop (i + 1) xs))
      → AllBelow j0 (length d0)
      → Holed (one_arm round around slot scope note last x) j0 d0 j1 d1
      → more ≡ starts ++ (tag_told (view_in round) note (placed closed x.case).name, length d0) ∷ []
      → starts ++ begins_at note (drop i xs) (length d0) ≡ whole
      → more ++ begins_at note (drop (i + 1) xs) (length d1) ≡ whole
  begins_step note last xs i x j0 j1 d0 d1 starts more whole inside is flag below holed grows so_far =
      let p = length d0 in
      let first : Option ℕ × ℕ = (tag_told (view_in round) note (placed closed x.case).name, p) in
      let body = arm_block (view_in round) around slot scope note (placed closed x.case).name
      (map (bound closed) x.binds.items) (block closed x.block) in
      let returns = block_returns (block closed x.block) in
      let rest = begins_at note (drop (i + 1) xs) in
      let long : length d1
      ≡ p + length (body p) + count_unless (returns || is_last (arm_all closed (drop (i + 1) xs))) =
      arm_ends_at (returns || last) body j0 j1 d0 d1 below holed
      ∙ ap (λ l. p + length (body p) + count_unless (returns || l)) flag in
      ap (λ s. s ++ rest (length d1)) grows
      ∙ append_assoc starts (first ∷ []) (rest (length d1))
      ∙ ap (λ n. starts ++ (first ∷ rest n)) long
      ∙ ap (λ (y : ClosedArm). starts ++ begins_at note (y ∷ drop (i + 1) xs) p) is
      ∙ sym (at_drop_more (λ (all : List ClosedArm). starts ++ begins_at note all p) xs i x inside)
      ∙ so_far

  -- a case is its arms, where each begins, and its end
  pub case_is : (note : ClosedNote) (xs : List ClosedArm) (all : List ℕ) (starts : List (Option ℕ × ℕ))
      (d d1 d2 d3 : List Draft) (at : ℕ) → at ≡ length d → d1 ≡ wrote (does (Case slot [])) d
      → Holed (arms_left round around slot scope note xs) [] d1 all d2
      → starts ≡ begins_at note xs (length d1)
      → d3 ≡ set (with_jumps (length d2) all d2) at
      (plain (Case slot (labels_of (count_of_cases starts) starts)))
      → d3 ≡ wrote (cases slot (arms_of (view_in round) around slot scope note (arm_all closed xs))) d
  case_is note xs all starts d d1 d2 d3 at here first holed begins filled =
      cases_written slot (λ m. arms_upto (view_in round) around slot scope m note (arm_all closed xs))
      (arms_of (view_in round) around slot scope note (arm_all closed xs)) all starts d d1 d2 d3 at
      (ended.arms_end (view_in round) around slot scope note (arm_all closed xs)) here first holed begins
      filled

-- ---- the end of a conditional

-- the tests are written, and then the block where none is true
pub last_is : (round : Surroundings) (around slot : ℕ) (scope : Scope) (xs : List ClosedBranch)
    (last : Written) (all : List ℕ) (d d1 d2 d3 : List Draft)
    → Holed (tests_left round around slot scope true xs) [] d all d1 → d2 ≡ wrote last d1
    → d3 ≡ with_jumps (length d2) all d2
    → d3 ≡ wrote (unwrap_or (tests_of (view_in round) around slot scope (branch_all closed xs) (Some last))
    nothing) d
last_is round around slot scope xs last all d d1 d2 d3 holed more filled =
    ended_written (tests_left round around slot scope true xs) last
    (unwrap_or (tests_of (view_in round) around slot scope (branch_all closed xs) (Some last)) nothing)
    all d d1 d2 d3 (tested.tests_end (view_in round) around slot scope (branch_all closed xs) (Some last))
    holed more filled

pub none_is : (round : Surroundings) (around slot : ℕ) (scope : Scope) (xs : List ClosedBranch)
    (all : List ℕ) (d d1 d2 : List Draft)
    → Holed (tests_left round around slot scope false xs) [] d all d1
    → d2 ≡ with_jumps (length d1) all d1
    → d2 ≡ wrote (unwrap_or (tests_of (view_in round) around slot scope (branch_all closed xs) None)
    nothing) d
none_is round around slot scope xs all d d1 d2 holed filled =
    ended_written (tests_left round around slot scope false xs) nothing
    (unwrap_or (tests_of (view_in round) around slot scope (branch_all closed xs) None) nothing)
    all d d1 d1 d2 (tested.tests_end (view_in round) around slot scope (branch_all closed xs) None)
    holed (sym (wrote_nothing d1)) filled
