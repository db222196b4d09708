-- Blocks that stay open among marks.
use Rattle.std.proofs.Common.{◌≡◌, ℕ, zero, suc, ◌+◌, ◌≤◌, Bool, List, [], ◌∷◌, ◌++◌, map, sym, ap, subst}
use Rattle.std.proofs.Common.{◌∙◌, arith}
use Rattle.std.proofs.Common.{append_assoc, append-nil}
use Rattle.au_base.specs.declared.places.Pos.{Pos}
use Rattle.au_syntax.specs.Plain.{Bytes, PlainArms, PlainBranches, PlainStatement, PlainStatements}
use Rattle.au_syntax.specs.Statements.{skip, declare, destructure, assign, assign_through, conditional}
use Rattle.au_syntax.specs.Statements.{conditional_else, case_of, while_loop, for_loop, borrow_in}
use Rattle.au_syntax.specs.Statements.{borrow_typed, discard, return_of, no_statements, statements}
use Rattle.au_syntax.specs.Statements.{no_branches, branches, no_arms, arms}
use Rattle.au_syntax.specs.Types.{Bound, WrittenType, named, reference}
use Rattle.au_rules.specs.declared.marks.Kind.{Kind}
use Rattle.au_rules.specs.declared.marks.Kind.TheVariants.{Types, Values}
use Rattle.au_rules.specs.declared.marks.Mark.{Mark}
use Rattle.au_rules.specs.declared.marks.Mark.TheVariants.{Opens, Closes, Declares}
use Rattle.au_rules.specs.declared.marks.Role.{Role}
use Rattle.au_rules.specs.declared.marks.Role.TheVariants.{Local}
use Rattle.au_rules.specs.Marks.{arm_marks, block_marks, bound_mark, branch_marks, declared, enclosed}
use Rattle.au_rules.specs.Marks.{region_marks}
use Rattle.au_rules.specs.Marks.{statement_marks, typed_marks}
use Rattle.au_rules.specs.Once.{AreNew, IsNew, StaysOpen, closed, opened}

-- below a depth, if it isn't the outermost
abbrev Below : ℕ → (ℕ → Type 0) → Type 0
Below zero F = ⊥
Below (suc n) F = F n

-- at a depth of so many blocks, no more end than are open
abbrev pub Stays : List Mark → ℕ → Type 0
Stays [] n = Unit {0}
Stays (Opens ∷ rest) n = Stays rest (suc n)
Stays (Closes ∷ rest) n = Below n (λ m. Stays rest m)
Stays (Declares role kind name at ∷ rest) n = Stays rest n

fewer : (ms : List Mark) (n : ℕ) → Stays ms n → (first rest : List Mark) → ms ≡ first ++ rest
    → closed first ≤ n + opened first
fewer ms n s [] rest same = omega arith
fewer [] n s (m ∷ first) rest same = absurd cc
fewer (Opens ∷ ms) n s (m ∷ first) rest same =
    let head : Opens ≡ m = cc in
    let tail : ms ≡ first ++ rest = cc in
    let inner : closed first ≤ suc n + opened first = fewer ms (suc n) s first rest tail in
    subst (λ (k : Mark). closed (k ∷ first) ≤ n + opened (k ∷ first)) head (omega (arith, inner))
fewer (Closes ∷ ms) zero s (m ∷ first) rest same = absurd s
fewer (Closes ∷ ms) (suc n) s (m ∷ first) rest same =
    let head : Closes ≡ m = cc in
    let tail : ms ≡ first ++ rest = cc in
    let inner : closed first ≤ n + opened first = fewer ms n s first rest tail in
    subst (λ (k : Mark). closed (k ∷ first) ≤ suc n + opened (k ∷ first)) head (omega (arith, inner))
fewer (Declares role kind name at ∷ ms) n s (m ∷ first) rest same =
    let head : Declares role kind name at ≡ m = cc in
    let tail : ms ≡ first ++ rest = cc in
    let inner : closed first ≤ n + opened first = fewer ms n s first rest tail in
    subst (λ (k : Mark). closed (k ∷ first) ≤ n + opened (k ∷ first)) head inner

-- a block that is open before them is open behind them
pub stays_open : (ms : List Mark) → Stays ms 0 → StaysOpen ms
stays_open ms s first rest same =
    let less : closed first ≤ 0 + opened first = fewer ms 0 s first rest same in omega (arith, less)

-- ---- marks that change no depth

pub stays_on : (a b : List Mark) (n : ℕ) → Stays a n → ((m : ℕ) → Stays b m) → Stays (a ++ b) n
stays_on [] b n s more = more n
stays_on (Opens ∷ a) b n s more = stays_on a b (suc n) s more
stays_on (Closes ∷ a) b zero s more = absurd s
stays_on (Closes ∷ a) b (suc n) s more = stays_on a b n s more
stays_on (Declares role kind name at ∷ a) b n s more = stays_on a b n s more

abbrev pub Neutral : List Mark → Type 0
Neutral ms = (rest : List Mark) (n : ℕ) → Stays rest n → Stays (ms ++ rest) n

pub neutral_stays : (ms : List Mark) → Neutral ms → (n : ℕ) → Stays ms n
neutral_stays ms neutral n = subst (λ (xs : List Mark). Stays xs n) (append-nil ms) (neutral [] n tt)

neutral_nil : Neutral []
neutral_nil rest n s = s

neutral_one : (role : Role) (kind : Kind) (name : Bytes) (at : Pos)
    → Neutral (Declares role kind name at ∷ [])
neutral_one role kind name at rest n s = s

neutral_then : (m : Mark) (ms : List Mark) → Neutral (m ∷ []) → Neutral ms → Neutral (m ∷ ms)
neutral_then m ms first others rest n s = first (ms ++ rest) n (others rest n s)

pub neutral_join : (a b : List Mark) → Neutral a → Neutral b → Neutral (a ++ b)
neutral_join a b first second rest n s =
    subst (λ (xs : List Mark). Stays xs n) (sym (append_assoc a b rest)) (first (b ++ rest) n
    (second rest n s))

pub neutral_enclosed : (ms : List Mark) → Neutral ms → Neutral (enclosed ms)
neutral_enclosed ms inside rest n s =
    subst (λ (xs : List Mark). Stays xs (suc n)) (sym (append_assoc ms (Closes ∷ []) rest)) (inside
    (Closes ∷ rest) (suc n) s)

pub neutral_binds : (binds : List (Bound Bytes)) → Neutral (map bound_mark binds)
neutral_binds [] = neutral_nil
neutral_binds (b ∷ rest) = λ more n s. neutral_binds rest more n s

pub neutral_region : (t : WrittenType) → Neutral (region_marks t)
neutral_region (named name args) = neutral_nil
neutral_region (reference at access t region) = λ rest n s. s

mutual
  unfolding statement_marks

  pub neutral : (st : PlainStatement) → Neutral (statement_marks st)
  neutral (skip at) = neutral_nil
  neutral (declare at binding x t e) = λ rest n s. s
  neutral (destructure at binds e) = neutral_binds binds
  neutral (assign at x fields e) = neutral_nil
  neutral (assign_through at x fields e) = neutral_nil
  neutral (conditional at tests) = neutral_tests tests
  neutral (conditional_else at tests block) =
      neutral_join (branch_marks tests) (enclosed (block_marks block)) (neutral_tests tests)
      (neutral_enclosed (block_marks block) (neutral_all block))
  neutral (case_of at e all) = neutral_arms all
  neutral (while_loop at e block) = neutral_enclosed (block_marks block) (neutral_all block)
  neutral (for_loop at x a z block) = neutral_enclosed (declared Local Values x ∷ block_marks block)
      (neutral_all block)
  neutral (borrow_in at access x r region block stop) =
      neutral_enclosed (declared Local Values r ∷ (declared Local Types region ∷ block_marks block))
      (neutral_all block)
  neutral (borrow_typed at r t m x block stop) =
      neutral_enclosed (typed_marks r t ++ block_marks block)
      (neutral_join (typed_marks r t) (block_marks block) (neutral_region t) (neutral_all block))
  neutral (discard at e) = neutral_nil
  neutral (return_of at e) = neutral_nil

  pub neutral_all : (b : PlainStatements) → Neutral (block_marks b)
  neutral_all no_statements = neutral_nil
  neutral_all (statements s rest) = neutral_join (statement_marks s) (block_marks rest) (neutral s)
      (neutral_all rest)

  pub neutral_tests : (tests : PlainBranches) → Neutral (branch_marks tests)
  neutral_tests no_branches = neutral_nil
  neutral_tests (branches e block rest) =
      neutral_join (enclosed (block_marks block)) (branch_marks rest)
      (neutral_enclosed (block_marks block) (neutral_all block)) (neutral_tests rest)

  pub neutral_arms : (all : PlainArms) → Neutral (arm_marks all)
  neutral_arms no_arms = neutral_nil
  neutral_arms (arms at name binds block rest) =
      neutral_join (enclosed (map bound_mark binds ++ block_marks block)) (arm_marks rest)
      (neutral_enclosed (map bound_mark binds ++ block_marks block)
      (neutral_join (map bound_mark binds) (block_marks block) (neutral_binds binds) (neutral_all block)))
      (neutral_arms rest)

-- ---- parts of marks that are new

pub left_new : (foreign : Kind → Bytes → Bool) (before a b : List Mark) → AreNew foreign before (a ++ b)
    → AreNew foreign before a
left_new foreign before a b new first rest role kind name at same =
    new first (rest ++ b) role kind name at
    (ap (λ (xs : List Mark). xs ++ b) same ∙ append_assoc first (Declares role kind name at ∷ rest) b)

pub right_new : (foreign : Kind → Bytes → Bool) (before a b : List Mark) → AreNew foreign before (a ++ b)
    → AreNew foreign (before ++ a) b
right_new foreign before a b new first rest role kind name at same =
    subst (λ (xs : List Mark). IsNew foreign xs role kind name) (sym (append_assoc before a first))
    (new (a ++ first) rest role kind name at
    (ap (λ (xs : List Mark). a ++ xs) same ∙ sym (append_assoc a first (Declares role kind name at ∷ rest))))

pub inner_new : (foreign : Kind → Bytes → Bool) (before ms : List Mark) → AreNew foreign before (enclosed ms)
    → AreNew foreign (before ++ Opens ∷ []) ms
inner_new foreign before ms new =
    left_new foreign (before ++ Opens ∷ []) ms (Closes ∷ []) (right_new foreign before (Opens ∷ [])
    (ms ++ Closes ∷ []) new)
