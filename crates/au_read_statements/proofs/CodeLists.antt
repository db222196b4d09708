-- Lists of the code's trees, as reading gives them; levels; and what the loop over branches keeps.
use Rattle.std.proofs.Common.{◌≡◌, ◌≢◌, ℕ, zero, suc, ◌-◌, true, false, List, [], ◌∷◌, ◌++◌, map, drop, Ok}
use Rattle.std.proofs.Common.{Err, refl, ap, ◌∙◌, arith}
use Rattle.std.proofs.lemmas.Bool.{cond-true, cond-false}
use Rattle.au_base.specs.declared.tokens.Token.{Token}
use Rattle.au_syntax.specs.declared.parsed.Parsed.{Parsed}
use Rattle.au_syntax.specs.declared.statements.Stmt.{Stmt}
use Rattle.au_syntax.specs.declared.statements.Branch.{Branch}
use Rattle.au_syntax.specs.declared.statements.Arm.{Arm}
use Rattle.au_syntax.specs.contracts.parsed.ParsedPhase.TheImpl.{ghosts as parsed}
use Rattle.au_syntax.specs.Plain.{PlainExpression, PlainStatements}
use Rattle.au_syntax.specs.Statements.{statements, branches, arms}
use Rattle.au_syntax.specs.Views.{placed, bound, expression, statement, block, statement_all, branch_all, arm_all}
use Rattle.au_read_expressions.specs.declared.faults.Fault.{Fault}
use Rattle.au_read_expressions.specs.Bounds.{Bounds}
use Rattle.au_read_expressions.specs.Reading.{Read, ◌>>=◌, no, read_of, before_all}
use Rattle.au_read_expressions.proofs.Loops.{with_front, one_more}
use Rattle.au_read_expressions.specs.ExpressionReading.{expression_at, call_at}
use Rattle.au_read_statements.specs.Seen.{branch_seen, arm_seen}
use Rattle.au_read_statements.specs.StatementReading.{statements_of, branches_of, arms_of, else_if}
use Rattle.au_read_statements.specs.StatementReading.{branch_with, after_branch, branches_within}
use Rattle.au_read_statements.specs.StatementReading.{statement_with, statement_at, block_at}

-- ---- lists

pub statements_are : (xs : List (Stmt Parsed (List ℕ) (Unit {0}) (Unit {0}))) →
    statements_of (map (statement parsed) xs) ≡ statement_all parsed xs
statements_are [] = refl
statements_are (x ∷ xs) = ap (statements (statement parsed x)) (statements_are xs)

pub branches_are : (xs : List (Branch Parsed (List ℕ) (Unit {0}) (Unit {0}))) →
    branches_of (map (branch_seen parsed) xs) ≡ branch_all parsed xs
branches_are [] = refl
branches_are (x ∷ xs) = ap (branches (expression parsed x.test.value) (block parsed x.block)) (branches_are xs)

pub arms_are : (xs : List (Arm Parsed (List ℕ) (Unit {0}) (Unit {0}))) → arms_of (map arm_seen xs) ≡ arm_all parsed xs
arms_are [] = refl
arms_are (x ∷ xs) = ap (arms x.at (placed parsed x.case) (map (bound parsed) x.binds.items)
    (block parsed x.block)) (arms_are xs)

pub ruleset list_steps = (statements_are, branches_are, arms_are)

-- ---- levels

module _ (b : Bounds) where
  pub no_level : (n : ℕ) (tokens : List Token) → n ≡ zero → statement_at b n tokens ≡ statement_at b zero tokens
  no_level n tokens is = ap (λ m. statement_at b m tokens) is

  pub one_level : (n : ℕ) (tokens : List Token) → n ≢ zero → statement_at b n tokens ≡ statement_with b
      (expression_at b (n - 1)) (call_at b (n - 1)) (block_at b (n - 1)) tokens
  unfolding statement_at block_at
  one_level zero tokens some = absurd (some refl)
  one_level (suc n) tokens some =
      let same : n ≡ suc n - 1 = omega arith in
      ap (λ m. statement_with b (expression_at b m) (call_at b m) (block_at b m) tokens) same

pub ruleset level_steps = (no_level, one_level)

-- ---- the loop over branches

module _ (b : Bounds) (inner calls : List Token → Read PlainExpression)
    (blocks : List Token → Read PlainStatements) where
  pub branches_on : (read : List (PlainExpression × PlainStatements)) (x : PlainExpression × PlainStatements)
      (k j : ℕ) (rest next : List Token)
      → k ≡ suc j → branch_with b inner calls blocks rest ≡ Ok (x, next) → else_if next ≡ true
      → with_front read (branches_within b inner calls blocks k rest) ≡ with_front (read ++ x ∷ [])
      (branches_within b inner calls blocks j (drop 1 next))
  branches_on read x k j rest next is one more =
      ap (λ n. with_front read (branches_within b inner calls blocks n rest)) is
      ∙ ap (λ r. with_front read (r >>= after_branch b inner calls blocks (branches_within b inner calls blocks j))) one
      ∙ ap (with_front read) (cond-true (else_if next)
      (branches_within b inner calls blocks j (drop 1 next) >>= before_all x) (read_of (x ∷ []) next) more)
      ∙ one_more read x (branches_within b inner calls blocks j (drop 1 next))

  pub branches_end : (read : List (PlainExpression × PlainStatements)) (x : PlainExpression × PlainStatements)
      (k j : ℕ) (rest next : List Token)
      → k ≡ suc j → branch_with b inner calls blocks rest ≡ Ok (x, next) → else_if next ≡ false
      → with_front read (branches_within b inner calls blocks k rest) ≡ Ok (read ++ x ∷ [], next)
  branches_end read x k j rest next is one last =
      ap (λ n. with_front read (branches_within b inner calls blocks n rest)) is
      ∙ ap (λ r. with_front read (r >>= after_branch b inner calls blocks (branches_within b inner calls blocks j))) one
      ∙ ap (with_front read) (cond-false (else_if next)
      (branches_within b inner calls blocks j (drop 1 next) >>= before_all x) (read_of (x ∷ []) next) last)

  pub branches_fail : (read : List (PlainExpression × PlainStatements)) (f : Fault) (k j : ℕ) (rest : List Token)
      → k ≡ suc j → branch_with b inner calls blocks rest ≡ Err f →
      with_front read (branches_within b inner calls blocks k rest) ≡ Err f
  branches_fail read f k j rest is one =
      ap (λ n. with_front read (branches_within b inner calls blocks n rest)) is
      ∙ ap (λ r. with_front read (r >>= after_branch b inner calls blocks (branches_within b inner calls blocks j))) one

  pub branches_over : (read : List (PlainExpression × PlainStatements)) (k : ℕ) (rest : List Token)
      → k ≡ zero → with_front read (branches_within b inner calls blocks k rest) ≡ no rest
  branches_over read k rest is = ap (λ n. with_front read (branches_within b inner calls blocks n rest)) is
