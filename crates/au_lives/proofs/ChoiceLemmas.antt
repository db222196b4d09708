-- Places of lists, part by part.
use Rattle.std.proofs.Common.{◌≡◌, ℕ, ◌+◌, ◌<◌, List, length, drop, ap, refl, get_or, arith, add-one, drop-cons, ◌≤◌}
use Rattle.std.proofs.lemmas.List.{drop_all}
use Rattle.au_syntax.specs.declared.phases.Phase.{Ghosts}
use Rattle.au_syntax.specs.declared.statements.Stmt.{Stmt}
use Rattle.au_syntax.specs.declared.statements.Branch.{Branch}
use Rattle.au_syntax.specs.declared.statements.Arm.{Arm}
use Rattle.au_syntax.specs.Views.{statement, statement_all, block, branch_all, arm_all}
use Rattle.au_syntax.specs.Plain.{plain_statement, plain_statements, plain_branches, plain_arms}
use Rattle.au_lives.specs.Choices.{places, places_of_block, places_of_branches, places_of_arms, counted}

-- what is counted so far can be counted, and with what is left it is all
pub record Counting (sum rest all : ℕ) : Type 0 where
  pub total : counted (sum + rest) ≡ counted all
  pub small : sum ≡ counted sum

-- one more part of a sum: what is left of it is less
pub added : (sum part next all k l m : ℕ) → Counting sum m all → part ≡ counted k → m ≡ k + l → next
    ≡ counted (sum + part) → Counting next l all
added sum part next all k l m before p split n = record {
  total = omega (arith, before.total, p, split, n);
  small = omega (arith, n);
}

-- nothing is left of a sum
pub ended : (sum all m : ℕ) → counted (sum + m) ≡ counted all → m ≡ 0 → sum ≡ counted sum → sum ≡ counted all
ended sum all m h e small = omega (arith, h, e, small)

module _ {X N T C : Type 0} (g : Ghosts X N T C) where
  pub none_of_block : (xs : List (Stmt X N T C)) (i : ℕ) → length xs ≤ i →
      places_of_block (plain_statements g.name_bytes (statement_all g (drop i xs))) ≡ 0
  none_of_block xs i h =
      ap (λ l. places_of_block (plain_statements g.name_bytes (statement_all g l))) (drop_all i xs h)

  pub none_of_branches : (xs : List (Branch X N T C)) (i : ℕ) → length xs ≤ i →
      places_of_branches (plain_branches g.name_bytes (branch_all g (drop i xs))) ≡ 0
  none_of_branches xs i h =
      ap (λ l. places_of_branches (plain_branches g.name_bytes (branch_all g l))) (drop_all i xs h)

  pub none_of_arms : (xs : List (Arm X N T C)) (i : ℕ) → length xs ≤ i →
      places_of_arms (plain_arms g.name_bytes (arm_all g (drop i xs))) ≡ 0
  none_of_arms xs i h = ap (λ l. places_of_arms (plain_arms g.name_bytes (arm_all g l))) (drop_all i xs h)

  pub left_of_block : (xs : List (Stmt X N T C)) (i : ℕ) (d : Stmt X N T C) → i < length xs →
      places_of_block (plain_statements g.name_bytes (statement_all g (drop i xs)))
      ≡ places (plain_statement g.name_bytes (statement g (get_or xs i d))) + places_of_block
      (plain_statements g.name_bytes (statement_all g (drop (i + 1) xs)))
  left_of_block xs i d h = rw (add-one, drop-cons xs i d h) refl

  pub left_of_branches : (xs : List (Branch X N T C)) (i : ℕ) (d : Branch X N T C) → i < length xs →
      places_of_branches (plain_branches g.name_bytes (branch_all g (drop i xs)))
      ≡ places_of_block (plain_statements g.name_bytes (block g (get_or xs i d).block)) + places_of_branches
      (plain_branches g.name_bytes (branch_all g (drop (i + 1) xs)))
  left_of_branches xs i d h = rw (add-one, drop-cons xs i d h) refl

  pub left_of_arms : (xs : List (Arm X N T C)) (i : ℕ) (d : Arm X N T C) → i < length xs →
      places_of_arms (plain_arms g.name_bytes (arm_all g (drop i xs)))
      ≡ places_of_block (plain_statements g.name_bytes (block g (get_or xs i d).block)) + places_of_arms
      (plain_arms g.name_bytes (arm_all g (drop (i + 1) xs)))
  left_of_arms xs i d h = rw (add-one, drop-cons xs i d h) refl
