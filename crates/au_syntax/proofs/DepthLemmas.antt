-- How deep lists of trees are, and what one more of them adds.
use Rattle.std.proofs.Common.{◌≡◌, ℕ, ◌+◌, ◌*◌, ◌<◌, ◌≤◌, List, [], ◌∷◌, ◌++◌, length, take, ap, ◌∙◌, get_or}
use Rattle.std.proofs.Common.{max, map, arith}
use Rattle.std.proofs.lemmas.List.{take_more}
use denote.Param.Weighed.{most, at_most}
use Rattle.au_base.proofs.NumberLemmas.{max_last, max_none}
use Rattle.au_syntax.specs.declared.phases.Phase.{Ghosts}
use Rattle.au_syntax.specs.declared.expressions.Argument.{Argument}
use Rattle.au_syntax.specs.declared.expressions.Expr.{Expr}
use Rattle.au_syntax.specs.declared.statements.Stmt.{Stmt}
use Rattle.au_syntax.specs.declared.statements.Branch.{Branch}
use Rattle.au_syntax.specs.declared.statements.Arm.{Arm}
use Rattle.au_syntax.specs.Views.{expression, expression_all, argument_all, statement, statement_all, block}
use Rattle.au_syntax.specs.Views.{branch_all, arm_all}
use Rattle.au_syntax.specs.Plain.{plain_expression, plain_expressions, plain_arguments, plain_statement}
use Rattle.au_syntax.specs.Plain.{plain_statements, plain_branches, plain_arms}
use Rattle.au_syntax.specs.Depths.{expression_depth, expressions_depth, arguments_depth, statement_depth}
use Rattle.au_syntax.specs.Depths.{block_depth, branches_depth, arms_depth, counted, greatest}

-- what is counted of a maximum
pub counted_max : (a b : ℕ) → counted (max a b) ≡ max (counted a) (counted b)
counted_max a b = omega arith

-- one more part of what is counted: a before, m the part, w with it
pub raised : (d e f a m w : ℕ) → d ≡ counted a → e ≡ counted m → f ≡ max d e → w ≡ max a m → f ≡ counted w
raised d e f a m w before part both all = omega (arith, before, part, both, all)

max_last3 : (a b r x : ℕ) → max a (max b (max r x)) ≡ max (max a (max b r)) x
max_last3 a b r x = omega arith

ends : (a b : ℕ) → max a (max b 0) ≡ max 0 (max a b)
ends a b = omega arith

-- the greatest of a list that is seen through two views, and one more
greatest_seen_push : {A B D : Type 0} (size : D → ℕ) (p : B → D) (v : A → B) (xs : List A) (x : A) →
    greatest size (map p (map v (xs ++ x ∷ []))) ≡ max (greatest size (map p (map v xs))) (size (p (v x)))
greatest_seen_push size p v [] x = max_none (size (p (v x)))
greatest_seen_push size p v (y ∷ ys) x = ap (max (size (p (v y)))) (greatest_seen_push size p v ys x)
    ∙ max_last (size (p (v y))) (greatest size (map p (map v ys))) (size (p (v x)))

pub greatest_seen_more : {A B D : Type 0} (size : D → ℕ) (p : B → D) (v : A → B) (xs : List A) (i : ℕ)
    (d : A) → i < length xs →
    greatest size (map p (map v (take (i + 1) xs))) ≡ max (greatest size (map p (map v (take i xs))))
    (size (p (v (get_or xs i d))))
greatest_seen_more size p v xs i d h = ap (λ r. greatest size (map p (map v r))) (take_more xs i d h)
    ∙ greatest_seen_push size p v (take i xs) (get_or xs i d)

-- an item is smaller than the list that holds it
pub item_falls : {A : Type 0} (size : A → ℕ) (xs ys : List A) (i : ℕ) (x : A) (t : ℕ) → 2 * most size ys + 1
    ≡ t → xs ≡ ys → i < length xs → x ≡ get_or xs i x → 2 * size x + 0 < t
item_falls size xs ys i x t total same inside is =
    let small : size (get_or xs i x) ≤ most size xs = at_most size xs i x inside in
    let here : size x ≡ size (get_or xs i x) = ap size is in
    let all : most size xs ≡ most size ys = ap (most size) same in
    omega (arith, small, here, all, total)

module _ {X N T C : Type 0} (g : Ghosts X N T C) where
  deep_expressions_push : (xs : List (Expr X N T C)) (x : Expr X N T C) →
      expressions_depth (plain_expressions g.name_bytes (expression_all g (xs ++ x ∷ [])))
      ≡ max (expressions_depth (plain_expressions g.name_bytes (expression_all g xs)))
      (expression_depth (plain_expression g.name_bytes (expression g x)))
  deep_expressions_push [] x = max_none (expression_depth (plain_expression g.name_bytes (expression g x)))
  deep_expressions_push (y ∷ ys) x =
      ap (max (expression_depth (plain_expression g.name_bytes (expression g y)))) (deep_expressions_push ys x)
      ∙ max_last (expression_depth (plain_expression g.name_bytes (expression g y)))
      (expressions_depth (plain_expressions g.name_bytes (expression_all g ys)))
      (expression_depth (plain_expression g.name_bytes (expression g x)))

  pub deep_expressions_more : (xs : List (Expr X N T C)) (i : ℕ) (d : Expr X N T C) → i < length xs →
      expressions_depth (plain_expressions g.name_bytes (expression_all g (take (i + 1) xs)))
      ≡ max (expressions_depth (plain_expressions g.name_bytes (expression_all g (take i xs))))
      (expression_depth (plain_expression g.name_bytes (expression g (get_or xs i d))))
  deep_expressions_more xs i d h =
      ap (λ r. expressions_depth (plain_expressions g.name_bytes (expression_all g r))) (take_more xs i d h)
      ∙ deep_expressions_push (take i xs) (get_or xs i d)

  deep_arguments_push : (xs : List (Argument X N T C)) (x : Argument X N T C) →
      arguments_depth (plain_arguments g.name_bytes (argument_all g (xs ++ x ∷ [])))
      ≡ max (arguments_depth (plain_arguments g.name_bytes (argument_all g xs)))
      (expression_depth (plain_expression g.name_bytes (expression g x.value)))
  deep_arguments_push [] x = max_none (expression_depth (plain_expression g.name_bytes (expression g x.value)))
  deep_arguments_push (y ∷ ys) x =
      ap (max (expression_depth (plain_expression g.name_bytes (expression g y.value))))
      (deep_arguments_push ys x) ∙ max_last
      (expression_depth (plain_expression g.name_bytes (expression g y.value)))
      (arguments_depth (plain_arguments g.name_bytes (argument_all g ys)))
      (expression_depth (plain_expression g.name_bytes (expression g x.value)))

  pub deep_arguments_more : (xs : List (Argument X N T C)) (i : ℕ) (d : Argument X N T C) → i < length xs →
      arguments_depth (plain_arguments g.name_bytes (argument_all g (take (i + 1) xs)))
      ≡ max (arguments_depth (plain_arguments g.name_bytes (argument_all g (take i xs))))
      (expression_depth (plain_expression g.name_bytes (expression g (get_or xs i d).value)))
  deep_arguments_more xs i d h = ap (λ r. arguments_depth (plain_arguments g.name_bytes (argument_all g r)))
      (take_more xs i d h) ∙ deep_arguments_push (take i xs) (get_or xs i d)

  deep_statements_push : (xs : List (Stmt X N T C)) (x : Stmt X N T C) →
      block_depth (plain_statements g.name_bytes (statement_all g (xs ++ x ∷ [])))
      ≡ max (block_depth (plain_statements g.name_bytes (statement_all g xs)))
      (statement_depth (plain_statement g.name_bytes (statement g x)))
  deep_statements_push [] x = max_none (statement_depth (plain_statement g.name_bytes (statement g x)))
  deep_statements_push (y ∷ ys) x = ap (max (statement_depth (plain_statement g.name_bytes (statement g y))))
      (deep_statements_push ys x) ∙ max_last (statement_depth (plain_statement g.name_bytes (statement g y)))
      (block_depth (plain_statements g.name_bytes (statement_all g ys)))
      (statement_depth (plain_statement g.name_bytes (statement g x)))

  pub deep_statements_more : (xs : List (Stmt X N T C)) (i : ℕ) (d : Stmt X N T C) → i < length xs →
      block_depth (plain_statements g.name_bytes (statement_all g (take (i + 1) xs)))
      ≡ max (block_depth (plain_statements g.name_bytes (statement_all g (take i xs))))
      (statement_depth (plain_statement g.name_bytes (statement g (get_or xs i d))))
  deep_statements_more xs i d h = ap (λ r. block_depth (plain_statements g.name_bytes (statement_all g r)))
      (take_more xs i d h) ∙ deep_statements_push (take i xs) (get_or xs i d)

  deep_branches_push : (xs : List (Branch X N T C)) (x : Branch X N T C) →
      branches_depth (plain_branches g.name_bytes (branch_all g (xs ++ x ∷ [])))
      ≡ max (branches_depth (plain_branches g.name_bytes (branch_all g xs)))
      (max (expression_depth (plain_expression g.name_bytes (expression g x.test.value)))
      (block_depth (plain_statements g.name_bytes (block g x.block))))
  deep_branches_push [] x = ends
      (expression_depth (plain_expression g.name_bytes (expression g x.test.value)))
      (block_depth (plain_statements g.name_bytes (block g x.block)))
  deep_branches_push (y ∷ ys) x =
      ap (λ d. max (expression_depth (plain_expression g.name_bytes (expression g y.test.value)))
      (max (block_depth (plain_statements g.name_bytes (block g y.block))) d)) (deep_branches_push ys x)
      ∙ max_last3 (expression_depth (plain_expression g.name_bytes (expression g y.test.value)))
      (block_depth (plain_statements g.name_bytes (block g y.block)))
      (branches_depth (plain_branches g.name_bytes (branch_all g ys)))
      (max (expression_depth (plain_expression g.name_bytes (expression g x.test.value)))
      (block_depth (plain_statements g.name_bytes (block g x.block))))

  pub deep_branches_more : (xs : List (Branch X N T C)) (i : ℕ) (d : Branch X N T C) → i < length xs →
      branches_depth (plain_branches g.name_bytes (branch_all g (take (i + 1) xs)))
      ≡ max (branches_depth (plain_branches g.name_bytes (branch_all g (take i xs))))
      (max (expression_depth (plain_expression g.name_bytes (expression g (get_or xs i d).test.value)))
      (block_depth (plain_statements g.name_bytes (block g (get_or xs i d).block))))
  deep_branches_more xs i d h = ap (λ r. branches_depth (plain_branches g.name_bytes (branch_all g r)))
      (take_more xs i d h) ∙ deep_branches_push (take i xs) (get_or xs i d)

  deep_arms_push : (xs : List (Arm X N T C)) (x : Arm X N T C) →
      arms_depth (plain_arms g.name_bytes (arm_all g (xs ++ x ∷ [])))
      ≡ max (arms_depth (plain_arms g.name_bytes (arm_all g xs)))
      (block_depth (plain_statements g.name_bytes (block g x.block)))
  deep_arms_push [] x = max_none (block_depth (plain_statements g.name_bytes (block g x.block)))
  deep_arms_push (y ∷ ys) x = ap (max (block_depth (plain_statements g.name_bytes (block g y.block))))
      (deep_arms_push ys x) ∙ max_last (block_depth (plain_statements g.name_bytes (block g y.block)))
      (arms_depth (plain_arms g.name_bytes (arm_all g ys)))
      (block_depth (plain_statements g.name_bytes (block g x.block)))

  pub deep_arms_more : (xs : List (Arm X N T C)) (i : ℕ) (d : Arm X N T C) → i < length xs →
      arms_depth (plain_arms g.name_bytes (arm_all g (take (i + 1) xs)))
      ≡ max (arms_depth (plain_arms g.name_bytes (arm_all g (take i xs))))
      (block_depth (plain_statements g.name_bytes (block g (get_or xs i d).block)))
  deep_arms_more xs i d h = ap (λ r. arms_depth (plain_arms g.name_bytes (arm_all g r))) (take_more xs i d h)
      ∙ deep_arms_push (take i xs) (get_or xs i d)

pub ruleset depth_steps = (
  counted_max,
  deep_expressions_more,
  deep_arguments_more,
  deep_statements_more,
  deep_branches_more,
  deep_arms_more,
)
