-- The induction principle over expressions and statements, and what parts are: shallower and smaller.
use Rattle.std.proofs.Common.{ℕ, ◌+◌, ◌<◌, List, [], ◌∷◌, ◌++◌, length, arith, length-append}
use Rattle.au_syntax.specs.Expressions.{Expression, Expressions, Arguments, number, negative, text, truth}
use Rattle.au_syntax.specs.Expressions.{nil, path, arrow, call, named_call, parenthesized, dereference}
use Rattle.au_syntax.specs.Expressions.{borrow, borrow_part, binary, negation, typed, choice, no_expressions}
use Rattle.au_syntax.specs.Expressions.{expressions, no_arguments, arguments}
use Rattle.au_syntax.specs.Statements.{Statement, Statements, Branches, Arms, skip, declare, destructure}
use Rattle.au_syntax.specs.Statements.{assign, assign_through, conditional, conditional_else, case_of}
use Rattle.au_syntax.specs.Statements.{while_loop, for_loop, borrow_in, borrow_typed, discard, return_of}
use Rattle.au_syntax.specs.Statements.{no_statements, statements, no_branches, branches, no_arms, arms}
use Rattle.au_syntax.specs.Depths.{expression_depth, expressions_depth, arguments_depth}
use Rattle.au_syntax.specs.Parts.{Each, parts, each_expression, each_argument, substatements, each_statement}
use Rattle.au_syntax.specs.Parts.{branch_statements, arm_statements, nodes, nodes_in, nodes_of_expressions}
use Rattle.au_syntax.specs.Parts.{nodes_of_arguments}
use Rattle.au_syntax.specs.Plain.{PlainExpression, PlainExpressions, PlainArguments}

-- what holds of two lists holds of both together
pub both_hold : {A : Type 0} (P : A → Type 0) (xs ys : List A) → Each P xs → Each P ys → Each P (xs ++ ys)
both_hold P [] ys a b = b
both_hold P (x ∷ xs) ys a b = (a.0, both_hold P xs ys a.1 b)

-- What holds of an expression wherever it holds of its parts, holds of every expression.
module _ {N T C : Type 0} (P : Expression N T C → Type 0) (step : (e : Expression N T C) → Each P (parts e) → P e) where
  mutual
    pub expression_induction : (e : Expression N T C) → P e
    expression_induction (number n l) = step (number n l) tt
    expression_induction (negative n l) = step (negative n l) tt
    expression_induction (text n t) = step (text n t) tt
    expression_induction (truth n b) = step (truth n b) tt
    expression_induction (nil n) = step (nil n) tt
    expression_induction (path n x fs) = step (path n x fs) tt
    expression_induction (arrow n x fs) = step (arrow n x fs) tt
    expression_induction (call n f es c) = step (call n f es c) (each_holds es)
    expression_induction (named_call n f es c) = step (named_call n f es c) (argument_holds es)
    expression_induction (parenthesized n e) = step (parenthesized n e) (expression_induction e, tt)
    expression_induction (dereference n e) = step (dereference n e) (expression_induction e, tt)
    expression_induction (borrow n m x) = step (borrow n m x) tt
    expression_induction (borrow_part n x fs) = step (borrow_part n x fs) tt
    expression_induction (binary n op a b) =
        step (binary n op a b) (expression_induction a, (expression_induction b, tt))
    expression_induction (negation n e) = step (negation n e) (expression_induction e, tt)
    expression_induction (typed n e t) = step (typed n e t) (expression_induction e, tt)
    expression_induction (choice n c a b) =
        step (choice n c a b) (expression_induction c, (expression_induction a, (expression_induction b, tt)))

    each_holds : (es : Expressions N T C) → Each P (each_expression es)
    each_holds no_expressions = tt
    each_holds (expressions e rest) = (expression_induction e, each_holds rest)

    argument_holds : (es : Arguments N T C) → Each P (each_argument es)
    argument_holds no_arguments = tt
    argument_holds (arguments label e rest) = (expression_induction e, argument_holds rest)

-- What holds of a statement wherever it holds of the statements in it, holds of every statement.
module _ {N T C : Type 0} (P : Statement N T C → Type 0)
    (step : (s : Statement N T C) → Each P (substatements s) → P s) where
  mutual
    pub statement_induction : (s : Statement N T C) → P s
    statement_induction (skip at) = step (skip at) tt
    statement_induction (declare at b n t e) = step (declare at b n t e) tt
    statement_induction (destructure at bs e) = step (destructure at bs e) tt
    statement_induction (assign at n fs e) = step (assign at n fs e) tt
    statement_induction (assign_through at n fs e) = step (assign_through at n fs e) tt
    statement_induction (conditional at bs) = step (conditional at bs) (branches_hold bs)
    statement_induction (conditional_else at bs k) =
        step (conditional_else at bs k)
        (both_hold P (branch_statements bs) (each_statement k) (branches_hold bs) (block_hold k))
    statement_induction (case_of at e as0) = step (case_of at e as0) (arms_hold as0)
    statement_induction (while_loop at e k) = step (while_loop at e k) (block_hold k)
    statement_induction (for_loop at n a z k) = step (for_loop at n a z k) (block_hold k)
    statement_induction (borrow_in at m x r g k s) = step (borrow_in at m x r g k s) (block_hold k)
    statement_induction (borrow_typed at r t m x k s) = step (borrow_typed at r t m x k s) (block_hold k)
    statement_induction (discard at e) = step (discard at e) tt
    statement_induction (return_of at e) = step (return_of at e) tt

    block_hold : (k : Statements N T C) → Each P (each_statement k)
    block_hold no_statements = tt
    block_hold (statements s rest) = (statement_induction s, block_hold rest)

    branches_hold : (bs : Branches N T C) → Each P (branch_statements bs)
    branches_hold no_branches = tt
    branches_hold (branches e k rest) = both_hold P (each_statement k) (branch_statements rest) (block_hold k)
        (branches_hold rest)

    arms_hold : (as0 : Arms N T C) → Each P (arm_statements as0)
    arms_hold no_arms = tt
    arms_hold (arms at n bs k rest) = both_hold P (each_statement k) (arm_statements rest) (block_hold k)
        (arms_hold rest)

-- Parts are shallower.
shallower_each : (n : ℕ) (es : PlainExpressions) → expressions_depth es < n →
    Each (λ part. expression_depth part < n) (each_expression es)
shallower_each n no_expressions h = tt
shallower_each n (expressions e rest) h = (omega (arith, h), shallower_each n rest (omega (arith, h)))

shallower_arguments : (n : ℕ) (es : PlainArguments) → arguments_depth es < n →
    Each (λ part. expression_depth part < n) (each_argument es)
shallower_arguments n no_arguments h = tt
shallower_arguments n (arguments label e rest) h = (omega (arith, h), shallower_arguments n rest (omega (arith, h)))

pub parts_shallower : (e : PlainExpression) → Each (λ part. expression_depth part < expression_depth e) (parts e)
parts_shallower (number n l) = tt
parts_shallower (negative n l) = tt
parts_shallower (text n t) = tt
parts_shallower (truth n b) = tt
parts_shallower (nil n) = tt
parts_shallower (path n x fs) = tt
parts_shallower (arrow n x fs) = tt
parts_shallower (call n f es c) = shallower_each (1 + expressions_depth es) es (omega arith)
parts_shallower (named_call n f es c) = shallower_arguments (1 + arguments_depth es) es (omega arith)
parts_shallower (parenthesized n e) = (omega arith, tt)
parts_shallower (dereference n e) = (omega arith, tt)
parts_shallower (borrow n m x) = tt
parts_shallower (borrow_part n x fs) = tt
parts_shallower (binary n op a b) = (omega arith, (omega arith, tt))
parts_shallower (negation n e) = (omega arith, tt)
parts_shallower (typed n e t) = (omega arith, tt)
parts_shallower (choice n c a b) = (omega arith, (omega arith, (omega arith, tt)))

-- Parts have fewer nodes.
module _ {N T C : Type 0} where
  -- how many nodes an expression has
  abbrev pub size : Expression N T C → ℕ
  size e = length (nodes e)

  smaller_each : (n : ℕ) (es : Expressions N T C) → length (nodes_of_expressions es) < n →
      Each (λ part. size part < n) (each_expression es)
  smaller_each n no_expressions h = tt
  smaller_each n (expressions e rest) h =
      let all = length-append (nodes_in e) (nodes_of_expressions rest) in
      (omega (arith, h, all), smaller_each n rest (omega (arith, h, all)))

  smaller_arguments : (n : ℕ) (es : Arguments N T C) → length (nodes_of_arguments es) < n →
      Each (λ part. size part < n) (each_argument es)
  smaller_arguments n no_arguments h = tt
  smaller_arguments n (arguments label e rest) h =
      let all = length-append (nodes_in e) (nodes_of_arguments rest) in
      (omega (arith, h, all), smaller_arguments n rest (omega (arith, h, all)))

  pub parts_smaller : (e : Expression N T C) → Each (λ part. size part < size e) (parts e)
  parts_smaller (number n l) = tt
  parts_smaller (negative n l) = tt
  parts_smaller (text n t) = tt
  parts_smaller (truth n b) = tt
  parts_smaller (nil n) = tt
  parts_smaller (path n x fs) = tt
  parts_smaller (arrow n x fs) = tt
  parts_smaller (call n f es c) = smaller_each _ es (omega arith)
  parts_smaller (named_call n f es c) = smaller_arguments _ es (omega arith)
  parts_smaller (parenthesized n e) = (omega arith, tt)
  parts_smaller (dereference n e) = (omega arith, tt)
  parts_smaller (borrow n m x) = tt
  parts_smaller (borrow_part n x fs) = tt
  parts_smaller (binary n op a b) = let all = length-append (nodes_in a) (nodes b)
      in (omega (arith, all), (omega (arith, all), tt))
  parts_smaller (negation n e) = (omega arith, tt)
  parts_smaller (typed n e t) = (omega arith, tt)
  parts_smaller (choice n c a b) = let all = length-append (nodes_in c ++ nodes a) (nodes b) in let last =
      length-append (nodes_in c) (nodes a)
      in (omega (arith, all, last), (omega (arith, all, last), (omega (arith, all, last), tt)))
