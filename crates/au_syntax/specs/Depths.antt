-- How deep a tree is nested: the expressions and statements from a declaration down to one of them.
use Rattle.std.specs.Prelude.{ℕ, ◌+◌, List, [], ◌∷◌, max, min}
use Rattle.au_syntax.specs.Expressions.{number, negative, text, truth, nil, path, arrow, call, named_call}
use Rattle.au_syntax.specs.Expressions.{parenthesized, dereference, borrow, borrow_part, binary, negation}
use Rattle.au_syntax.specs.Expressions.{typed, choice, no_expressions, expressions, no_arguments, arguments}
use Rattle.au_syntax.specs.Statements.{skip, declare, destructure, assign, assign_through, conditional}
use Rattle.au_syntax.specs.Statements.{conditional_else, case_of, while_loop, for_loop, borrow_in}
use Rattle.au_syntax.specs.Statements.{borrow_typed, discard, return_of, no_statements, statements}
use Rattle.au_syntax.specs.Statements.{no_branches, branches, no_arms, arms}
use Rattle.au_syntax.specs.Modules.{constant, opaque_type, record_type, union_type, function, class, instance}
use Rattle.au_syntax.specs.Modules.{constant_body, function_body, instance_body}
use Rattle.au_syntax.specs.Plain.{PlainExpression, PlainExpressions, PlainArguments, PlainStatement}
use Rattle.au_syntax.specs.Plain.{PlainStatements, PlainBranches, PlainArms, PlainMethod, PlainDeclaration}
use Rattle.au_syntax.specs.Plain.{PlainModule}

abbrev mutual
  -- one more than the deepest expression inside
  pub expression_depth : PlainExpression → ℕ
  expression_depth (number node literal) = 1
  expression_depth (negative node literal) = 1
  expression_depth (text node bytes) = 1
  expression_depth (truth node value) = 1
  expression_depth (nil node) = 1
  expression_depth (path node name fields) = 1
  expression_depth (arrow node name fields) = 1
  expression_depth (call node name args note) = 1 + expressions_depth args
  expression_depth (named_call node name args note) = 1 + arguments_depth args
  expression_depth (parenthesized node e) = 1 + expression_depth e
  expression_depth (dereference node e) = 1 + expression_depth e
  expression_depth (borrow node mode name) = 1
  expression_depth (borrow_part node name fields) = 1
  expression_depth (binary node operator a b) = 1 + max (expression_depth a) (expression_depth b)
  expression_depth (negation node e) = 1 + expression_depth e
  expression_depth (typed node e t) = 1 + expression_depth e
  expression_depth (choice node c a b) =
      1 + max (expression_depth c) (max (expression_depth a) (expression_depth b))

  pub expressions_depth : PlainExpressions → ℕ
  expressions_depth no_expressions = 0
  expressions_depth (expressions e rest) = max (expression_depth e) (expressions_depth rest)

  pub arguments_depth : PlainArguments → ℕ
  arguments_depth no_arguments = 0
  arguments_depth (arguments label e rest) = max (expression_depth e) (arguments_depth rest)

abbrev mutual
  -- one more than the deepest expression or statement inside; the branches of a conditional stand side by
  -- side
  pub statement_depth : PlainStatement → ℕ
  statement_depth (skip at) = 1
  statement_depth (declare at binding name t e) = 1 + expression_depth e
  statement_depth (destructure at binds e) = 1 + expression_depth e
  statement_depth (assign at name fields e) = 1 + expression_depth e
  statement_depth (assign_through at name fields e) = 1 + expression_depth e
  statement_depth (conditional at tests) = 1 + branches_depth tests
  statement_depth (conditional_else at tests block) = 1 + max (branches_depth tests) (block_depth block)
  statement_depth (case_of at e rest) = 1 + max (expression_depth e) (arms_depth rest)
  statement_depth (while_loop at e block) = 1 + max (expression_depth e) (block_depth block)
  statement_depth (for_loop at name a z block) =
      1 + max (expression_depth a) (max (expression_depth z) (block_depth block))
  statement_depth (borrow_in at access x r region block stop) = 1 + block_depth block
  statement_depth (borrow_typed at r t mode x block stop) = 1 + block_depth block
  statement_depth (discard at e) = 1 + expression_depth e
  statement_depth (return_of at e) = 1 + expression_depth e

  pub block_depth : PlainStatements → ℕ
  block_depth no_statements = 0
  block_depth (statements s rest) = max (statement_depth s) (block_depth rest)

  pub branches_depth : PlainBranches → ℕ
  branches_depth no_branches = 0
  branches_depth (branches e block rest) =
      max (expression_depth e) (max (block_depth block) (branches_depth rest))

  pub arms_depth : PlainArms → ℕ
  arms_depth no_arms = 0
  arms_depth (arms at name binds block rest) = max (block_depth block) (arms_depth rest)

-- the greatest of numbers
abbrev pub greatest : {A : Type 0} → (A → ℕ) → List A → ℕ
greatest size [] = 0
greatest size (first ∷ rest) = max (size first) (greatest size rest)

abbrev pub method_depth : PlainMethod → ℕ
method_depth m = block_depth m.body

-- a declaration is no node itself
abbrev pub declaration_depth : PlainDeclaration → ℕ
declaration_depth (constant at name t) = 0
declaration_depth (opaque_type at name parameters universe) = 0
declaration_depth (record_type at name parameters universe fields) = 0
declaration_depth (union_type at name parameters universe cases) = 0
declaration_depth (function at generics header) = 0
declaration_depth (class at name parameter methods) = 0
declaration_depth (instance at generics name t) = 0
declaration_depth (constant_body at name t e) = expression_depth e
declaration_depth (function_body at generics header body stop) = block_depth body
declaration_depth (instance_body at generics name t methods) = greatest method_depth methods

-- the nesting of a file
abbrev pub module_depth : PlainModule → ℕ
module_depth m = greatest declaration_depth m.declarations

-- the greatest number that code counts to
abbrev pub most_counted : ℕ
most_counted = 4294967295

-- a number as code counts it
abbrev pub counted : ℕ → ℕ
counted n = min n most_counted
