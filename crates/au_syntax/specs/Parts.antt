-- The parts of expressions and statements, in the order of the text, and all that stands in them.
use Rattle.std.specs.Prelude.{List, [], ◌∷◌, ◌++◌}
use Rattle.au_syntax.specs.Expressions.{Expression, Expressions, Arguments, number, negative, text, truth}
use Rattle.au_syntax.specs.Expressions.{nil, path, arrow, call, named_call, parenthesized, dereference}
use Rattle.au_syntax.specs.Expressions.{borrow, borrow_part, binary, negation, typed, choice, no_expressions}
use Rattle.au_syntax.specs.Expressions.{expressions, no_arguments, arguments}
use Rattle.au_syntax.specs.Statements.{Statement, Statements, Branches, Arms, skip, declare, destructure}
use Rattle.au_syntax.specs.Statements.{assign, assign_through, conditional, conditional_else, case_of}
use Rattle.au_syntax.specs.Statements.{while_loop, for_loop, borrow_in, borrow_typed, discard, return_of}
use Rattle.au_syntax.specs.Statements.{no_statements, statements, no_branches, branches, no_arms, arms}

-- P holds of each of a list.
abbrev pub Each : {A : Type 0} → (A → Type 0) → List A → Type 0
Each P [] = Unit {0}
Each P (x ∷ xs) = P x × Each P xs

module _ {N T C : Type 0} where
  -- expressions as a list
  abbrev pub each_expression : Expressions N T C → List (Expression N T C)
  each_expression no_expressions = []
  each_expression (expressions e rest) = e ∷ each_expression rest

  -- the values of named arguments
  abbrev pub each_argument : Arguments N T C → List (Expression N T C)
  each_argument no_arguments = []
  each_argument (arguments label e rest) = e ∷ each_argument rest

  -- the expressions that stand directly in an expression
  abbrev pub parts : Expression N T C → List (Expression N T C)
  parts (number node literal) = []
  parts (negative node literal) = []
  parts (text node bytes) = []
  parts (truth node value) = []
  parts (nil node) = []
  parts (path node name fields) = []
  parts (arrow node name fields) = []
  parts (call node name args note) = each_expression args
  parts (named_call node name args note) = each_argument args
  parts (parenthesized node e) = e ∷ []
  parts (dereference node e) = e ∷ []
  parts (borrow node mode name) = []
  parts (borrow_part node name fields) = []
  parts (binary node operator a b) = a ∷ b ∷ []
  parts (negation node e) = e ∷ []
  parts (typed node e t) = e ∷ []
  parts (choice node c a b) = c ∷ a ∷ b ∷ []

  -- statements as a list
  abbrev pub each_statement : Statements N T C → List (Statement N T C)
  each_statement no_statements = []
  each_statement (statements s rest) = s ∷ each_statement rest

  -- the statements of branches
  abbrev pub branch_statements : Branches N T C → List (Statement N T C)
  branch_statements no_branches = []
  branch_statements (branches e block rest) = each_statement block ++ branch_statements rest

  -- the statements of arms
  abbrev pub arm_statements : Arms N T C → List (Statement N T C)
  arm_statements no_arms = []
  arm_statements (arms at name binds block rest) = each_statement block ++ arm_statements rest

  -- the statements that stand directly in a statement
  abbrev pub substatements : Statement N T C → List (Statement N T C)
  substatements (skip at) = []
  substatements (declare at binding name t e) = []
  substatements (destructure at binds e) = []
  substatements (assign at name fields e) = []
  substatements (assign_through at name fields e) = []
  substatements (conditional at tests) = branch_statements tests
  substatements (conditional_else at tests block) = branch_statements tests ++ each_statement block
  substatements (case_of at e rest) = arm_statements rest
  substatements (while_loop at e block) = each_statement block
  substatements (for_loop at name a z block) = each_statement block
  substatements (borrow_in at access x r region block stop) = each_statement block
  substatements (borrow_typed at r t mode x block stop) = each_statement block
  substatements (discard at e) = []
  substatements (return_of at e) = []

-- a node of a tree: an expression or a statement
pub data TreeNode (N T C : Type 0) : Type 0 where
  an_expression : Expression N T C → TreeNode N T C
  a_statement : Statement N T C → TreeNode N T C

module _ {N T C : Type 0} where
  abbrev mutual
    -- the expressions in an expression, each before those that stand in it
    pub nodes_in : Expression N T C → List (TreeNode N T C)
    nodes_in (number node literal) = []
    nodes_in (negative node literal) = []
    nodes_in (text node bytes) = []
    nodes_in (truth node value) = []
    nodes_in (nil node) = []
    nodes_in (path node name fields) = []
    nodes_in (arrow node name fields) = []
    nodes_in (call node name args note) = nodes_of_expressions args
    nodes_in (named_call node name args note) = nodes_of_arguments args
    nodes_in (parenthesized node e) = an_expression e ∷ nodes_in e
    nodes_in (dereference node e) = an_expression e ∷ nodes_in e
    nodes_in (borrow node mode name) = []
    nodes_in (borrow_part node name fields) = []
    nodes_in (binary node operator a b) = (an_expression a ∷ nodes_in a) ++ (an_expression b ∷ nodes_in b)
    nodes_in (negation node e) = an_expression e ∷ nodes_in e
    nodes_in (typed node e t) = an_expression e ∷ nodes_in e
    nodes_in (choice node c a b) =
        (an_expression c ∷ nodes_in c) ++ (an_expression a ∷ nodes_in a) ++ (an_expression b ∷ nodes_in b)

    pub nodes_of_expressions : Expressions N T C → List (TreeNode N T C)
    nodes_of_expressions no_expressions = []
    nodes_of_expressions (expressions e rest) = (an_expression e ∷ nodes_in e) ++ nodes_of_expressions rest

    pub nodes_of_arguments : Arguments N T C → List (TreeNode N T C)
    nodes_of_arguments no_arguments = []
    nodes_of_arguments (arguments label e rest) = (an_expression e ∷ nodes_in e) ++ nodes_of_arguments rest

  -- an expression and all in it
  abbrev pub nodes : Expression N T C → List (TreeNode N T C)
  nodes e = an_expression e ∷ nodes_in e

  abbrev mutual
    -- the expressions and statements in a statement, each before those that stand in it
    pub nodes_in_statement : Statement N T C → List (TreeNode N T C)
    nodes_in_statement (skip at) = []
    nodes_in_statement (declare at binding name t e) = nodes e
    nodes_in_statement (destructure at binds e) = nodes e
    nodes_in_statement (assign at name fields e) = nodes e
    nodes_in_statement (assign_through at name fields e) = nodes e
    nodes_in_statement (conditional at tests) = nodes_of_branches tests
    nodes_in_statement (conditional_else at tests block) = nodes_of_branches tests ++ nodes_of_block block
    nodes_in_statement (case_of at e rest) = nodes e ++ nodes_of_arms rest
    nodes_in_statement (while_loop at e block) = nodes e ++ nodes_of_block block
    nodes_in_statement (for_loop at name a z block) = nodes a ++ nodes z ++ nodes_of_block block
    nodes_in_statement (borrow_in at access x r region block stop) = nodes_of_block block
    nodes_in_statement (borrow_typed at r t mode x block stop) = nodes_of_block block
    nodes_in_statement (discard at e) = nodes e
    nodes_in_statement (return_of at e) = nodes e

    -- the nodes of a block
    pub nodes_of_block : Statements N T C → List (TreeNode N T C)
    nodes_of_block no_statements = []
    nodes_of_block (statements s rest) = (a_statement s ∷ nodes_in_statement s) ++ nodes_of_block rest

    pub nodes_of_branches : Branches N T C → List (TreeNode N T C)
    nodes_of_branches no_branches = []
    nodes_of_branches (branches e block rest) = nodes e ++ nodes_of_block block ++ nodes_of_branches rest

    pub nodes_of_arms : Arms N T C → List (TreeNode N T C)
    nodes_of_arms no_arms = []
    nodes_of_arms (arms at name binds block rest) = nodes_of_block block ++ nodes_of_arms rest

  -- a statement and all in it
  abbrev pub nodes_of_statement : Statement N T C → List (TreeNode N T C)
  nodes_of_statement s = a_statement s ∷ nodes_in_statement s
