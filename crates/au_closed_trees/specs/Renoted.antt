-- Trees with other notes: the same is written at the same places, but for the names of arms.
use Rattle.au_syntax.specs.Names.{Placed}
use Rattle.au_syntax.specs.Expressions.{Node, Expression, Expressions, Arguments, number, negative, text}
use Rattle.au_syntax.specs.Expressions.{truth, nil, path, arrow, call, named_call, parenthesized, dereference}
use Rattle.au_syntax.specs.Expressions.{borrow, borrow_part, binary, negation, typed, choice, no_expressions}
use Rattle.au_syntax.specs.Expressions.{expressions, no_arguments, arguments}
use Rattle.au_syntax.specs.Statements.{Statement, Statements, Branches, Arms, skip, declare, destructure}
use Rattle.au_syntax.specs.Statements.{assign, assign_through, conditional, conditional_else, case_of}
use Rattle.au_syntax.specs.Statements.{while_loop, for_loop, borrow_in, borrow_typed, discard, return_of}
use Rattle.au_syntax.specs.Statements.{no_statements, statements, no_branches, branches, no_arms, arms}
use Rattle.au_closed_trees.specs.Changes.{Change}

module _ {N T C U D : Type 0} (change : Change N T C U D) where
  -- the place of an expression with its note
  abbrev pub renoted : Node T → Node U
  renoted node = record { at = node.at; note = change.note node.note }

  -- the same of a name that is mentioned
  abbrev pub mentioned : Node T → Placed N → Node U
  mentioned node name = record { at = node.at; note = change.mention node.note name.name }

  -- the note of a call
  abbrev pub called : Node T → Placed N → C → D
  called node name note = change.callee node.note note name.name

  -- the name of an arm
  abbrev pub arm_named : Placed N → Placed N
  arm_named name = record { at = name.at; name = change.arm name.name }

  abbrev mutual
    -- an expression
    pub expression_renoted : Expression N T C → Expression N U D
    expression_renoted (number n l) = number (renoted n) l
    expression_renoted (negative n l) = negative (renoted n) l
    expression_renoted (text n t) = text (renoted n) t
    expression_renoted (truth n b) = truth (renoted n) b
    expression_renoted (nil n) = nil (renoted n)
    expression_renoted (path n x fields) = path (mentioned n x) x fields
    expression_renoted (arrow n x fields) = arrow (renoted n) x fields
    expression_renoted (call n f es c) = call (renoted n) f (expressions_renoted es) (called n f c)
    expression_renoted (named_call n f es c) =
        named_call (renoted n) f (arguments_renoted es) (called n f c)
    expression_renoted (parenthesized n e) = parenthesized (renoted n) (expression_renoted e)
    expression_renoted (dereference n e) = dereference (renoted n) (expression_renoted e)
    expression_renoted (borrow n m x) = borrow (renoted n) m x
    expression_renoted (borrow_part n x fields) = borrow_part (renoted n) x fields
    expression_renoted (binary n op a b) =
        binary (renoted n) op (expression_renoted a) (expression_renoted b)
    expression_renoted (negation n e) = negation (renoted n) (expression_renoted e)
    expression_renoted (typed n e t) = typed (renoted n) (expression_renoted e) t
    expression_renoted (choice n c a b) =
        choice (renoted n) (expression_renoted c) (expression_renoted a) (expression_renoted b)

    -- expressions with commas between
    pub expressions_renoted : Expressions N T C → Expressions N U D
    expressions_renoted no_expressions = no_expressions
    expressions_renoted (expressions e rest) = expressions (expression_renoted e) (expressions_renoted rest)

    -- named arguments with commas between
    pub arguments_renoted : Arguments N T C → Arguments N U D
    arguments_renoted no_arguments = no_arguments
    arguments_renoted (arguments label e rest) =
        arguments label (expression_renoted e) (arguments_renoted rest)

  abbrev mutual
    -- a statement
    pub statement_renoted : Statement N T C → Statement N U D
    statement_renoted (skip at) = skip at
    statement_renoted (declare at b n t e) = declare at b n t (expression_renoted e)
    statement_renoted (destructure at binds e) =
        destructure at binds (expression_renoted e)
    statement_renoted (assign at n fields e) =
        assign at n fields (expression_renoted e)
    statement_renoted (assign_through at n fields e) =
        assign_through at n fields (expression_renoted e)
    statement_renoted (conditional at tests) = conditional at (branches_renoted tests)
    statement_renoted (conditional_else at tests b) =
        conditional_else at (branches_renoted tests) (block_renoted b)
    statement_renoted (case_of at e all) = case_of at (expression_renoted e) (arms_renoted all)
    statement_renoted (while_loop at e b) = while_loop at (expression_renoted e) (block_renoted b)
    statement_renoted (for_loop at n a z b) =
        for_loop at n (expression_renoted a) (expression_renoted z) (block_renoted b)
    statement_renoted (borrow_in at access x r region b stop) =
        borrow_in at access x r region (block_renoted b) stop
    statement_renoted (borrow_typed at r t mode x b stop) =
        borrow_typed at r t mode x (block_renoted b) stop
    statement_renoted (discard at e) = discard at (expression_renoted e)
    statement_renoted (return_of at e) = return_of at (expression_renoted e)

    -- a block
    pub block_renoted : Statements N T C → Statements N U D
    block_renoted no_statements = no_statements
    block_renoted (statements s rest) = statements (statement_renoted s) (block_renoted rest)

    -- tests with their blocks
    pub branches_renoted : Branches N T C → Branches N U D
    branches_renoted no_branches = no_branches
    branches_renoted (branches e b rest) =
        branches (expression_renoted e) (block_renoted b) (branches_renoted rest)

    -- the arms of a case
    pub arms_renoted : Arms N T C → Arms N U D
    arms_renoted no_arms = no_arms
    arms_renoted (arms at n binds b rest) =
        arms at (arm_named n) binds (block_renoted b) (arms_renoted rest)
