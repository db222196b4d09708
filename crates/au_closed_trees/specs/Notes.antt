-- What is said of the notes in a tree, in the order of the text: of the note of an expression before what is
-- in it.
use Rattle.std.specs.Prelude.{List, [], ◌++◌}
use Rattle.au_syntax.specs.Expressions.{Expression, Expressions, Arguments, number, negative, text, truth}
use Rattle.au_syntax.specs.Expressions.{nil, path, arrow, borrow, borrow_part, call, named_call}
use Rattle.au_syntax.specs.Expressions.{parenthesized, dereference, binary, negation, typed, choice}
use Rattle.au_syntax.specs.Expressions.{no_expressions, expressions, no_arguments, arguments}
use Rattle.au_syntax.specs.Statements.{Statement, Statements, Branches, Arms, declare, destructure, assign}
use Rattle.au_syntax.specs.Statements.{assign_through, conditional, conditional_else, case_of, while_loop}
use Rattle.au_syntax.specs.Statements.{for_loop, borrow_in, borrow_typed, discard, return_of, no_statements}
use Rattle.au_syntax.specs.Statements.{statements, no_branches, branches, no_arms, arms}

-- by what is said of a note
module _ {N T C A : Type 0} (said : T → List A) where
  abbrev mutual
    -- of the notes in an expression
    pub said_in : Expression N T C → List A
    said_in (number n l) = said n.note
    said_in (negative n l) = said n.note
    said_in (text n t) = said n.note
    said_in (truth n b) = said n.note
    said_in (nil n) = said n.note
    said_in (path n x fields) = said n.note
    said_in (arrow n x fields) = said n.note
    said_in (call n f es c) = said n.note ++ said_in_all es
    said_in (named_call n f es c) = said n.note ++ said_in_arguments es
    said_in (parenthesized n e) = said n.note ++ said_in e
    said_in (dereference n e) = said n.note ++ said_in e
    said_in (borrow n m x) = said n.note
    said_in (borrow_part n x fields) = said n.note
    said_in (binary n op a b) = said n.note ++ said_in a ++ said_in b
    said_in (negation n e) = said n.note ++ said_in e
    said_in (typed n e t) = said n.note ++ said_in e
    said_in (choice n c a b) = said n.note ++ said_in c ++ said_in a ++ said_in b

    -- in expressions with commas between
    pub said_in_all : Expressions N T C → List A
    said_in_all no_expressions = []
    said_in_all (expressions e rest) = said_in e ++ said_in_all rest

    -- in named arguments with commas between
    pub said_in_arguments : Arguments N T C → List A
    said_in_arguments no_arguments = []
    said_in_arguments (arguments label e rest) = said_in e ++ said_in_arguments rest

  abbrev mutual
    -- in a statement
    pub said_in_statement : Statement N T C → List A
    said_in_statement (declare at b n t e) = said_in e
    said_in_statement (destructure at binds e) = said_in e
    said_in_statement (assign at n fields e) = said_in e
    said_in_statement (assign_through at n fields e) = said_in e
    said_in_statement (conditional at tests) = said_in_branches tests
    said_in_statement (conditional_else at tests b) = said_in_branches tests ++ said_in_block b
    said_in_statement (case_of at e all) = said_in e ++ said_in_arms all
    said_in_statement (while_loop at e b) = said_in e ++ said_in_block b
    said_in_statement (for_loop at n a z b) = said_in a ++ said_in z ++ said_in_block b
    said_in_statement (borrow_in at access x r region b stop) = said_in_block b
    said_in_statement (borrow_typed at r t mode x b stop) = said_in_block b
    said_in_statement (discard at e) = said_in e
    said_in_statement (return_of at e) = said_in e
    said_in_statement s = []

    -- in a block
    pub said_in_block : Statements N T C → List A
    said_in_block no_statements = []
    said_in_block (statements s rest) = said_in_statement s ++ said_in_block rest

    -- in tests with their blocks
    pub said_in_branches : Branches N T C → List A
    said_in_branches no_branches = []
    said_in_branches (branches e b rest) = said_in e ++ said_in_block b ++ said_in_branches rest

    -- in the arms of a case
    pub said_in_arms : Arms N T C → List A
    said_in_arms no_arms = []
    said_in_arms (arms at n binds b rest) = said_in_block b ++ said_in_arms rest
