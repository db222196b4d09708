-- What is said of the notes of a tree is said of what the notes become.
use Rattle.std.proofs.Common.{◌≡◌, List, ◌++◌, refl}
use Rattle.au_closed_trees.specs.Changes.{Change}
use Rattle.au_closed_trees.specs.Renoted.{expression_renoted, expressions_renoted, arguments_renoted}
use Rattle.au_closed_trees.specs.Renoted.{statement_renoted, block_renoted, branches_renoted, arms_renoted}
use Rattle.au_syntax.specs.Expressions.{Expression, Expressions, Arguments, number, negative, text, truth}
use Rattle.au_syntax.specs.Expressions.{nil, path, arrow, call, named_call, parenthesized, dereference}
use Rattle.au_syntax.specs.Expressions.{borrow, borrow_part, binary, negation, typed, choice, no_expressions}
use Rattle.au_syntax.specs.Expressions.{expressions, no_arguments, arguments}
use Rattle.au_syntax.specs.Statements.{Statement, Statements, Branches, Arms, skip, declare, destructure}
use Rattle.au_syntax.specs.Statements.{assign, assign_through, conditional, conditional_else, case_of}
use Rattle.au_syntax.specs.Statements.{while_loop, for_loop, borrow_in, borrow_typed, discard, return_of}
use Rattle.au_syntax.specs.Statements.{no_statements, statements, no_branches, branches, no_arms, arms}
use Rattle.au_closed_trees.specs.Notes.{said_in, said_in_all, said_in_arguments, said_in_statement}
use Rattle.au_closed_trees.specs.Notes.{said_in_block, said_in_branches, said_in_arms}

module _ {N T C U D A : Type 0} (change : Change N T C U D) (said : T → List A) (told : U → List A)
    (notes : (n : T) → told (change.note n) ≡ said n)
    (mentions : (n : T) (name : N) → told (change.mention n name) ≡ said n) where
  mutual
    in_same : (e : Expression N T C) → said_in told (expression_renoted change e) ≡ said_in said e
    in_same (number n l) = notes n.note
    in_same (negative n l) = notes n.note
    in_same (text n t) = notes n.note
    in_same (truth n b) = notes n.note
    in_same (nil n) = notes n.note
    in_same (path n x fields) = mentions n.note x.name
    in_same (arrow n x fields) = notes n.note
    in_same (call n f es c) = λ i. notes n.note i ++ all_same es i
    in_same (named_call n f es c) = λ i. notes n.note i ++ arguments_same es i
    in_same (parenthesized n e) = λ i. notes n.note i ++ in_same e i
    in_same (dereference n e) = λ i. notes n.note i ++ in_same e i
    in_same (borrow n m x) = notes n.note
    in_same (borrow_part n x fields) = notes n.note
    in_same (binary n op a b) = λ i. notes n.note i ++ in_same a i ++ in_same b i
    in_same (negation n e) = λ i. notes n.note i ++ in_same e i
    in_same (typed n e t) = λ i. notes n.note i ++ in_same e i
    in_same (choice n c a b) = λ i. notes n.note i ++ in_same c i ++ in_same a i ++ in_same b i

    all_same : (es : Expressions N T C) → said_in_all told (expressions_renoted change es)
        ≡ said_in_all said es
    all_same no_expressions = refl
    all_same (expressions e rest) = λ i. in_same e i ++ all_same rest i

    arguments_same : (es : Arguments N T C)
        → said_in_arguments told (arguments_renoted change es) ≡ said_in_arguments said es
    arguments_same no_arguments = refl
    arguments_same (arguments label e rest) = λ i. in_same e i ++ arguments_same rest i

  mutual
    statement_same : (s : Statement N T C)
        → said_in_statement told (statement_renoted change s) ≡ said_in_statement said s
    statement_same (skip at) = refl
    statement_same (declare at b n t e) = in_same e
    statement_same (destructure at binds e) = in_same e
    statement_same (assign at n fields e) = in_same e
    statement_same (assign_through at n fields e) = in_same e
    statement_same (conditional at tests) = branches_same tests
    statement_same (conditional_else at tests b) = λ i. branches_same tests i ++ block_same b i
    statement_same (case_of at e all) = λ i. in_same e i ++ arms_same all i
    statement_same (while_loop at e b) = λ i. in_same e i ++ block_same b i
    statement_same (for_loop at n a z b) = λ i. in_same a i ++ in_same z i ++ block_same b i
    statement_same (borrow_in at access x r region b stop) = block_same b
    statement_same (borrow_typed at r t mode x b stop) = block_same b
    statement_same (discard at e) = in_same e
    statement_same (return_of at e) = in_same e

    pub block_same : (b : Statements N T C) → said_in_block told (block_renoted change b)
        ≡ said_in_block said b
    block_same no_statements = refl
    block_same (statements s rest) = λ i. statement_same s i ++ block_same rest i

    branches_same : (all : Branches N T C)
        → said_in_branches told (branches_renoted change all) ≡ said_in_branches said all
    branches_same no_branches = refl
    branches_same (branches e b rest) = λ i. in_same e i ++ block_same b i ++ branches_same rest i

    arms_same : (all : Arms N T C) → said_in_arms told (arms_renoted change all) ≡ said_in_arms said all
    arms_same no_arms = refl
    arms_same (arms at n binds b rest) = λ i. block_same b i ++ arms_same rest i
