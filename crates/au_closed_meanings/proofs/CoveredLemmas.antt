-- What holds of all that is said of the notes of a tree in one way holds of what is said in another.
use Rattle.std.proofs.Common.{⊎_elim, List, [], ◌++◌}
use Rattle.std.specs.Prelude.{Contains}
use Rattle.std.proofs.lemmas.List.Elements.{Contains-append_cases, Contains-append_left, Contains-append_right}
use Rattle.au_base.proofs.ListLemmas.{nothing_there}
use Rattle.au_syntax.specs.Expressions.{Expression, Expressions, Arguments, number, negative, text, truth}
use Rattle.au_syntax.specs.Expressions.{nil, path, arrow, call, named_call, parenthesized, dereference}
use Rattle.au_syntax.specs.Expressions.{borrow, borrow_part, binary, negation, typed, choice, no_expressions}
use Rattle.au_syntax.specs.Expressions.{expressions, no_arguments, arguments}
use Rattle.au_syntax.specs.Statements.{Statement, Statements, Branches, Arms, skip, declare, destructure}
use Rattle.au_syntax.specs.Statements.{assign, assign_through, conditional, conditional_else, case_of}
use Rattle.au_syntax.specs.Statements.{while_loop, for_loop, borrow_in, borrow_typed, discard, return_of}
use Rattle.au_syntax.specs.Statements.{no_statements, statements, no_branches, branches, no_arms, arms}
use Rattle.au_closed_trees.specs.Notes.{said_in, said_in_all, said_in_arguments, said_in_statement}
use Rattle.au_closed_trees.specs.Notes.{said_in_block, said_in_branches, said_in_arms}

-- all elements are such
pub record AllOf {X : Type 0} (P : X → Type 0) (xs : List X) : Type 0 where
  pub each : (x : X) → Contains xs x → P x

pub none_of : {X : Type 0} (P : X → Type 0) → AllOf P []
none_of P = record { each = λ x h. absurd (nothing_there x h) }

-- of two lists one after another
two : {A B : Type 0} {P : A → Type 0} {Q : B → Type 0} {us vs : List A} {us2 vs2 : List B}
    → (AllOf Q us2 → AllOf P us) → (AllOf Q vs2 → AllOf P vs) → AllOf Q (us2 ++ vs2) → AllOf P (us ++ vs)
two {us = us} {vs = vs} {us2 = us2} {vs2 = vs2} first later all = record {
  each = λ x h.
      ⊎_elim ((first (record { each = λ y k. all.each y (Contains-append_left us2 vs2 y k) })).each x)
      ((later (record { each = λ y k. all.each y (Contains-append_right us2 vs2 y k) })).each x)
      (Contains-append_cases us vs x h);
}

module _ {N T C A B : Type 0} (P : A → Type 0) (Q : B → Type 0) (said : T → List A) (told : T → List B)
    (one : (n : T) → AllOf Q (told n) → AllOf P (said n)) where
  mutual
    in_all : (e : Expression N T C) → AllOf Q (said_in told e) → AllOf P (said_in said e)
    in_all (number n l) = one n.note
    in_all (negative n l) = one n.note
    in_all (text n t) = one n.note
    in_all (truth n b) = one n.note
    in_all (nil n) = one n.note
    in_all (path n x fields) = one n.note
    in_all (arrow n x fields) = one n.note
    in_all (call n f es c) = two (one n.note) (all_in_all es)
    in_all (named_call n f es c) = two (one n.note) (arguments_all es)
    in_all (parenthesized n e) = two (one n.note) (in_all e)
    in_all (dereference n e) = two (one n.note) (in_all e)
    in_all (borrow n m x) = one n.note
    in_all (borrow_part n x fields) = one n.note
    in_all (binary n op a b) = two (two (one n.note) (in_all a)) (in_all b)
    in_all (negation n e) = two (one n.note) (in_all e)
    in_all (typed n e t) = two (one n.note) (in_all e)
    in_all (choice n c a b) = two (two (two (one n.note) (in_all c)) (in_all a)) (in_all b)

    all_in_all : (es : Expressions N T C) → AllOf Q (said_in_all told es) → AllOf P (said_in_all said es)
    all_in_all no_expressions = λ h. none_of P
    all_in_all (expressions e rest) = two (in_all e) (all_in_all rest)

    arguments_all : (es : Arguments N T C) → AllOf Q (said_in_arguments told es)
        → AllOf P (said_in_arguments said es)
    arguments_all no_arguments = λ h. none_of P
    arguments_all (arguments label e rest) = two (in_all e) (arguments_all rest)

  mutual
    statement_all : (s : Statement N T C) → AllOf Q (said_in_statement told s)
        → AllOf P (said_in_statement said s)
    statement_all (skip at) = λ h. none_of P
    statement_all (declare at b n t e) = in_all e
    statement_all (destructure at binds e) = in_all e
    statement_all (assign at n fields e) = in_all e
    statement_all (assign_through at n fields e) = in_all e
    statement_all (conditional at tests) = branches_all tests
    statement_all (conditional_else at tests b) = two (branches_all tests) (block_all b)
    statement_all (case_of at e all) = two (in_all e) (arms_all all)
    statement_all (while_loop at e b) = two (in_all e) (block_all b)
    statement_all (for_loop at n a z b) = two (two (in_all a) (in_all z)) (block_all b)
    statement_all (borrow_in at access x r region b stop) = block_all b
    statement_all (borrow_typed at r t mode x b stop) = block_all b
    statement_all (discard at e) = in_all e
    statement_all (return_of at e) = in_all e

    pub block_all : (b : Statements N T C) → AllOf Q (said_in_block told b) → AllOf P (said_in_block said b)
    block_all no_statements = λ h. none_of P
    block_all (statements s rest) = two (statement_all s) (block_all rest)

    branches_all : (all : Branches N T C) → AllOf Q (said_in_branches told all)
        → AllOf P (said_in_branches said all)
    branches_all no_branches = λ h. none_of P
    branches_all (branches e b rest) = two (two (in_all e) (block_all b)) (branches_all rest)

    arms_all : (all : Arms N T C) → AllOf Q (said_in_arms told all) → AllOf P (said_in_arms said all)
    arms_all no_arms = λ h. none_of P
    arms_all (arms at n binds b rest) = two (block_all b) (arms_all rest)
