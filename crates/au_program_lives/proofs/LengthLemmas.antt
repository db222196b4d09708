-- There are as many sorts as variables.
use Rattle.std.proofs.Common.{◌≡◌, List, [], ◌∷◌, ◌++◌, length, length-append, map, refl, ap}
use Rattle.std.specs.Prelude.{suc}
use Rattle.au_lives.specs.Scopes as lives
use Rattle.au_lives.specs.Scopes.{scopes, scopes_after, scopes_inside, scopes_of_branches, scopes_of_arms}
use Rattle.au_lives.specs.Scopes.{scopes_of, bound_over}
use Rattle.au_program_lives.specs.Scopes.{TypeScope, opened_by, opened_in}
use Rattle.au_program_lives.specs.Sorts.{parameter_sorts, bound_sorts, sorts_after, sorts, sorts_inside}
use Rattle.au_program_lives.specs.Sorts.{sorts_of_branches, sorts_of_arms, sorts_of, region_written}
use Rattle.au_syntax.specs.Plain.{Bytes, PlainStatement, PlainStatements, PlainBranches, PlainArms}
use Rattle.au_syntax.specs.Statements.{skip, declare, destructure, assign, assign_through, conditional}
use Rattle.au_syntax.specs.Statements.{conditional_else, case_of, while_loop, for_loop, borrow_in}
use Rattle.au_syntax.specs.Statements.{borrow_typed, discard, return_of, no_statements, statements}
use Rattle.au_syntax.specs.Statements.{no_branches, branches, no_arms, arms}
use Rattle.au_syntax.specs.Types.{Bound, Labelled}

both : {A B : Type 0} (a b : List A) (c d : List B) → length a ≡ length c → length b ≡ length d →
    length (a ++ b) ≡ length (c ++ d)
both a b c d p q =
    let one = length-append a b in
    let other = length-append c d in
    cc

mapped : {A B C : Type 0} (f : A → B) (h : A → C) (xs : List A) → length (map f xs) ≡ length (map h xs)
mapped f h [] = refl
mapped f h (x ∷ xs) = ap suc (mapped f h xs)

bound_length : (binds : List (Bound Bytes)) (b : PlainStatements) (sc : TypeScope) →
    length (bound_sorts binds sc) ≡ length (bound_over binds b)
bound_length [] b sc = refl
bound_length (one ∷ rest) b sc = ap suc (bound_length rest b sc)

after_length : (s : PlainStatement) (more : PlainStatements) (sc : TypeScope) → length (sorts_after s sc)
    ≡ length (scopes_after s more)
after_length (skip at) more sc = refl
after_length (declare at binding name t e) more sc = refl
after_length (destructure at binds e) more sc = bound_length binds more sc
after_length (assign at name fields e) more sc = refl
after_length (assign_through at name fields e) more sc = refl
after_length (conditional at bs) more sc = refl
after_length (conditional_else at bs b) more sc = refl
after_length (case_of at e all) more sc = refl
after_length (while_loop at e b) more sc = refl
after_length (for_loop at name a z b) more sc = refl
after_length (borrow_in at access x r region b stop) more sc = refl
after_length (borrow_typed at r t mode x b stop) more sc = refl
after_length (discard at e) more sc = refl
after_length (return_of at e) more sc = refl

mutual
  block_length : (b : PlainStatements) (sc : TypeScope) → length (sorts b sc) ≡ length (scopes b)
  block_length no_statements sc = refl
  block_length (statements s more) sc =
      both (sorts_after s sc) (sorts_inside s sc ++ sorts more sc) (scopes_after s more)
      (scopes_inside s ++ scopes more) (after_length s more sc)
      (both (sorts_inside s sc) (sorts more sc) (scopes_inside s) (scopes more) (inside_length s sc)
      (block_length more sc))

  inside_length : (s : PlainStatement) (sc : TypeScope) → length (sorts_inside s sc) ≡ length (scopes_inside s)
  inside_length (skip at) sc = refl
  inside_length (declare at binding name t e) sc = refl
  inside_length (destructure at binds e) sc = refl
  inside_length (assign at name fields e) sc = refl
  inside_length (assign_through at name fields e) sc = refl
  inside_length (conditional at bs) sc = branches_length bs sc
  inside_length (conditional_else at bs b) sc =
      both (sorts_of_branches bs sc) (sorts b sc) (scopes_of_branches bs) (scopes b) (branches_length bs sc)
      (block_length b sc)
  inside_length (case_of at e all) sc = arms_length all sc
  inside_length (while_loop at e b) sc = block_length b sc
  inside_length (for_loop at name a z b) sc = ap suc (block_length b sc)
  inside_length (borrow_in at access x r region b stop) sc = ap suc (block_length b (opened_in region.name sc))
  inside_length (borrow_typed at r t mode x b stop) sc = ap suc (block_length b (opened_by (region_written t) sc))
  inside_length (discard at e) sc = refl
  inside_length (return_of at e) sc = refl

  branches_length : (bs : PlainBranches) (sc : TypeScope) → length (sorts_of_branches bs sc)
      ≡ length (scopes_of_branches bs)
  branches_length no_branches sc = refl
  branches_length (branches e b more) sc =
      both (sorts b sc) (sorts_of_branches more sc) (scopes b) (scopes_of_branches more) (block_length b sc)
      (branches_length more sc)

  arms_length : (all : PlainArms) (sc : TypeScope) → length (sorts_of_arms all sc) ≡ length (scopes_of_arms all)
  arms_length no_arms sc = refl
  arms_length (arms when' name binds b more) sc =
      both (bound_sorts binds sc) (sorts b sc ++ sorts_of_arms more sc) (bound_over binds b)
      (scopes b ++ scopes_of_arms more) (bound_length binds b sc)
      (both (sorts b sc) (sorts_of_arms more sc) (scopes b) (scopes_of_arms more) (block_length b sc)
      (arms_length more sc))

pub as_many : (parameters : List (Labelled Bytes)) (body : PlainStatements) (sc : TypeScope) →
    length (sorts_of parameters body sc) ≡ length (scopes_of parameters body)
as_many parameters body sc =
    both (parameter_sorts parameters sc) (sorts body sc)
    (map (λ (p : Labelled Bytes). lives.scope p.name body) parameters) (scopes body)
    (mapped _ (λ (p : Labelled Bytes). lives.scope p.name body) parameters) (block_length body sc)
