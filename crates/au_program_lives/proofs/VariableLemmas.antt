-- The variables that a walk meets are the scopes of a function, each with the sort that stands at its place.
use Rattle.std.proofs.Common.{◌≡◌, List, [], ◌∷◌, ◌++◌, map, refl, sym, ap, ◌∙◌}
use Rattle.std.proofs.lemmas.List.{map-append}
use Rattle.au_linear.specs.Telling.{sorted}
use Rattle.au_lives.specs.declared.lives.Sort.{Sort}
use Rattle.au_lives.specs.declared.lives.Sort.TheVariants as asks
use Rattle.au_lives.specs.Paths.{access_of, bound_name}
use Rattle.au_lives.specs.Refusals.{Variable}
use Rattle.au_lives.specs.Scopes as lives
use Rattle.au_lives.specs.Scopes.{Scope, scope, scopes, scopes_after, scopes_inside, scopes_of}
use Rattle.au_lives.specs.Scopes.{scopes_of_arms, scopes_of_branches}
use Rattle.au_program_lives.specs.Variables.{bound_over, parameters_over, variable_over, variables_after}
use Rattle.au_program_lives.specs.Variables.{variables_in, variables_in_arms, variables_in_branches}
use Rattle.au_program_lives.specs.Variables.{variables_inside, variables_of}
use Rattle.au_program_lives.specs.Scopes.{TypeScope, opened_by, opened_in}
use Rattle.au_program_lives.specs.Sorts.{bound_sorts, parameter_sorts, reference_sort, region_written, sorts}
use Rattle.au_program_lives.specs.Sorts.{sorts_after, sorts_inside, sorts_of, sorts_of_arms, sorts_of_branches}
use Rattle.au_program_lives.specs.Sorts.{written_sort}
use Rattle.au_syntax.specs.Names.{Placed}
use Rattle.au_syntax.specs.Plain.{Bytes, PlainStatement, PlainStatements, PlainBranches, PlainArms}
use Rattle.au_syntax.specs.Statements.{skip, declare, destructure, assign, assign_through, conditional}
use Rattle.au_syntax.specs.Statements.{conditional_else, case_of, while_loop, for_loop, borrow_in}
use Rattle.au_syntax.specs.Statements.{borrow_typed, discard, return_of, no_statements, statements}
use Rattle.au_syntax.specs.Statements.{no_branches, branches, no_arms, arms}
use Rattle.au_syntax.specs.Types.{Bound, Labelled}

-- ---- scopes and sorts beside each other

abbrev scope_in : Variable → Scope
scope_in v = v.scope

abbrev sort_in : Variable → Sort
sort_in v = v.sort

-- scopes and sorts in the same order are those of variables
record Join (ss : List Scope) (given : List Sort) (vs : List Variable) : Type 0 where
  are : ss ≡ map scope_in vs
  ask : given ≡ map sort_in vs

none : Join [] [] []
none = record { are = refl; ask = refl }

one_more : {ss : List Scope} {given : List Sort} {vs : List Variable} (b : PlainStatements)
    (name : Placed Bytes) (sort : Sort) → Join ss given vs →
    Join (scope name b ∷ ss) (sort ∷ given) (variable_over b name sort ∷ vs)
one_more b name sort j = record {
  are = ap (λ l. scope name b ∷ l) j.are;
  ask = ap (λ l. sort ∷ l) j.ask;
}

mapped : {A B : Type 0} (f : A → B) (xs ys : List A) (one other : List B) →
    one ≡ map f xs → other ≡ map f ys → one ++ other ≡ map f (xs ++ ys)
mapped f xs ys one other p q =
    ap (λ l. l ++ other) p ∙ ap (λ l. map f xs ++ l) q ∙ sym (map-append f xs ys)

both : {ss ts : List Scope} {given more : List Sort} {vs ws : List Variable} →
    Join ss given vs → Join ts more ws → Join (ss ++ ts) (given ++ more) (vs ++ ws)
both {ss} {ts} {given} {more} {vs} {ws} j k = record {
  are = mapped scope_in vs ws ss ts j.are k.are;
  ask = mapped sort_in vs ws given more j.ask k.ask;
}

-- joined by their places they are these variables
sorted_map : (vs : List Variable) → sorted (map scope_in vs) (map sort_in vs) ≡ vs
sorted_map [] = refl
sorted_map (v ∷ vs) = ap (λ l. v ∷ l) (sorted_map vs)

joined : (ss : List Scope) (given : List Sort) (vs : List Variable) → Join ss given vs → sorted ss given ≡ vs
joined ss given vs j = ap (λ l. sorted l given) j.are ∙ ap (sorted (map scope_in vs)) j.ask ∙ sorted_map vs

-- ---- the walk

parameters_join : (body : PlainStatements) (ps : List (Labelled Bytes)) (sc : TypeScope) →
    Join (map (λ (p : Labelled Bytes). scope p.name body) ps) (parameter_sorts ps sc)
    (parameters_over body ps sc)
parameters_join body [] sc = none
parameters_join body (p ∷ ps) sc = one_more body p.name (written_sort sc p.of) (parameters_join body ps sc)

bound_join : (b : PlainStatements) (binds : List (Bound Bytes)) (sc : TypeScope) →
    Join (lives.bound_over binds b) (bound_sorts binds sc) (bound_over b binds sc)
bound_join b [] sc = none
bound_join b (x ∷ binds) sc = one_more b (bound_name x) (written_sort sc x.of) (bound_join b binds sc)

after_join : (s : PlainStatement) (rest : PlainStatements) (sc : TypeScope) →
    Join (scopes_after s rest) (sorts_after s sc) (variables_after s rest sc)
after_join (skip at) rest sc = none
after_join (declare at binding name t e) rest sc = one_more rest name (written_sort sc t) none
after_join (destructure at binds e) rest sc = bound_join rest binds sc
after_join (assign at name fields e) rest sc = none
after_join (assign_through at name fields e) rest sc = none
after_join (conditional at bs) rest sc = none
after_join (conditional_else at bs b) rest sc = none
after_join (case_of at e all) rest sc = none
after_join (while_loop at e b) rest sc = none
after_join (for_loop at name a z b) rest sc = none
after_join (borrow_in at access x r region b stop) rest sc = none
after_join (borrow_typed at r t mode x b stop) rest sc = none
after_join (discard at e) rest sc = none
after_join (return_of at e) rest sc = none

mutual
  block_join : (b : PlainStatements) (sc : TypeScope) → Join (scopes b) (sorts b sc) (variables_in b sc)
  block_join no_statements sc = none
  block_join (statements s rest) sc =
      both (after_join s rest sc) (both (inside_join s sc) (block_join rest sc))

  inside_join : (s : PlainStatement) (sc : TypeScope) →
      Join (scopes_inside s) (sorts_inside s sc) (variables_inside s sc)
  inside_join (skip at) sc = none
  inside_join (declare at binding name t e) sc = none
  inside_join (destructure at binds e) sc = none
  inside_join (assign at name fields e) sc = none
  inside_join (assign_through at name fields e) sc = none
  inside_join (conditional at bs) sc = branches_join bs sc
  inside_join (conditional_else at bs b) sc = both (branches_join bs sc) (block_join b sc)
  inside_join (case_of at e all) sc = arms_join all sc
  inside_join (while_loop at e b) sc = block_join b sc
  inside_join (for_loop at name a z b) sc = one_more b name asks.Free (block_join b sc)
  inside_join (borrow_in at access x r region b stop) sc =
      one_more b r (reference_sort access) (block_join b (opened_in region.name sc))
  inside_join (borrow_typed at r t mode x b stop) sc =
      one_more b r (reference_sort (access_of mode)) (block_join b (opened_by (region_written t) sc))
  inside_join (discard at e) sc = none
  inside_join (return_of at e) sc = none

  branches_join : (bs : PlainBranches) (sc : TypeScope) →
      Join (scopes_of_branches bs) (sorts_of_branches bs sc) (variables_in_branches bs sc)
  branches_join no_branches sc = none
  branches_join (branches e b more) sc = both (block_join b sc) (branches_join more sc)

  arms_join : (all : PlainArms) (sc : TypeScope) →
      Join (scopes_of_arms all) (sorts_of_arms all sc) (variables_in_arms all sc)
  arms_join no_arms sc = none
  arms_join (arms when' name binds b more) sc =
      both (bound_join b binds sc) (both (block_join b sc) (arms_join more sc))

-- ---- a function

pub sorted_is : (parameters : List (Labelled Bytes)) (body : PlainStatements) (sc : TypeScope) →
    sorted (scopes_of parameters body) (sorts_of parameters body sc) ≡ variables_of parameters body sc
sorted_is parameters body sc =
    joined (scopes_of parameters body) (sorts_of parameters body sc) (variables_of parameters body sc)
    (both (parameters_join body parameters sc) (block_join body sc))
