-- The sorts of a derived body are those of the types that its variables have in scope.
use Rattle.std.proofs.Common.{◌≡◌, List, [], ◌∷◌, ◌++◌, refl, sym, ap, ◌∙◌, Some}
use Rattle.au_base.proofs.ListLemmas.{both_appended}
use Rattle.au_lives.specs.declared.lives.Sort.TheVariants as asks
use Rattle.au_lives.specs.Paths as lives
use Rattle.au_typing.specs.Scopes.{Scope, Case, Variable}
use Rattle.au_syntax.specs.declared.types.Access.{Access}
use Rattle.au_syntax.specs.declared.expressions.BorrowMode.{BorrowMode}
use Rattle.au_syntax.specs.declared.expressions.BorrowMode.TheVariants as modes
use Rattle.au_syntax.specs.declared.types.Access.TheVariants as access
use Rattle.au_syntax.specs.Plain.{Bytes}
use Rattle.au_syntax.specs.Statements.{skip, declare, destructure, assign, assign_through, conditional}
use Rattle.au_syntax.specs.Statements.{conditional_else, case_of, while_loop, for_loop, borrow_in}
use Rattle.au_syntax.specs.Statements.{borrow_typed, discard, return_of, no_statements, statements}
use Rattle.au_syntax.specs.Statements.{no_branches, branches, no_arms, arms}
use Rattle.au_syntax.specs.Types.{WrittenType, named, reference}
use Rattle.au_types.specs.declared.types.Region.TheVariants as regions
use Rattle.au_types.specs.Types.{Meaning}
use Rattle.au_types.proofs.SameLemmas.{same_is}
use Rattle.au_typing.specs.Notes.{type_of}
use Rattle.au_typing.specs.InScope.{after, fixed_variable, with_bound, with_reference, with_variable}
use Rattle.au_typing.specs.Parts.{access_of, borrow_type, mode_for, heads_of}
use Rattle.au_typing.specs.Statements.{GoodArms, GoodStatement, GoodBlock, GoodBranches, GoodArmBlocks}
use Rattle.au_typing.specs.Statements.{GoodBorrow, IsReference}
use Rattle.au_typing.specs.Trees.{NotedStatement, NotedStatements, NotedBranches, NotedArms, erase_statement}
use Rattle.au_typing.specs.Trees.{erase_block, erase_branches, erase_arms}
use Rattle.au_laws.specs.Derived.{asked_in, types_in, sorts_beyond, derived_sorts, derived_inside}
use Rattle.au_laws.specs.Derived.{derived_branches, derived_arms}
use Rattle.au_program_lives.specs.Scopes.{opened_by, opened_in}
use Rattle.au_program_lives.specs.Sorts.{reference_sort, region_written, bound_sorts, sorts_after, sorts}
use Rattle.au_program_lives.specs.Sorts.{sorts_inside, sorts_of_branches, sorts_of_arms}
use Rattle.au_laws.proofs.DeclaredLemmas.{Declares, beyond, one_more, bound_declares, after_declares}
use Rattle.au_laws.proofs.DeclaredLemmas.{integer_asks, reference_asks, reference_beyond}

-- the two words for the access of a borrow are one
one_access : (mode : BorrowMode) → lives.access_of mode ≡ access_of mode
one_access modes.Read = refl
one_access modes.Write = refl
one_access modes.Reborrow = refl

same_access : (kind : Access) → access_of (mode_for kind) ≡ kind
same_access access.Read = refl
same_access access.Write = refl

-- the reference of a borrow asks what its access does
borrow_asks : (sc : Scope) (mode : BorrowMode) (region : Bytes) (of : Meaning) →
    reference_sort (access_of mode) ≡ asked_in sc (borrow_type mode region of)
borrow_asks sc mode region of = reference_asks sc (access_of mode) of (regions.Named region)

-- a written reference has the region of the borrow
region_is : (sc : Scope) (t : WrittenType) (region : Bytes) (of : Meaning) → IsReference sc t region of →
    region_written t ≡ Some region
region_is sc (reference at access target name) region of is = ap Some is.2
region_is sc (named name args) region of is = absurd is

module _ (sc : Scope) (t : WrittenType) (mode : BorrowMode) (x region : Bytes) (of : Meaning)
    (good : GoodBorrow sc t mode x region of) where
  typed_asks : reference_sort (lives.access_of mode) ≡ asked_in sc of
  typed_asks =
      ap reference_sort (one_access mode) ∙ borrow_asks sc mode region good.lends
      ∙ ap (asked_in sc) (same_is (borrow_type mode region good.lends) of good.is_same)

  typed_opens : opened_by (region_written t) (types_in sc) ≡ opened_in region (types_in sc)
  typed_opens = ap (λ o. opened_by o (types_in sc)) (region_is sc t region of good.written)

mutual
  pub block_derived : (b : NotedStatements) (sc : Scope) (good : GoodBlock b sc) →
      sorts (erase_block b) (types_in sc) ≡ derived_sorts b sc good
  block_derived no_statements sc good = refl
  block_derived (statements s rest) sc good =
      let d : Declares sc sc.variables (after s sc) (sorts_after (erase_statement s) (types_in sc)) =
      after_declares s sc good.0 in
      both_appended (sorts_after (erase_statement s) (types_in sc))
      (sorts_inside (erase_statement s) (types_in sc) ++ sorts (erase_block rest) (types_in sc))
      (sorts_beyond (after s sc) sc) (derived_inside s sc good.0 ++ derived_sorts rest (after s sc) good.2)
      (sym (beyond sc (after s sc) (sorts_after (erase_statement s) (types_in sc)) d))
      (both_appended (sorts_inside (erase_statement s) (types_in sc)) (sorts (erase_block rest) (types_in sc))
      (derived_inside s sc good.0) (derived_sorts rest (after s sc) good.2)
      (inside_derived s sc good.0)
      (ap (sorts (erase_block rest)) (sym (ap types_in d.is)) ∙ block_derived rest (after s sc) good.2))

  inside_derived : (s : NotedStatement) (sc : Scope) (good : GoodStatement s sc) →
      sorts_inside (erase_statement s) (types_in sc) ≡ derived_inside s sc good
  inside_derived (skip at) sc good = refl
  inside_derived (declare at binding name t e) sc good = refl
  inside_derived (destructure at binds e) sc good = refl
  inside_derived (assign at x path e) sc good = refl
  inside_derived (assign_through at r path e) sc good = refl
  inside_derived (conditional at tests) sc good = branches_derived tests sc good
  inside_derived (conditional_else at tests block) sc good =
      both_appended (sorts_of_branches (erase_branches tests) (types_in sc))
      (sorts (erase_block block) (types_in sc))
      (derived_branches tests sc good.0) (derived_sorts block sc good.1)
      (branches_derived tests sc good.0) (block_derived block sc good.1)
  inside_derived (case_of at e all) sc good = arms_derived all sc good.0.cases good.0.good good.1
  inside_derived (while_loop at e block) sc good = block_derived block sc good.1
  inside_derived (for_loop at name first last block) sc good =
      let one : Variable = fixed_variable name.name (type_of first) in
      let inner : Scope = with_variable one sc in
      both_appended (asks.Free ∷ []) (sorts (erase_block block) (types_in sc)) (sorts_beyond inner sc)
      (derived_sorts block inner good.1)
      (sym (beyond sc inner (asks.Free ∷ [])
      (one_more sc one asks.Free (integer_asks sc (type_of first) good.0.integer))))
      (block_derived block inner good.1)
  inside_derived (borrow_in at kind x r region block stop) sc good =
      let of : Meaning = borrow_type (mode_for kind) region.name good.0 in
      let one : Variable = fixed_variable r.name of in
      let inner : Scope = with_reference r.name region.name of sc in
      both_appended (reference_sort kind ∷ [])
      (sorts (erase_block block) (opened_in region.name (types_in sc)))
      (sorts_beyond inner sc) (derived_sorts block inner good.2)
      (sym (reference_beyond sc r.name region.name of (reference_sort kind)
      (ap reference_sort (sym (same_access kind)) ∙ borrow_asks sc (mode_for kind) region.name good.0)))
      (block_derived block inner good.2)
  inside_derived (borrow_typed at r t mode x block stop) sc good =
      let inner : Scope = with_reference r.name good.0 good.1 sc in
      both_appended (reference_sort (lives.access_of mode) ∷ [])
      (sorts (erase_block block) (opened_by (region_written t) (types_in sc)))
      (sorts_beyond inner sc) (derived_sorts block inner good.3)
      (sym (reference_beyond sc r.name good.0 good.1 (reference_sort (lives.access_of mode))
      (typed_asks sc t mode x.name good.0 good.1 good.2)))
      (ap (sorts (erase_block block)) (typed_opens sc t mode x.name good.0 good.1 good.2)
      ∙ block_derived block inner good.3)
  inside_derived (discard at e) sc good = refl
  inside_derived (return_of at e) sc good = refl

  branches_derived : (all : NotedBranches) (sc : Scope) (good : GoodBranches all sc) →
      sorts_of_branches (erase_branches all) (types_in sc) ≡ derived_branches all sc good
  branches_derived no_branches sc good = refl
  branches_derived (branches e block rest) sc good =
      both_appended (sorts (erase_block block) (types_in sc))
      (sorts_of_branches (erase_branches rest) (types_in sc))
      (derived_sorts block sc good.1) (derived_branches rest sc good.2)
      (block_derived block sc good.1) (branches_derived rest sc good.2)

  arms_derived : (all : NotedArms) (sc : Scope) (cases : List Case) (heads : GoodArms sc cases (heads_of all))
      (good : GoodArmBlocks all sc) →
      sorts_of_arms (erase_arms all) (types_in sc) ≡ derived_arms all sc good
  arms_derived no_arms sc cases heads good = refl
  arms_derived (arms at n binds block rest) sc cases heads good =
      let inner : Scope = with_bound binds sc in
      let d : Declares sc sc.variables inner (bound_sorts binds (types_in sc)) =
      bound_declares sc heads.0.one.fields binds heads.0.bound sc.variables in
      both_appended (bound_sorts binds (types_in sc))
      (sorts (erase_block block) (types_in sc) ++ sorts_of_arms (erase_arms rest) (types_in sc))
      (sorts_beyond inner sc) (derived_sorts block inner good.0 ++ derived_arms rest sc good.1)
      (sym (beyond sc inner (bound_sorts binds (types_in sc)) d))
      (both_appended (sorts (erase_block block) (types_in sc)) (sorts_of_arms (erase_arms rest) (types_in sc))
      (derived_sorts block inner good.0) (derived_arms rest sc good.1)
      (ap (sorts (erase_block block)) (sym (ap types_in d.is)) ∙ block_derived block inner good.0)
      (arms_derived rest sc cases heads.1 good.1))
