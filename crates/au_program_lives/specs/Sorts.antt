-- What the type of each variable of a function asks of its life, by the types that are written. The variables
-- stand in text order, as those of `scopes_of`.
use Rattle.std.specs.Prelude.{Bool, List, [], ◌∷◌, ◌++◌, map, Option, None, Some, if◌then◌else◌}
use Rattle.au_syntax.specs.declared.types.Access.{Access}
use Rattle.au_syntax.specs.declared.types.Access.TheVariants as access
use Rattle.au_syntax.specs.Plain.{Bytes, PlainStatement, PlainStatements, PlainBranches, PlainArms}
use Rattle.au_syntax.specs.Statements.{skip, declare, destructure, assign, assign_through, conditional}
use Rattle.au_syntax.specs.Statements.{conditional_else, case_of, while_loop, for_loop, borrow_in}
use Rattle.au_syntax.specs.Statements.{borrow_typed, discard, return_of, no_statements, statements}
use Rattle.au_syntax.specs.Statements.{no_branches, branches, no_arms, arms}
use Rattle.au_syntax.specs.Types.{Bound, Labelled, WrittenType, named, reference}
use Rattle.au_types.specs.Types.{Meaning, writes}
use Rattle.au_matching.specs.Universes.{is_free, universe_of}
use Rattle.au_judged_types.specs.Reasons.{Outcome, means, fails}
use Rattle.au_lives.specs.declared.lives.Sort.{Sort}
use Rattle.au_lives.specs.declared.lives.Sort.TheVariants as asks
use Rattle.au_lives.specs.Paths.{access_of}
use Rattle.au_program_lives.specs.Scopes.{TypeScope, meant, opened_in, opened_by}

-- ---- types

-- what a type asks that isn't Free
abbrev pub held_sort : Meaning → Sort
held_sort (writes t region) = asks.WriteReference
held_sort t = asks.Linear

-- whether a type is Free in a scope
abbrev pub is_free_in : TypeScope → Meaning → Bool
is_free_in sc t = is_free (universe_of sc.heads sc.params t)

-- what a type asks in a scope
abbrev pub sort_of : TypeScope → Meaning → Sort
sort_of sc t = if is_free_in sc t then asks.Free else held_sort t

-- what a type asks that is judged; one that isn't well formed stands in no accepted program
abbrev pub judged_sort : TypeScope → Outcome Meaning → Sort
judged_sort sc (means t) = sort_of sc t
judged_sort sc (fails why) = asks.Linear

-- what a written type asks in a scope
abbrev pub written_sort : TypeScope → WrittenType → Sort
written_sort sc t = judged_sort sc (meant sc t)

-- what a reference asks: one that reads is Free
abbrev pub reference_sort : Access → Sort
reference_sort access.Read = asks.Free
reference_sort access.Write = asks.WriteReference

-- ---- regions

-- the region of a written reference
abbrev pub region_written : WrittenType → Option Bytes
region_written (reference at access target region) = Some region.name
region_written (named name args) = None

-- ---- variables

-- those of parameters
abbrev pub parameter_sorts : List (Labelled Bytes) → TypeScope → List Sort
parameter_sorts parameters sc = map (λ (p : Labelled Bytes). written_sort sc p.of) parameters

-- those that are bound to fields
abbrev pub bound_sorts : List (Bound Bytes) → TypeScope → List Sort
bound_sorts binds sc = map (λ (b : Bound Bytes). written_sort sc b.of) binds

-- those that a statement declares for the rest of its block
abbrev pub sorts_after : PlainStatement → TypeScope → List Sort
sorts_after (declare at binding name t e) sc = written_sort sc t ∷ []
sorts_after (destructure at binds e) sc = bound_sorts binds sc
sorts_after s sc = []

abbrev mutual
  -- Those of a block. The variable of a `for` is an integer, and the reference of a borrow statement reads or
  -- writes; inside of the statement its region is in scope.
  pub sorts : PlainStatements → TypeScope → List Sort
  sorts no_statements sc = []
  sorts (statements s more) sc = sorts_after s sc ++ (sorts_inside s sc ++ sorts more sc)

  -- those inside of a statement
  pub sorts_inside : PlainStatement → TypeScope → List Sort
  sorts_inside (skip at) sc = []
  sorts_inside (declare at binding name t e) sc = []
  sorts_inside (destructure at binds e) sc = []
  sorts_inside (assign at name fields e) sc = []
  sorts_inside (assign_through at name fields e) sc = []
  sorts_inside (conditional at bs) sc = sorts_of_branches bs sc
  sorts_inside (conditional_else at bs b) sc = sorts_of_branches bs sc ++ sorts b sc
  sorts_inside (case_of at e all) sc = sorts_of_arms all sc
  sorts_inside (while_loop at e b) sc = sorts b sc
  sorts_inside (for_loop at name a z b) sc = asks.Free ∷ sorts b sc
  sorts_inside (borrow_in at access x r region b stop) sc =
      reference_sort access ∷ sorts b (opened_in region.name sc)
  sorts_inside (borrow_typed at r t mode x b stop) sc =
      reference_sort (access_of mode) ∷ sorts b (opened_by (region_written t) sc)
  sorts_inside (discard at e) sc = []
  sorts_inside (return_of at e) sc = []

  -- those of the blocks of branches
  pub sorts_of_branches : PlainBranches → TypeScope → List Sort
  sorts_of_branches no_branches sc = []
  sorts_of_branches (branches e b more) sc = sorts b sc ++ sorts_of_branches more sc

  -- those of arms
  pub sorts_of_arms : PlainArms → TypeScope → List Sort
  sorts_of_arms no_arms sc = []
  sorts_of_arms (arms when' name binds b more) sc =
      bound_sorts binds sc ++ (sorts b sc ++ sorts_of_arms more sc)

-- those of a function: its parameters, and those that its body declares
abbrev pub sorts_of : List (Labelled Bytes) → PlainStatements → TypeScope → List Sort
sorts_of parameters body sc = parameter_sorts parameters sc ++ sorts body sc
