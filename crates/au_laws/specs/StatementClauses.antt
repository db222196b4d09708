-- The clauses of statements, in the order in which they are judged.
use Rattle.std.specs.Prelude.{List, [], ◌∷◌, Option, not}
use Rattle.au_syntax.specs.declared.expressions.BorrowMode.{BorrowMode}
use Rattle.au_syntax.specs.Names.{Placed}
use Rattle.au_syntax.specs.Plain.{Bytes}
use Rattle.au_syntax.specs.Types.{Bound, WrittenType, named, reference}
use Rattle.au_types.specs.declared.types.Region.TheVariants as regions
use Rattle.au_types.specs.Same.{same}
use Rattle.au_types.specs.Types.{Meaning}
use Rattle.au_judged_types.specs.Judging.{refers}
use Rattle.au_judged_types.specs.Reasons.{Outcome, means, fails}
use Rattle.au_typing.specs.Scopes.{Case, Scope, Typed}
use Rattle.au_typing.specs.Faults.{why, unknown, different, not_free, reason_why, shape, record_wanted}
use Rattle.au_typing.specs.Faults.{union_wanted, reference_wanted, write_reference_wanted, integer_wanted}
use Rattle.au_typing.specs.Faults.{assignable_wanted, labels_wanted, arms_wanted}
use Rattle.au_typing.specs.Lookups.{is_free_in, type_of_name, value_type, variable_of, written_means}
use Rattle.au_typing.specs.Notes.{NotedExpression, type_of}
use Rattle.au_typing.specs.Rules.{is_integer}
use Rattle.au_typing.specs.Parts.{ArmHead, arms_fit, binds_each, borrow_type, case_of_arm, cases_told}
use Rattle.au_typing.specs.Parts.{is_borrowed_within, lent}
use Rattle.au_typing.specs.DerivationSearch.{not_assignable, not_writing, written_through}
use Rattle.au_laws.specs.Clauses.{Clause, broken, must, must_be}
use Rattle.au_laws.specs.NodeClauses.{of_one_type, of_part}

-- a written type is well formed, and the clauses behind speak of what it means
abbrev pub formed : Outcome Meaning → (Meaning → List Clause) → List Clause
formed (means t) rest = rest t
formed (fails reason) rest = broken (why (reason_why reason))

-- two noted bounds of a `for`
abbrev pub of_bounds : NotedExpression → NotedExpression → List Clause
of_bounds x y = of_one_type x y (must (is_integer (type_of x)) (shape integer_wanted) [])

module _ (sc : Scope) where
  -- ---- fields that are bound

  -- the type that is written with a bound field is the field's
  abbrev pub of_bound : List Typed → Bound Bytes → List Clause → List Clause
  of_bound fields b rest =
      must_be (shape labels_wanted) (type_of_name b.name.name.name fields)
      (λ field. formed (written_means sc b.of) (λ of. must (same field of) (different field of) rest))

  abbrev pub of_all_bound : List Typed → List (Bound Bytes) → List Clause → List Clause
  of_all_bound fields [] rest = rest
  of_all_bound fields (b ∷ more) rest = of_bound fields b (of_all_bound fields more rest)

  -- all labels come before the written types
  abbrev pub of_binds : List Typed → List (Bound Bytes) → List Clause → List Clause
  of_binds fields binds rest =
      must (binds_each fields binds) (shape labels_wanted) (of_all_bound fields binds rest)

  -- a destructuring `let` of a value of this type
  abbrev pub of_taken : List (Bound Bytes) → Meaning → List Clause
  of_taken binds t =
      must_be (shape record_wanted) (sc.outside.fields t) (λ fields. of_binds fields binds [])

  -- ---- places that are assigned to

  -- what is assigned is Free
  abbrev pub of_free : Meaning → List Clause
  of_free t = must (is_free_in sc t) (not_free t) []

  -- a variable of this type, or a part of it
  abbrev pub of_place : Meaning → List (Placed Bytes) → List Clause
  of_place t [] = of_free t
  of_place t (field ∷ fields) = of_part sc t (field ∷ fields) of_free

  -- a variable that `var` declares, or a part of one
  abbrev pub of_assigned : Bytes → List (Placed Bytes) → List Clause
  of_assigned x path =
      must_be (not_assignable x (value_type sc x)) (variable_of sc x)
      (λ one. must one.assignable (shape assignable_wanted) (of_place one.of path))

  -- a part behind a write reference
  abbrev pub of_put : Bytes → List (Placed Bytes) → List Clause
  of_put r path =
      must_be (not_writing r (value_type sc r)) (variable_of sc r)
      (λ one. must_be (shape write_reference_wanted) (written_through one.of)
      (λ to. of_part sc to path of_free))

  -- ---- `case`

  -- the names of the arms, of which each means something
  abbrev pub of_names : List ArmHead → List Clause → List Clause
  of_names [] rest = rest
  of_names (head ∷ more) rest =
      must_be (unknown head.name) (sc.outside.target head.name) (λ target. of_names more rest)

  -- an arm is for a case, and binds its fields
  abbrev pub of_arm : List Case → ArmHead → List Clause → List Clause
  of_arm cases head rest =
      must_be (shape arms_wanted) (case_of_arm sc cases head) (λ one. of_binds one.fields head.binds rest)

  abbrev pub of_arms : List Case → List ArmHead → List Clause
  of_arms cases [] = []
  of_arms cases (head ∷ more) = of_arm cases head (of_arms cases more)

  -- a `case` over this type: all names come before the set of arms, and that before each arm
  abbrev pub of_case : List ArmHead → Meaning → List Clause
  of_case heads t =
      must (not (is_borrowed_within t)) (shape union_wanted)
      (must_be (shape union_wanted) (cases_told sc t)
      (λ cases. of_names heads (must (arms_fit sc cases heads) (shape arms_wanted) (of_arms cases heads))))

  -- ---- borrow statements

  -- what is borrowed of a variable
  abbrev pub of_lent : BorrowMode → Bytes → (Meaning → List Clause) → List Clause
  of_lent mode x rest =
      must_be (unknown x) (variable_of sc x)
      (λ one. must_be (shape write_reference_wanted) (lent mode one.of) rest)

  -- a reference that is written into a region
  abbrev pub of_reference : WrittenType → (Bytes → Meaning → List Clause) → List Clause
  of_reference (reference at access target name) rest =
      formed (written_means sc target) (λ to. rest name.name (refers access to (regions.Named name.name)))
  of_reference (named name args) rest =
      formed (written_means sc (named name args)) (λ of. broken (why (shape reference_wanted)))

  -- a borrow statement with a written type: its variable comes first, and then that type
  abbrev pub of_borrow_into : WrittenType → BorrowMode → Bytes → List Clause
  of_borrow_into t mode x =
      of_lent mode x (λ lends. of_reference t (λ region of.
      must (same (borrow_type mode region lends) of) (different (borrow_type mode region lends) of) []))
