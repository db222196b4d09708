-- What statements are asked besides the rules of typing: nothing is consumed where it may be left out, the
-- region of a borrow statement is new, a name is dropped only where its type allows it, it holds what it may,
-- and arguments are of types that may be handed on.
use Rattle.std.specs.Prelude.{◌≡◌, ◌⊎◌, ℕ, suc, ◌+◌, Bool, true, false, List, [], ◌∷◌, length, None, Ok}
use Rattle.std.specs.List.{list_any}
use Rattle.std.specs.Str.{bytes_eq}
use Rattle.au_syntax.specs.Plain.{Bytes}
use Rattle.au_syntax.specs.Statements.{skip, declare, destructure, assign, assign_through, conditional}
use Rattle.au_syntax.specs.Statements.{conditional_else, case_of, while_loop, for_loop, borrow_in}
use Rattle.au_syntax.specs.Statements.{borrow_typed, discard}
use Rattle.au_syntax.specs.Statements.{return_of, no_statements, statements, no_branches, branches, no_arms}
use Rattle.au_syntax.specs.Statements.{arms}
use Rattle.au_syntax.specs.Types.{Bound}
use Rattle.au_types.specs.declared.types.Region.{Region}
use Rattle.au_types.specs.Types.{Meaning, writes}
use Rattle.au_types.specs.Universes.{universe_in}
use Rattle.au_typing.specs.InScope.{after, fixed_variable, with_bound, with_reference, with_variable}
use Rattle.au_typing.specs.Lookups.{is_free_in, parameters_in, written_type}
use Rattle.au_typing.specs.Notes.{Note, type_of}
use Rattle.au_typing.specs.Parts.{borrow_type, mode_for}
use Rattle.au_typing.specs.Scopes.{Scope}
use Rattle.au_typing.specs.Statements.{GoodBorrow, IsLent}
use Rattle.au_typing.specs.Trees.{NotedArms, NotedBranches, NotedStatement, NotedStatements}
use Rattle.au_meaning.specs.Expressions.{note_of}
use Rattle.au_meaning.specs.Names as meaning
use Rattle.au_meaning.specs.Statements as meant
use Rattle.au_meaning.specs.Views.{View}
use Rattle.au_judged_bodies.specs.TypedRunsLaws.{Keeps}

-- a region is new: it is none that is open, and no type parameter
abbrev pub IsNewRegion : Scope → Bytes → Type 0
IsNewRegion sc region =
    (list_any (bytes_eq region) sc.regions ≡ false) × (universe_in (parameters_in sc) region ≡ None)

-- by which names are dropped in the end, and which types names may hold
module _ {I : Type 0} (see : View I Note (Unit {0})) (loose : ℕ → Bool) (may_hold : Meaning → Type 0) where
  -- A name of a type is dropped only where this is Free, or one of references that write, and it may hold
  -- values of the type.
  abbrev pub IsFineIn : Scope → ℕ → Meaning → Type 0
  IsFineIn sc number t =
      (loose number ≡ true → (is_free_in sc t ≡ true) ⊎
      ((of : Meaning) × (region : Region) × (t ≡ writes of region)))
      × may_hold t

  -- so it is of fields that are bound by names from one on
  abbrev pub AreFineIn : Scope → ℕ → List (Bound Bytes) → Type 0
  AreFineIn sc number [] = Unit {0}
  AreFineIn sc number (b ∷ rest) =
      ((of : Meaning) → written_type sc b.of ≡ Ok of → IsFineIn sc number of)
      × AreFineIn sc (suc number) rest

-- and which types may be handed on as arguments
module _ {I : Type 0} (see : View I Note (Unit {0})) (loose : ℕ → Bool)
    (may_hold may_hand : Meaning → Type 0) where
  abbrev mutual
    pub Besides : ℕ → Scope → meaning.Scope → NotedStatement → Type 0
    Besides number sc scope (skip at) = Unit {0}
    Besides number sc scope (declare at binding x t e) =
        Keeps see may_hand scope e
        × ((of : Meaning) → written_type sc t ≡ Ok of → IsFineIn see loose may_hold sc number of)
    Besides number sc scope (destructure at binds e) =
        Keeps see may_hand scope e × AreFineIn see loose may_hold sc number binds
    Besides number sc scope (assign at x fields e) = Keeps see may_hand scope e
    Besides number sc scope (assign_through at r fields e) = Keeps see may_hand scope e
    Besides number sc scope (conditional at tests) = BesidesTests number sc scope tests
    Besides number sc scope (conditional_else at tests block) =
        BesidesTests number sc scope tests × BesidesAll (number + meaning.names_in_tests tests) sc scope block
    Besides number sc scope (case_of at e all) = Keeps see may_hand scope e
        × BesidesArms number sc scope (note_of e) all
    Besides number sc scope (while_loop at e block) =
        Keeps see may_hand scope e × BesidesAll number sc scope block
    Besides number sc scope (for_loop at name first last block) =
        Keeps see may_hand scope first × Keeps see may_hand scope last
        × (may_hold (type_of first)
        → BesidesAll (number + 1) (with_variable (fixed_variable name.name (type_of first)) sc)
        (meant.with_counter see number name.name first scope) block)
    Besides number sc scope (borrow_in at access x r region block stop) =
        IsNewRegion sc region.name × ((of : Meaning) → IsLent sc (mode_for access) x.name of
        → may_hold (borrow_type (mode_for access) region.name of)
        × BesidesAll (number + 1)
        (with_reference r.name region.name (borrow_type (mode_for access) region.name of) sc)
        (meaning.with_reference (meaning.mode_of access) (meaning.variable_of scope x.name) number r.name
        scope) block)
    Besides number sc scope (borrow_typed at r t mode x block stop) =
        (region : Bytes) (of : Meaning) → GoodBorrow sc t mode x.name region of
        → IsNewRegion sc region × may_hold of × BesidesAll (number + 1) (with_reference r.name region of sc)
        (meaning.with_reference mode (meaning.variable_of scope x.name) number r.name scope) block
    Besides number sc scope (discard at e) = Keeps see may_hand scope e
    Besides number sc scope (return_of at e) = Keeps see may_hand scope e

    pub BesidesAll : ℕ → Scope → meaning.Scope → NotedStatements → Type 0
    BesidesAll number sc scope no_statements = Unit {0}
    BesidesAll number sc scope (statements st rest) =
        Besides number sc scope st
        × BesidesAll (number + meaning.names_in st) (after st sc) (meant.after see number st scope) rest

    pub BesidesTests : ℕ → Scope → meaning.Scope → NotedBranches → Type 0
    BesidesTests number sc scope no_branches = Unit {0}
    BesidesTests number sc scope (branches e block rest) =
        Keeps see may_hand scope e × BesidesAll number sc scope block
        × BesidesTests (number + meaning.names_in_block block) sc scope rest

    -- an arm is asked so for whichever case of a number it is
    pub BesidesArms : ℕ → Scope → meaning.Scope → Note → NotedArms → Type 0
    BesidesArms number sc scope note no_arms = Unit {0}
    BesidesArms number sc scope note (arms at name binds block rest) =
        AreFineIn see loose may_hold sc number binds
        × ((tag : ℕ) → BesidesAll (number + length binds) (with_bound binds sc)
        (meaning.with_bound (meant.fields_told see note tag) number binds scope) block)
        × BesidesArms (number + (length binds + meaning.names_in_block block)) sc scope note rest
