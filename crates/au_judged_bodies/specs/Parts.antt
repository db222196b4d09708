-- What holds of each expression of a body, in its scope, and of each name that the body declares.
use Rattle.std.specs.Prelude.{ℕ, ◌+◌, List, [], ◌∷◌, length, Option, Some}
use Rattle.au_meaning.specs.Expressions.{note_of}
use Rattle.au_meaning.specs.Names.{Scope, bound_name, mode_of, names_in, names_in_block, names_in_tests}
use Rattle.au_meaning.specs.Names.{variable_of, with_bound, with_name, with_reference}
use Rattle.au_meaning.specs.Statements.{after, fields_noted, fields_told, with_counter}
use Rattle.au_meaning.specs.Views.{Field, View}
use Rattle.au_syntax.specs.Expressions.{Expression}
use Rattle.au_syntax.specs.Plain.{Bytes}
use Rattle.au_syntax.specs.Types.{Bound}
use Rattle.au_syntax.specs.Statements.{Statement, Statements, Branches, Arms, skip, declare, destructure}
use Rattle.au_syntax.specs.Statements.{assign, assign_through, conditional, conditional_else, case_of}
use Rattle.au_syntax.specs.Statements.{while_loop, for_loop, borrow_in, borrow_typed, discard, return_of}
use Rattle.au_syntax.specs.Statements.{no_statements, statements, no_branches, branches, no_arms, arms}

-- E is said of each expression in its scope; D of each name that is declared, by its number, by the scope
-- before it, and over the block in which it stands.
module _ {I T C : Type 0} (see : View I T C) (E : Scope → Expression Bytes T C → Type 0)
    (D : ℕ → Scope → Bytes → Statements Bytes T C → Type 0) where
  -- of parameters, from a number on
  abbrev pub EachParameter : ℕ → Scope → List Field → Statements Bytes T C → Type 0
  EachParameter number scope [] block = Unit {0}
  EachParameter number scope (p ∷ rest) block =
      D number scope p.name block
      × EachParameter (number + 1) (with_name p.name number (Some p.of) scope) rest block

  -- of names to which fields are bound
  abbrev pub EachBound : Option (List Field) → ℕ → Scope → List (Bound Bytes) → Statements Bytes T C → Type 0
  EachBound fields number scope [] block = Unit {0}
  EachBound fields number scope (b ∷ rest) block =
      D number scope (bound_name b.name) block
      × EachBound fields (number + 1) (with_bound fields number (b ∷ []) scope) rest block

  -- of the names that a statement declares for the rest of its block
  abbrev pub Declares : ℕ → Scope → Statement Bytes T C → Statements Bytes T C → Type 0
  Declares number scope (declare at binding x t e) rest = D number scope x.name rest
  Declares number scope (destructure at binds e) rest =
      EachBound (fields_noted see (note_of e)) number scope binds rest
  Declares number scope other rest = Unit {0}

  abbrev mutual
    -- in a statement
    pub Each : ℕ → Scope → Statement Bytes T C → Type 0
    Each number scope (skip at) = Unit {0}
    Each number scope (declare at binding x t e) = E scope e
    Each number scope (destructure at binds e) = E scope e
    Each number scope (assign at x fields e) = E scope e
    Each number scope (assign_through at r fields e) = E scope e
    Each number scope (conditional at tests) = EachTest number scope tests
    Each number scope (conditional_else at tests block) =
        EachTest number scope tests × EachIn (number + names_in_tests tests) scope block
    Each number scope (case_of at e all) = E scope e × EachArm number scope (note_of e) all
    Each number scope (while_loop at e block) = E scope e × EachIn number scope block
    Each number scope (for_loop at x first last block) =
        E scope first × E scope last × D number scope x.name block
        × EachIn (number + 1) (with_counter see number x.name first scope) block
    Each number scope (borrow_in at access x r region block stop) =
        D number scope r.name block
        × EachIn (number + 1) (with_reference (mode_of access) (variable_of scope x.name) number r.name scope)
        block
    Each number scope (borrow_typed at r t m x block stop) =
        D number scope r.name block
        × EachIn (number + 1) (with_reference m (variable_of scope x.name) number r.name scope) block
    Each number scope (discard at e) = E scope e
    Each number scope (return_of at e) = E scope e

    -- in statements one after another
    pub EachIn : ℕ → Scope → Statements Bytes T C → Type 0
    EachIn number scope no_statements = Unit {0}
    EachIn number scope (statements s rest) =
        Each number scope s × Declares number scope s rest
        × EachIn (number + names_in s) (after see number s scope) rest

    -- in the branches of a conditional
    pub EachTest : ℕ → Scope → Branches Bytes T C → Type 0
    EachTest number scope no_branches = Unit {0}
    EachTest number scope (branches e block rest) =
        E scope e × EachIn number scope block × EachTest (number + names_in_block block) scope rest

    -- in the arms of a case, whichever case of the type the name of each means
    pub EachArm : ℕ → Scope → T → Arms Bytes T C → Type 0
    EachArm number scope note no_arms = Unit {0}
    EachArm number scope note (arms at name binds block rest) =
        ((tag : ℕ)
        → EachBound (fields_told see note tag) number scope binds block
        × EachIn (number + length binds) (with_bound (fields_told see note tag) number binds scope) block)
        × EachArm (number + (length binds + names_in_block block)) scope note rest
