-- Where variables live: the slot of each declaration of a function is that of its number. A place of the
-- meaning names a variable by its number, and one of the machine by its slot.
use Rattle.std.specs.Prelude.{◌≡◌, ℕ, ◌+◌, List, [], ◌∷◌, length, Some}
use Rattle.au_type_texts.specs.Types.{ClosedType}
use Rattle.au_meaning.specs.Expressions.{note_of}
use Rattle.au_meaning.specs.Names.{names_in, names_in_block, names_in_tests, field_of}
use Rattle.au_meaning.specs.Views.{Field, Function, View}
use Rattle.au_syntax.specs.Plain.{Bytes}
use Rattle.au_syntax.specs.Statements.{Statement, Statements, Branches, Arms, declare, destructure}
use Rattle.au_syntax.specs.Statements.{conditional, conditional_else, case_of, while_loop, for_loop}
use Rattle.au_syntax.specs.Statements.{borrow_in, borrow_typed, no_statements, statements, no_branches}
use Rattle.au_syntax.specs.Statements.{branches, no_arms, arms}
use Rattle.au_syntax.specs.Types.{Bound}
use Rattle.au_lowered.specs.Slots.{fields_in, fields_of_case, kept}

-- by the slot of each number
module _ (slot_of : ℕ → ℕ) where
  -- parameters, of which the first has this number and this slot
  abbrev pub ParametersHomed : ℕ → ℕ → List Field → Type 0
  ParametersHomed number slot [] = Unit {0}
  ParametersHomed number slot (p ∷ rest) =
      (slot_of number ≡ slot) × ParametersHomed (number + 1) (slot + 1) rest

  -- variables that fields are bound to, of which the first has this number, and of the fields the first has
  -- this slot
  abbrev pub BindsHomed : List Field → ℕ → ℕ → List (Bound Bytes) → Type 0
  BindsHomed fields number slot [] = Unit {0}
  BindsHomed fields number slot (b ∷ rest) =
      ((one : ℕ × ClosedType) → field_of b.name.name.name fields ≡ Some one → slot_of number ≡ slot + one.0)
      × BindsHomed fields (number + 1) slot rest

  module _ {I T C : Type 0} (see : View I T C) where
    abbrev mutual
      -- what is declared in a statement, where the next number and the next slot are these
      pub Homed : ℕ → ℕ → Statement Bytes T C → Type 0
      Homed number slot (declare at binding name t e) = slot_of number ≡ slot
      Homed number slot (destructure at binds e) = BindsHomed (fields_in see (note_of e)) number slot binds
      Homed number slot (conditional at tests) = TestsHomed number slot tests
      Homed number slot (conditional_else at tests block) =
          TestsHomed number slot tests × BlockHomed (number + names_in_tests tests) slot block
      Homed number slot (case_of at e all) = ArmsHomed number slot (note_of e) all
      Homed number slot (while_loop at e block) = BlockHomed number slot block
      Homed number slot (for_loop at name first last block) =
          (slot_of number ≡ slot + 2) × BlockHomed (number + 1) (slot + 3) block
      Homed number slot (borrow_in at access x r region block stop) =
          (slot_of number ≡ slot) × BlockHomed (number + 1) (slot + 1) block
      Homed number slot (borrow_typed at r t mode x block stop) =
          (slot_of number ≡ slot) × BlockHomed (number + 1) (slot + 1) block
      Homed number slot other = Unit {0}

      -- in a block
      pub BlockHomed : ℕ → ℕ → Statements Bytes T C → Type 0
      BlockHomed number slot no_statements = Unit {0}
      BlockHomed number slot (statements s rest) =
          Homed number slot s × BlockHomed (number + names_in s) (slot + kept see s) rest

      -- in the branches of a conditional
      pub TestsHomed : ℕ → ℕ → Branches Bytes T C → Type 0
      TestsHomed number slot no_branches = Unit {0}
      TestsHomed number slot (branches e block rest) =
          BlockHomed number slot block × TestsHomed (number + names_in_block block) slot rest

      -- in the arms of a case, of a value that has this note
      pub ArmsHomed : ℕ → ℕ → T → Arms Bytes T C → Type 0
      ArmsHomed number slot note no_arms = Unit {0}
      ArmsHomed number slot note (arms at name binds block rest) =
          BindsHomed (fields_of_case see note name.name) number slot binds
          × BlockHomed (number + length binds) (slot + length (fields_of_case see note name.name)) block
          × ArmsHomed (number + (length binds + names_in_block block)) slot note rest

  -- in a function
  abbrev pub FunctionHomed : {I T C : Type 0} → Function I T C → Type 0
  FunctionHomed f =
      ParametersHomed f.first 0 f.parameters
      × BlockHomed f.view (f.first + length f.parameters) (length f.parameters) f.body
