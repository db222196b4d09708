-- The slots of what a function declares, in the order of its declarations, and one slot for each number of a
-- declaration of a program.
use Rattle.std.specs.Prelude.{◌≡◌, ℕ, ◌+◌, ◌-◌, ◌<◌, ◌≤◌, nat_le, nat_lt, ◌&&◌, List, [], ◌∷◌, ◌++◌}
use Rattle.std.specs.Prelude.{length, map}
use Rattle.std.specs.Prelude.{Option, Some, None, slice_get, slice_index_or, if◌then◌else◌}
use Rattle.au_type_texts.specs.Types.{ClosedType}
use Rattle.au_meaning.specs.Expressions.{note_of}
use Rattle.au_meaning.specs.Names.{field_of}
use Rattle.au_meaning.specs.Views.{Field, Function}
use Rattle.au_syntax.specs.Plain.{Bytes}
use Rattle.au_syntax.specs.Statements.{Statement, Statements, Branches, Arms, skip, declare, destructure}
use Rattle.au_syntax.specs.Statements.{assign, assign_through, conditional, conditional_else, case_of}
use Rattle.au_syntax.specs.Statements.{while_loop, for_loop, borrow_in, borrow_typed, discard, return_of}
use Rattle.au_syntax.specs.Statements.{no_statements, statements, no_branches, branches, no_arms, arms}
use Rattle.au_syntax.specs.Types.{Bound}
use Rattle.au_lowered.specs.Homes.{FunctionHomed}
use Rattle.au_lowered.specs.Slots.{fields_in, fields_of_case}

-- the slots of parameters, of which the first has this one
abbrev pub parameter_homes : ℕ → List Field → List ℕ
parameter_homes slot [] = []
parameter_homes slot (p ∷ rest) = slot ∷ parameter_homes (slot + 1) rest

-- the slots of variables that fields are bound to, of which the first field has this one
abbrev pub field_home : ℕ → Option (ℕ × ClosedType) → ℕ
field_home slot None = slot
field_home slot (Some one) = slot + one.0

abbrev pub bind_homes : List Field → ℕ → List (Bound Bytes) → List ℕ
bind_homes fields slot [] = []
bind_homes fields slot (b ∷ rest) =
    field_home slot (field_of b.name.name.name fields) ∷ bind_homes fields slot rest

-- by the fields of the record that an expression of a note is, and by those of the case that a name means of
-- what is told apart
module _ {T C : Type 0} (record_fields : T → List Field) (case_fields : T → Bytes → List Field) where
  -- how many slots are in use after a statement that weren't before it
  abbrev pub kept_by : Statement Bytes T C → ℕ
  kept_by (declare at binding name t e) = 1
  kept_by (destructure at binds e) = length (record_fields (note_of e))
  kept_by other = 0

  abbrev mutual
    -- the slots of what is declared in a statement, where the next slot is this one
    pub homes : ℕ → Statement Bytes T C → List ℕ
    homes slot (skip at) = []
    homes slot (declare at binding name t e) = slot ∷ []
    homes slot (destructure at binds e) = bind_homes (record_fields (note_of e)) slot binds
    homes slot (assign at x path e) = []
    homes slot (assign_through at r path e) = []
    homes slot (conditional at tests) = homes_of_tests slot tests
    homes slot (conditional_else at tests block) = homes_of_tests slot tests ++ homes_of_block slot block
    homes slot (case_of at e all) = homes_of_arms slot (note_of e) all
    homes slot (while_loop at e block) = homes_of_block slot block
    homes slot (for_loop at name first last block) = (slot + 2) ∷ homes_of_block (slot + 3) block
    homes slot (borrow_in at access x r region block stop) = slot ∷ homes_of_block (slot + 1) block
    homes slot (borrow_typed at r t mode x block stop) = slot ∷ homes_of_block (slot + 1) block
    homes slot (discard at e) = []
    homes slot (return_of at e) = []

    -- in a block
    pub homes_of_block : ℕ → Statements Bytes T C → List ℕ
    homes_of_block slot no_statements = []
    homes_of_block slot (statements s rest) = homes slot s ++ homes_of_block (slot + kept_by s) rest

    -- in the branches of a conditional
    pub homes_of_tests : ℕ → Branches Bytes T C → List ℕ
    homes_of_tests slot no_branches = []
    homes_of_tests slot (branches e block rest) = homes_of_block slot block ++ homes_of_tests slot rest

    -- in the arms of a case, of a value that has this note
    pub homes_of_arms : ℕ → T → Arms Bytes T C → List ℕ
    homes_of_arms slot note no_arms = []
    homes_of_arms slot note (arms at name binds block rest) =
        let fields = case_fields note name.name in
        bind_homes fields slot binds
        ++ (homes_of_block (slot + length fields) block ++ homes_of_arms slot note rest)

-- the slots of what a function declares
abbrev pub function_homes : {I T C : Type 0} → Function I T C → List ℕ
function_homes f =
    parameter_homes 0 f.parameters
    ++ homes_of_block (fields_in f.view) (fields_of_case f.view) (length f.parameters) f.body

-- The slot of a number: of the functions, the first whose declarations have this number says it.
abbrev pub slot_in : {I T C : Type 0} → List (Function I T C) → ℕ → ℕ
slot_in [] n = 0
slot_in (f ∷ rest) n =
    if nat_le f.first n && nat_lt n (f.first + length (function_homes f))
    then slice_index_or (function_homes f) (n - f.first) 0
    else slot_in rest n

-- a number is that of a declaration of a function
abbrev pub Declares : {I T C : Type 0} → Function I T C → ℕ → Type 0
Declares f n = (f.first ≤ n) × (n < f.first + length (function_homes f))

-- Functions that share a number of a declaration are instances of one body: they have the same numbers, and
-- the same slots.
abbrev pub HomesShared : {I T C : Type 0} → List (Function I T C) → Type 0
HomesShared {I} {T} {C} functions =
    (i j n : ℕ) (f g : Function I T C) → slice_get functions i ≡ Some f → slice_get functions j ≡ Some g
    → Declares f n → Declares g n → (f.first ≡ g.first) × (function_homes f ≡ function_homes g)

-- ---- the same slots

-- fields of the same names
abbrev pub SameNames : List Field → List Field → Type 0
SameNames fields others = map (λ (one : Field). one.name) fields ≡ map (λ (one : Field). one.name) others

module _ {T C : Type 0} (fields others : T → List Field) (cases other_cases : T → Bytes → List Field) where
  abbrev mutual
    -- what is taken apart in a statement has fields of the same names on both sides
    pub NamesAgree : Statement Bytes T C → Type 0
    NamesAgree (destructure at binds e) = SameNames (fields (note_of e)) (others (note_of e))
    NamesAgree (conditional at tests) = NamesAgreeInTests tests
    NamesAgree (conditional_else at tests block) = NamesAgreeInTests tests × NamesAgreeInBlock block
    NamesAgree (case_of at e all) = NamesAgreeInArms (note_of e) all
    NamesAgree (while_loop at e block) = NamesAgreeInBlock block
    NamesAgree (for_loop at name first last block) = NamesAgreeInBlock block
    NamesAgree (borrow_in at access x r region block stop) = NamesAgreeInBlock block
    NamesAgree (borrow_typed at r t mode x block stop) = NamesAgreeInBlock block
    NamesAgree other = Unit {0}

    -- in a block
    pub NamesAgreeInBlock : Statements Bytes T C → Type 0
    NamesAgreeInBlock no_statements = Unit {0}
    NamesAgreeInBlock (statements s rest) = NamesAgree s × NamesAgreeInBlock rest

    -- in the branches of a conditional
    pub NamesAgreeInTests : Branches Bytes T C → Type 0
    NamesAgreeInTests no_branches = Unit {0}
    NamesAgreeInTests (branches e block rest) = NamesAgreeInBlock block × NamesAgreeInTests rest

    -- in the arms of a case, of a value that has this note
    pub NamesAgreeInArms : T → Arms Bytes T C → Type 0
    NamesAgreeInArms note no_arms = Unit {0}
    NamesAgreeInArms note (arms at name binds block rest) =
        SameNames (cases note name.name) (other_cases note name.name)
        × NamesAgreeInBlock block × NamesAgreeInArms note rest

-- ---- laws

module _ (T C : Type 0) where
  -- Where what is taken apart has fields of the same names, a block has the same slots.
  abbrev pub HomesAreSame : Type 0
  HomesAreSame = (fields others : T → List Field) (cases other_cases : T → Bytes → List Field) (slot : ℕ)
      (block : Statements Bytes T C) → NamesAgreeInBlock fields others cases other_cases block
      → homes_of_block fields cases slot block ≡ homes_of_block others other_cases slot block

module _ (I T C : Type 0) where
  -- Where functions that share a number of a declaration have the same slots, one slot for each number is
  -- that of all declarations of all functions.
  abbrev pub HomesAreFound : Type 0
  HomesAreFound = (functions : List (Function I T C)) → HomesShared functions
      → (i : ℕ) (f : Function I T C) → slice_get functions i ≡ Some f → FunctionHomed (slot_in functions) f
