-- The slots of a function: which variable has which, and how many are in use. Parameters have slots from 0,
-- each later variable has the next one that is free, and a slot is free again where the block of its variable
-- ends. The number of a variable in a scope is here the number of its slot.
use Rattle.std.specs.Prelude.{ℕ, ◌+◌, max, List, [], ◌∷◌, length, Option, Some, None}
use Rattle.au_type_texts.specs.Types.{ClosedType}
use Rattle.au_effects.specs.Parts.{along}
use Rattle.au_meaning.specs.Expressions.{note_of}
use Rattle.au_meaning.specs.Names.{Scope, with_name, bound_name, field_of}
use Rattle.au_meaning.specs.Statements.{fields_noted, tag_told, fields_told}
use Rattle.au_meaning.specs.Views.{Field, View}
use Rattle.au_syntax.specs.Plain.{Bytes}
use Rattle.au_syntax.specs.Statements.{Statement, Statements, Branches, Arms, skip, declare, destructure}
use Rattle.au_syntax.specs.Statements.{assign, assign_through, conditional, conditional_else, case_of}
use Rattle.au_syntax.specs.Statements.{while_loop, for_loop, borrow_in, borrow_typed, discard, return_of}
use Rattle.au_syntax.specs.Statements.{no_statements, statements, no_branches, branches, no_arms, arms}
use Rattle.au_syntax.specs.Types.{Bound}

-- ---- fields that are taken

-- the fields, where they are known
abbrev pub known : Option (List Field) → List Field
known None = []
known (Some fields) = fields

-- a scope with a variable that has the slot of its field, of which the first has this one
abbrev pub with_field : ℕ → Bytes → Option (ℕ × ClosedType) → Scope → Scope
with_field slot name None scope = scope
with_field slot name (Some field) scope = with_name name (slot + field.0) (Some field.1) scope

abbrev pub with_fields : List Field → ℕ → List (Bound Bytes) → Scope → Scope
with_fields fields slot [] scope = scope
with_fields fields slot (b ∷ rest) scope =
    with_fields fields slot rest
    (with_field slot (bound_name b.name) (field_of b.name.name.name fields) scope)

module _ {I T C : Type 0} (see : View I T C) where
  -- the fields of the record that an expression is, by its note
  abbrev pub fields_in : T → List Field
  fields_in note = known (fields_noted see note)

  -- the fields of the case that a name means, as they are bound
  abbrev pub fields_of_case : T → Bytes → List Field
  fields_of_case note name = known (along (tag_told see note name) (fields_told see note))

  -- ---- what a statement leaves

  -- how many slots are in use after a statement that weren't before it
  abbrev pub kept : Statement Bytes T C → ℕ
  kept (declare at binding name t e) = 1
  kept (destructure at binds e) = length (fields_in (note_of e))
  kept other = 0

  -- the scope after a statement, where so many slots were in use before it
  abbrev pub after : ℕ → Statement Bytes T C → Scope → Scope
  after slot (declare at binding name t e) scope = with_name name.name slot (see.type_of (note_of e)) scope
  after slot (destructure at binds e) scope = with_fields (fields_in (note_of e)) slot binds scope
  after slot other scope = scope

  -- ---- how many slots are used

  abbrev mutual
    -- the greatest number of slots in use at one place of a statement, where so many are in use before it
    pub room : ℕ → Statement Bytes T C → ℕ
    room slot (skip at) = slot
    room slot (declare at binding name t e) = slot + 1
    room slot (destructure at binds e) = slot + length (fields_in (note_of e))
    room slot (assign at x path e) = slot
    room slot (assign_through at r path e) = slot
    room slot (conditional at tests) = room_of_tests slot tests
    room slot (conditional_else at tests block) = max (room_of_tests slot tests) (room_of_block slot block)
    room slot (case_of at e all) = room_of_arms slot (note_of e) all
    room slot (while_loop at e block) = room_of_block slot block
    room slot (for_loop at name first last block) = room_of_block (slot + 3) block
    room slot (borrow_in at access x r region block stop) = room_of_block (slot + 1) block
    room slot (borrow_typed at r t mode x block stop) = room_of_block (slot + 1) block
    room slot (discard at e) = slot
    room slot (return_of at e) = slot

    -- the same of a block
    pub room_of_block : ℕ → Statements Bytes T C → ℕ
    room_of_block slot no_statements = slot
    room_of_block slot (statements s rest) = max (room slot s) (room_of_block (slot + kept s) rest)

    -- of the branches of a conditional
    pub room_of_tests : ℕ → Branches Bytes T C → ℕ
    room_of_tests slot no_branches = slot
    room_of_tests slot (branches e block rest) = max (room_of_block slot block) (room_of_tests slot rest)

    -- of the arms of a case, of a value that has this note
    pub room_of_arms : ℕ → T → Arms Bytes T C → ℕ
    room_of_arms slot note no_arms = slot
    room_of_arms slot note (arms at name binds block rest) =
        max
        (room_of_block (slot + length (fields_of_case note name.name)) block)
        (room_of_arms slot note rest)
