-- What is found before code is written: the slot and the path of a part of a variable.
use Rattle.std.specs.Prelude.{◌≡◌, ℕ, ◌+◌, Bool, true, false, List, [], ◌∷◌, ◌++◌, length, set, Option, Some}
use Rattle.std.specs.Prelude.{None}
use Rattle.std.specs.Option.{option_map}
use Rattle.au_closed_trees.specs.ClosedNotes.{ClosedNote}
use Rattle.au_effects.specs.Parts.{along}
use Rattle.au_ints.specs.declared.operations.IntOp.{IntOp}
use Rattle.au_ints.specs.declared.operations.Order.{Order}
use Rattle.au_low.specs.declared.instructions.Instr.{Instr}
use Rattle.au_low.specs.declared.instructions.Instr.TheVariants as instr
use Rattle.au_low.specs.declared.instructions.Mode.TheVariants as mode
use Rattle.au_lowered.specs.Drafts.{Draft, Written, ◌>>◌, does, either, given, plain}
use Rattle.au_lowered.specs.Expressions.{mention, numbers_along, part_of}
use Rattle.au_meaning.specs.Expressions.{Operation, compares, computes, is_and, is_or, compared_kind, kind_in}
use Rattle.au_meaning.specs.Expressions.{names_of}
use Rattle.au_meaning.specs.Names.{Scope, Variable, variable_of, target_behind}
use Rattle.au_meaning.specs.Views.{View}
use Rattle.au_syntax.specs.declared.expressions.BorrowMode.{BorrowMode}
use Rattle.au_syntax.specs.declared.expressions.BorrowMode.TheVariants as borrowing
use Rattle.au_syntax.specs.Names.{Placed}
use Rattle.au_syntax.specs.Plain.{Bytes}
use Rattle.au_lowering_expressions.specs.Wrote.{first_branch, wrote}

-- a slot, and the numbers of the fields along a path
abbrev pub Part : Type 0
Part = ℕ × List ℕ

-- a slot with a path
abbrev pub with_path : ℕ → Option (List ℕ) → Option Part
with_path slot numbers = option_map (λ (all : List ℕ). (slot, all)) numbers

module _ {T C : Type 0} (see : View ℕ T C) where
  -- the part of a variable, and the part of what it refers to
  abbrev pub part_in : Option Variable → List Bytes → Option Part
  part_in variable names = along variable (λ x. with_path x.number (numbers_along see x.of names))

  abbrev pub part_past : Option Variable → List Bytes → Option Part
  part_past variable names =
      along variable (λ x. with_path x.number (numbers_along see (target_behind x.of) names))

-- what is done with a part: a copy of it is pushed, or of a part of what is referred to, or a reference to it
abbrev pub looks : ℕ → List ℕ → Written
looks slot numbers = does (instr.Look slot numbers)

abbrev pub reads : ℕ → List ℕ → Written
reads slot numbers = does (instr.Read slot numbers)

abbrev pub refers : ℕ → List ℕ → Written
refers slot numbers = does (instr.Part slot numbers)

-- a borrow of a variable in a slot
abbrev pub opening : BorrowMode → ℕ → Written
opening borrowing.Read slot = does (instr.Open slot mode.Read)
opening borrowing.Write slot = does (instr.Open slot mode.Write)
opening borrowing.Reborrow slot = does (instr.Again slot)

-- a name, or a part of what has the name
abbrev pub path_code : {T C : Type 0} → View ℕ T C → Scope → T → Bytes → List (Placed Bytes) → Written
path_code see scope note name [] = mention see note (variable_of scope name) name
path_code see scope note name (field ∷ fields) =
    part_of see (variable_of scope name) (names_of (field ∷ fields)) looks

-- ---- operators

-- what computes, where the whole has this note, and what compares, where the first operand has it
abbrev pub arith : IntOp → ClosedNote → Written
arith op note = given (kind_in (Some note.of)) (λ kind. does (instr.Arith op kind))

abbrev pub compare : Order → ClosedNote → Written
compare order note = given (compared_kind (Some note.of)) (λ kind. does (instr.Compare order kind))

-- an operation behind the code of its first operand
unfoldable pub second_of : Operation → ClosedNote → ClosedNote → Written → Written
second_of is_and whole first b = either false b (does (instr.PushBool false))
second_of is_or whole first b = either false (does (instr.PushBool true)) b
second_of (computes op) whole first b = b >> arith op whole
second_of (compares order) whole first b = b >> compare order first

abbrev pub pushes_true : Instr
pushes_true = instr.PushBool true

abbrev pub pushes_false : Instr
pushes_false = instr.PushBool false

-- ---- the first of two branches

-- behind it stands a jump that leads nowhere yet, and the test at a place goes behind that
abbrev pub first_ended : ℕ → List Draft → List Draft
first_ended test before =
    let more = before ++ plain (instr.Jump 0) ∷ [] in
    set more test (plain (instr.JumpNot (length more)))

-- It is written behind other code, and the last instruction is a jump that leads nowhere yet.
pub record FirstBranch (a : Written) (before after : List Draft) (jump : ℕ) : Type 0 where
  pub written : after ≡ wrote (first_branch a 0) before
  pub place : jump + 1 ≡ length after
