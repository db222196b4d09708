-- One program for each instruction, which shows what it does.
use Rattle.std.specs.Prelude.{◌≡◌, ℕ, true, false, List, [], ◌∷◌, ◌++◌, Some, None, pos, codes}
use Rattle.au_base.specs.declared.kinds.IntKind.TheVariants.{Nat8, Nat16, Int8}
use Rattle.au_ints.specs.declared.operations.IntOp.TheVariants as int_op
use Rattle.au_ints.specs.declared.operations.WrapOp.TheVariants as wrap_op
use Rattle.au_ints.specs.declared.operations.Order.TheVariants as order
use Rattle.au_shipped.specs.declared.prims.AbortKind.TheVariants as kind
use Rattle.au_effects.specs.Values.{Place, name_of, unit, truth, number, text, made, reference, free_case}
use Rattle.au_effects.specs.Values.{optional, fields_of}
use Rattle.au_effects.specs.Worlds.{born, consumed, opened, used, closed}
use Rattle.au_low.specs.declared.endings.Ending.TheVariants.{Exit, Abort, Steps}
use Rattle.au_low.specs.declared.instructions.Mode.TheVariants as mode
use Rattle.au_low.specs.declared.instructions.Instr.{Instr}
use Rattle.au_low.specs.declared.instructions.Instr.TheVariants.{Push, PushBool, PushUnit, PushText, Look}
use Rattle.au_low.specs.declared.instructions.Instr.TheVariants.{Move, Store, Set, Discard, Arith, Wrap}
use Rattle.au_low.specs.declared.instructions.Instr.TheVariants.{Compare, Not, Convert, Jump, JumpNot}
use Rattle.au_low.specs.declared.instructions.Instr.TheVariants.{ForTest, ForStep, Make, Take, Case, Call}
use Rattle.au_low.specs.declared.instructions.Instr.TheVariants.{Return, Read, Put, Deref, Open, Again, Part}
use Rattle.au_low.specs.declared.instructions.Instr.TheVariants.{Bind, Close}
use Rattle.au_low.specs.Machines.{Low}
use Rattle.au_low.specs.Runs.{low_run}
use Rattle.au_low.specs.Examples.{program, stack_after, slots_after, deeds_after, place_after, ending_of}
use Rattle.au_low.specs.Examples.{made_by}

-- a byte, as an instruction and as a value
abbrev pub put_byte : ℕ → Instr
put_byte n = Push Nat8 (pos n)

abbrev pub byte : ℕ → Low
byte n = number Nat8 (pos n)

-- a record of two bytes, of the type that isn't linear, with its instructions
abbrev pub pair_of : ℕ → ℕ → List Instr
pair_of a b = put_byte a ∷ put_byte b ∷ Make 1 0 (0 ∷ 1 ∷ []) (codes "M") ∷ []

abbrev pub two : ℕ → ℕ → Low
two a b = free_case 0 (byte a ∷ byte b ∷ [])

-- instructions that push, operate on operands and go to labels
pub record OperandsAreShown : Type 0 where
  pub push : stack_after 1 (program (Push Int8 (pos 7) ∷ []) []) ≡ Some (number Int8 (pos 7) ∷ [])
  pub push_bool : stack_after 1 (program (PushBool true ∷ []) []) ≡ Some (truth true ∷ [])
  pub push_unit : stack_after 1 (program (PushUnit ∷ []) []) ≡ Some (unit ∷ [])
  pub push_text : stack_after 1 (program (PushText 1 ∷ []) []) ≡ Some (text 1 ∷ [])
  pub discard : stack_after 3 (program (put_byte 1 ∷ put_byte 2 ∷ Discard ∷ []) []) ≡ Some (byte 1 ∷ [])
  pub arith : stack_after 3 (program (put_byte 9 ∷ put_byte 2 ∷ Arith int_op.Subtract Nat8 ∷ []) [])
      ≡ Some (byte 7 ∷ [])
  pub overflow : ending_of (put_byte 255 ∷ put_byte 1 ∷ Arith int_op.Add Nat8 ∷ []) 9 ≡ Abort kind.Arithmetic
  pub wrap : stack_after 3 (program (put_byte 1 ∷ put_byte 2 ∷ Wrap wrap_op.Subtract Nat8 [] ∷ []) [])
      ≡ Some (byte 255 ∷ [])
  pub wrap_ordered : stack_after 3 (program
      (put_byte 1 ∷ put_byte 2 ∷ Wrap wrap_op.Subtract Nat8 (1 ∷ 0 ∷ []) ∷ []) []) ≡ Some (byte 1 ∷ [])
  pub compare : stack_after 3 (program (put_byte 1 ∷ put_byte 2 ∷ Compare order.Less (Some Nat8) ∷ []) [])
      ≡ Some (truth true ∷ [])
  pub compare_truths : stack_after 3 (program
      (PushBool true ∷ PushBool false ∷ Compare order.NotEqual None ∷ []) []) ≡ Some (truth true ∷ [])
  pub negation : stack_after 2 (program (PushBool true ∷ Not ∷ []) []) ≡ Some (truth false ∷ [])
  pub conversion : stack_after 2 (program (Push Nat16 (pos 255) ∷ Convert Nat8 ∷ []) [])
      ≡ Some (optional (Some (byte 255)) ∷ [])
  pub conversion_fails : stack_after 2 (program (Push Nat16 (pos 256) ∷ Convert Nat8 ∷ []) [])
      ≡ Some (optional None ∷ [])
  pub jump : place_after 1 (program (Jump 2 ∷ PushUnit ∷ PushUnit ∷ []) []) ≡ Some 2
  pub jump_not : place_after 2 (program (PushBool false ∷ JumpNot 0 ∷ []) []) ≡ Some 0
  pub jump_not_taken : place_after 2 (program (PushBool true ∷ JumpNot 0 ∷ []) []) ≡ Some 2

-- instructions on slots, records and unions
pub record SlotsAreShown : Type 0 where
  pub store : slots_after 2 (program (put_byte 5 ∷ Store 1 ∷ []) []) ≡ Some (None ∷ Some (byte 5) ∷ None ∷ [])
  pub look : stack_after 5 (program (pair_of 5 6 ++ Store 1 ∷ Look 1 (1 ∷ []) ∷ []) []) ≡ Some (byte 6 ∷ [])
  pub move : slots_after 3 (program (put_byte 5 ∷ Store 1 ∷ Move 1 ∷ []) []) ≡ Some (None ∷ None ∷ None ∷ [])
  pub move_pushes : stack_after 3 (program (put_byte 5 ∷ Store 1 ∷ Move 1 ∷ []) []) ≡ Some (byte 5 ∷ [])
  pub set : slots_after 6 (program (pair_of 5 6 ++ Store 0 ∷ put_byte 7 ∷ Set 0 (1 ∷ []) ∷ []) [])
      ≡ Some (Some (two 5 7) ∷ None ∷ None ∷ [])
  pub for_test : place_after 5 (program (put_byte 2 ∷ Store 0 ∷ put_byte 1 ∷ Store 1 ∷ ForTest 0 1 0 ∷ []) [])
      ≡ Some 0
  pub for_test_not : place_after 5 (program (put_byte 1 ∷ Store 0 ∷ put_byte 1 ∷ Store 1 ∷ ForTest 0 1 0 ∷ [])
      []) ≡ Some 5
  pub for_step : slots_after 5 (program (put_byte 1 ∷ Store 0 ∷ put_byte 2 ∷ Store 1 ∷ ForStep 0 1 0 ∷ []) [])
      ≡ Some (Some (byte 2) ∷ Some (byte 2) ∷ None ∷ [])
  pub for_step_goes : place_after 5 (program
      (put_byte 1 ∷ Store 0 ∷ put_byte 2 ∷ Store 1 ∷ ForStep 0 1 0 ∷ []) []) ≡ Some 0
  pub for_step_ends : place_after 5 (program
      (put_byte 2 ∷ Store 0 ∷ put_byte 2 ∷ Store 1 ∷ ForStep 0 1 0 ∷ []) []) ≡ Some 5
  pub make_ordered : stack_after 3 (program (put_byte 5 ∷ put_byte 6 ∷ Make 1 2 (1 ∷ 0 ∷ []) (codes "M") ∷ [])
      []) ≡ Some (free_case 2 (byte 6 ∷ byte 5 ∷ []) ∷ [])
  pub make_linear : stack_after 2 (program (put_byte 5 ∷ Make 0 0 (0 ∷ []) (codes "M") ∷ []) [])
      ≡ Some (made 0 (Some 0) (fields_of (byte 5 ∷ [])) ∷ [])
  pub make_tells : deeds_after 2 (program (put_byte 5 ∷ Make 0 0 (0 ∷ []) (codes "M") ∷ []) [])
      ≡ Some (born 0 0 (codes "M") ∷ [])
  pub take : slots_after 4 (program (pair_of 5 6 ++ Take 1 ∷ []) [])
      ≡ Some (None ∷ Some (byte 5) ∷ Some (byte 6) ∷ [])
  pub take_tells : deeds_after 3 (program (put_byte 5 ∷ Make 0 0 (0 ∷ []) (codes "M") ∷ Take 0 ∷ []) [])
      ≡ Some (born 0 0 (codes "M") ∷ consumed 0 ∷ [])
  pub case_goes : place_after 3 (program
      (put_byte 5 ∷ Make 1 1 (0 ∷ []) (codes "M") ∷ Case 0 (0 ∷ 1 ∷ []) ∷ []) []) ≡ Some 1
  pub case_takes : slots_after 3 (program
      (put_byte 5 ∷ Make 1 1 (0 ∷ []) (codes "M") ∷ Case 0 (0 ∷ 1 ∷ []) ∷ []) [])
      ≡ Some (Some (byte 5) ∷ None ∷ None ∷ [])

-- the difference of two bytes, which are its parameters
abbrev pub difference : List Instr
difference = Look 0 [] ∷ Look 1 [] ∷ Arith int_op.Subtract Nat8 ∷ Return ∷ []

-- code that calls it with 9 and 2, in this order of arguments
abbrev pub call_difference : List ℕ → List Instr
call_difference order = put_byte 9 ∷ put_byte 2 ∷ Call 1 order ∷ []

-- after the call and its return, this is the operand
abbrev pub CallGives : List ℕ → Low → Type 0
CallGives order result =
    stack_after 7 (program (call_difference order) (record { params = 2; slots = 2; code = difference } ∷ []))
    ≡ Some (result ∷ [])

-- calls, returns and exits
pub record CallsAreShown : Type 0 where
  pub call : CallGives (0 ∷ 1 ∷ []) (byte 7)
  pub call_begins : slots_after 3 (program (call_difference (1 ∷ 0 ∷ []))
      (record { params = 2; slots = 3; code = difference } ∷ []))
      ≡ Some (Some (byte 2) ∷ Some (byte 9) ∷ None ∷ [])
  pub success : ending_of (Make 1 0 [] (codes "M") ∷ Return ∷ []) 9 ≡ Exit true
  pub failure : ending_of (Make 1 1 [] (codes "M") ∷ Return ∷ []) 9 ≡ Exit false
  pub steps : made_by (Make 1 1 [] (codes "M") ∷ Return ∷ []) 9 ≡ 2
  pub limit : ending_of (PushUnit ∷ Discard ∷ Jump 0 ∷ []) 9 ≡ Steps
  pub closes_first : (low_run true (program
      (Bind 0 1 mode.Read ∷ Bind 0 2 mode.Read ∷ Make 1 0 [] (codes "M") ∷ Return ∷ []) []) [] 9).events
      ≡ opened 0 ∷ opened 1 ∷ closed 1 ∷ closed 0 ∷ []

-- the place of a slot of the entry
abbrev pub slot_place : ℕ → List ℕ → Place
slot_place slot path = record { base = name_of 0 slot; path = path }

-- a byte in slot 0, and a borrow of it in slot 1
abbrev pub bound : List Instr
bound = put_byte 5 ∷ Store 0 ∷ Bind 0 1 mode.Write ∷ []

-- a union of case 1 with a byte and a pair in slot 0, a borrow of it in slot 1, and a case of it behind the
-- reference, whose fields go to slots from 1 on
abbrev pub told : List Instr
told =
    put_byte 5 ∷ pair_of 6 7 ++ Make 1 1 (0 ∷ 1 ∷ []) (codes "M") ∷ Store 0 ∷ Bind 0 1 mode.Write ∷ Move 1
    ∷ Case 1 (0 ∷ 2 ∷ []) ∷ []

-- borrows and uses
pub record BorrowsAreShown : Type 0 where
  pub open_pushes : stack_after 1 (program (Open 2 mode.Write ∷ []) [])
      ≡ Some (reference 0 (slot_place 2 []) ∷ [])
  pub open_tells : deeds_after 1 (program (Open 2 mode.Write ∷ []) []) ≡ Some (opened 0 ∷ [])
  pub again : stack_after 4 (program (bound ++ Again 1 ∷ []) []) ≡ Some (reference 1 (slot_place 0 []) ∷ [])
  pub part : stack_after 4 (program (bound ++ Part 1 (3 ∷ 4 ∷ []) ∷ []) [])
      ≡ Some (reference 0 (slot_place 0 (3 ∷ 4 ∷ [])) ∷ [])
  pub part_of_part : stack_after 6 (program (bound ++ Part 1 (3 ∷ []) ∷ Store 2 ∷ Part 2 (4 ∷ []) ∷ []) [])
      ≡ Some (reference 0 (slot_place 0 (3 ∷ 4 ∷ [])) ∷ [])
  pub bind_again : slots_after 4 (program (bound ++ Bind 1 2 mode.Again ∷ []) [])
      ≡ Some (Some (byte 5) ∷ Some (reference 0 (slot_place 0 [])) ∷ Some (reference 1 (slot_place 0 []))
      ∷ [])
  pub read : stack_after 4 (program (bound ++ Read 1 [] ∷ []) []) ≡ Some (byte 5 ∷ [])
  pub read_tells : deeds_after 4 (program (bound ++ Read 1 [] ∷ []) []) ≡ Some (opened 0 ∷ used 0 ∷ [])
  pub put : slots_after 5 (program (bound ++ put_byte 8 ∷ Put 1 [] ∷ []) [])
      ≡ Some (Some (byte 8) ∷ Some (reference 0 (slot_place 0 [])) ∷ None ∷ [])
  pub deref : stack_after 5 (program (bound ++ Move 1 ∷ Deref ∷ []) []) ≡ Some (byte 5 ∷ [])
  pub case_behind : slots_after 9 (program told []) ≡ Some (Some (free_case 1 (byte 5 ∷ two 6 7 ∷ []))
      ∷ Some (reference 0 (slot_place 0 (0 ∷ []))) ∷ Some (reference 0 (slot_place 0 (1 ∷ []))) ∷ [])
  pub case_behind_goes : place_after 9 (program told []) ≡ Some 2
  pub case_behind_tells : deeds_after 9 (program told []) ≡ Some (opened 0 ∷ used 0 ∷ [])
  pub close : deeds_after 3 (program (Open 0 mode.Read ∷ Open 0 mode.Read ∷ Close 1 ∷ []) [])
      ≡ Some (opened 0 ∷ opened 1 ∷ closed 1 ∷ [])
  pub close_more : deeds_after 2 (program (Open 0 mode.Read ∷ Close 2 ∷ []) []) ≡ Some (opened 0 ∷ [])
