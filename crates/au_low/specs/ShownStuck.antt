-- The ways in which no rule applies: each of these programs is stuck, after the steps before.
use Rattle.std.specs.Prelude.{◌≡◌, ℕ, true, false, List, [], ◌∷◌, ◌++◌, Some, None, pos, codes}
use Rattle.au_base.specs.declared.kinds.IntKind.TheVariants.{Nat8, Nat16}
use Rattle.au_ints.specs.declared.operations.IntOp.TheVariants as int_op
use Rattle.au_ints.specs.declared.operations.WrapOp.TheVariants as wrap_op
use Rattle.au_ints.specs.declared.operations.Order.TheVariants as order
use Rattle.au_shipped.specs.declared.prims.ShippedCall.TheVariants as call
use Rattle.au_low.specs.declared.endings.Ending.TheVariants.{Steps, Stuck}
use Rattle.au_low.specs.declared.instructions.Mode.TheVariants as mode
use Rattle.au_low.specs.declared.instructions.Instr.{Instr}
use Rattle.au_low.specs.declared.instructions.Instr.TheVariants.{Push, PushBool, PushUnit, PushText, Look}
use Rattle.au_low.specs.declared.instructions.Instr.TheVariants.{Move, Store, Set, Discard, Arith, Compare}
use Rattle.au_low.specs.declared.instructions.Instr.TheVariants.{Not, Jump, ForTest, Make, Take, Case, Call}
use Rattle.au_low.specs.declared.instructions.Instr.TheVariants.{Shipped, Return, Deref, Open}
use Rattle.au_low.specs.Runs.{low_run}
use Rattle.au_low.specs.Examples.{ending_of, made_by}
use Rattle.au_low.specs.Shown.{put_byte, pair_of}

-- these instructions are followed step by step until no rule applies, after so many steps
pub record IsStuckAfter (instrs : List Instr) (steps : ℕ) : Type 0 where
  pub ending : ending_of instrs 99 ≡ Stuck
  pub made : made_by instrs 99 ≡ steps

-- where something isn't there
pub record MissingIsStuck : Type 0 where
  pub operand : IsStuckAfter (Discard ∷ []) 0
  pub second_operand : IsStuckAfter (put_byte 1 ∷ Arith int_op.Add Nat8 ∷ []) 1
  pub slot : IsStuckAfter (put_byte 1 ∷ Store 3 ∷ []) 1
  pub slot_value : IsStuckAfter (Move 0 ∷ []) 0
  pub filled_by_store_alone : IsStuckAfter (put_byte 1 ∷ Set 0 [] ∷ []) 1
  pub field : IsStuckAfter (pair_of 1 2 ++ Store 0 ∷ Look 0 (2 ∷ []) ∷ []) 4
  pub label : IsStuckAfter (Jump 1 ∷ []) 0
  pub text : IsStuckAfter (PushText 2 ∷ []) 0
  pub type : IsStuckAfter (Make 2 0 [] (codes "M") ∷ []) 0
  pub function : IsStuckAfter (Call 1 [] ∷ []) 0
  pub instruction : IsStuckAfter [] 0
  pub slot_of_a_field : IsStuckAfter (pair_of 1 2 ++ Take 2 ∷ []) 3
  pub case_of_a_label : IsStuckAfter (Make 1 1 [] (codes "M") ∷ Case 0 (0 ∷ []) ∷ []) 1
  pub type_of_a_birth : IsStuckAfter (put_byte 1 ∷ Shipped call.MakeBox None [] ∷ []) 1
  pub slot_of_a_borrow : IsStuckAfter (Open 3 mode.Read ∷ []) 0
  pub place : IsStuckAfter (Open 0 mode.Read ∷ Deref ∷ []) 1

-- where something isn't of the form that is wanted
pub record OtherIsStuck : Type 0 where
  pub range : IsStuckAfter (Push Nat8 (pos 256) ∷ []) 0
  pub kind : IsStuckAfter (put_byte 1 ∷ Push Nat16 (pos 1) ∷ Arith int_op.Add Nat8 ∷ []) 2
  pub kind_of_slots : IsStuckAfter (put_byte 1 ∷ Store 0 ∷ Push Nat16 (pos 1) ∷ Store 1 ∷ ForTest 0 1 0
      ∷ []) 4
  pub truths_in_order : IsStuckAfter (PushBool true ∷ PushBool false ∷ Compare order.Less None ∷ []) 2
  pub no_truth : IsStuckAfter (PushUnit ∷ Not ∷ []) 1
  pub no_record : IsStuckAfter (Make 1 1 [] (codes "M") ∷ Take 0 ∷ []) 1
  pub no_reference : IsStuckAfter (put_byte 1 ∷ Deref ∷ []) 1
  pub no_exit_code : IsStuckAfter (Make 1 2 [] (codes "M") ∷ Return ∷ []) 1
  pub an_argument_twice : IsStuckAfter (put_byte 1 ∷ put_byte 2 ∷ Make 1 0 (0 ∷ 0 ∷ []) (codes "M") ∷ []) 2
  pub an_argument_beyond : IsStuckAfter (put_byte 1 ∷ Make 1 0 (1 ∷ []) (codes "M") ∷ []) 1
  pub wraps_are_no_shipped_calls : IsStuckAfter
      (put_byte 1 ∷ put_byte 2 ∷ Shipped (call.Wrap wrap_op.Add Nat8) None [] ∷ []) 2
  pub a_type_without_a_birth : IsStuckAfter (put_byte 1 ∷ Shipped call.PrintInt (Some 0) [] ∷ []) 1
  pub again_is_no_slot : IsStuckAfter (Open 0 mode.Again ∷ []) 0

-- A run of no step is at its limit, whatever comes next; and one that can't begin is stuck.
pub record BeginningIsShown : Type 0 where
  pub limit_first : ending_of (Discard ∷ []) 0 ≡ Steps
  pub no_function : (low_run true (record { texts = []; types = []; functions = []; root = false })
      [] 9).ending ≡ Stuck
  pub parameters : (low_run true (record {
    texts = [];
    types = [];
    functions =
        record { params = 1; slots = 1; code = [] } ∷ [];
    root = false;
  }) [] 9).ending ≡ Stuck
  pub root_slot : (low_run true (record {
    texts = [];
    types = [];
    functions =
        record { params = 1; slots = 0; code = [] } ∷ [];
    root = true;
  }) [] 9).ending ≡ Stuck
  pub root_type : (low_run true (record {
    texts = [];
    types = [];
    functions =
        record { params = 1; slots = 1; code = [] } ∷ [];
    root = true;
  }) [] 9).ending ≡ Stuck
