-- The sample programs that show the meaning, and the code of each, which was written by hand.
use Rattle.std.specs.Prelude.{ℕ, true, false, List, [], ◌∷◌, Some, None, pos, codes}
use Rattle.au_base.specs.declared.kinds.IntKind.TheVariants.{Nat8}
use Rattle.au_ints.specs.declared.operations.IntOp.TheVariants as int_op
use Rattle.au_ints.specs.declared.operations.Order.TheVariants as order
use Rattle.au_ints.specs.declared.operations.WrapOp.TheVariants as wrap_op
use Rattle.au_low.specs.declared.code.Code.{Code}
use Rattle.au_low.specs.declared.instructions.Instr.{Instr}
use Rattle.au_low.specs.declared.instructions.Instr.TheVariants.{Push, PushBool, PushUnit, PushText, Look}
use Rattle.au_low.specs.declared.instructions.Instr.TheVariants.{Move, Store, Set, Discard, Arith, Wrap}
use Rattle.au_low.specs.declared.instructions.Instr.TheVariants.{Compare, Not, Jump, JumpNot, ForTest}
use Rattle.au_low.specs.declared.instructions.Instr.TheVariants.{ForStep, Make, Take, Case, Call, Shipped}
use Rattle.au_low.specs.declared.instructions.Instr.TheVariants.{Return}
use Rattle.au_meaning.specs.Samples.{byte, exit_code, root_capability, pair, key, maybe}
use Rattle.au_meaning.specs.Shown.{hello, overflow, counting, turns, branching, short, parts, once, twice}
use Rattle.au_meaning.specs.Shown.{cases, naming, generic, aborting, shipped, rooted}
use Rattle.au_shipped.specs.declared.prims.ShippedCall.{ShippedCall}
use Rattle.au_shipped.specs.declared.prims.ShippedCall.TheVariants as prim
use Rattle.au_types.specs.declared.types.DeclAt.{DeclAt}
use Rattle.au_types.specs.Types as type
use Rattle.au_lowered.specs.Samples.{Lowers, LowersInStep, alone, at, by_hand, plain, taking, row_at}

-- a byte
abbrev pub put : ℕ → Instr
put n = Push Nat8 (pos n)

-- a value of a case of a type, with its fields in declared order
abbrev pub make : ℕ → ℕ → List ℕ → Instr
make of tag order = Make of tag order (codes "Main")

-- a shipped call as an expression, and `printLn` as a statement
abbrev pub ship : ShippedCall → Instr
ship call = Shipped call None []

abbrev pub print : ShippedCall → List Instr → List Instr
print call rest = ship call ∷ Discard ∷ rest

-- `return ExitSuccess();`, where `ExitCode` has this number
abbrev pub succeed : ℕ → List Instr
succeed of = make of 0 [] ∷ Return ∷ []

-- the entry alone
abbrev pub entry : List (List ℕ) → List DeclAt → ℕ → List Instr → Code
entry texts types slots instrs = by_hand texts types (plain slots instrs ∷ [])

abbrev pub hello_code : Code
hello_code = entry (codes "Hello" ∷ []) (exit_code ∷ []) 0 (PushText 0 ∷ print prim.PrintLnText (succeed 0))

abbrev pub overflow_code : Code
overflow_code = entry [] (exit_code ∷ []) 1 (
    put 250 ∷ Store 0
    ∷ Look 0 [] ∷ put 3 ∷ Arith int_op.Add Nat8 ∷ print prim.PrintLnInt (
    Look 0 [] ∷ put 10 ∷ Arith int_op.Add Nat8 ∷ print prim.PrintLnInt (succeed 0)))

abbrev pub counting_code : Code
counting_code = entry [] (exit_code ∷ []) 1 (
    put 0 ∷ Store 0
    ∷ Look 0 [] ∷ put 3 ∷ Compare order.Less (Some Nat8) ∷ JumpNot 11
    ∷ Look 0 [] ∷ put 1 ∷ Arith int_op.Add Nat8 ∷ Set 0 [] ∷ Jump 2
    ∷ Look 0 [] ∷ print prim.PrintLnInt (succeed 0))

abbrev pub turns_code : Code
turns_code = entry [] (exit_code ∷ []) 3 (
    put 1 ∷ Store 0 ∷ put 3 ∷ Store 1 ∷ ForTest 0 1 11
    ∷ Look 0 [] ∷ Store 2 ∷ Look 2 [] ∷ print prim.PrintLnInt (
    ForStep 0 1 5
    ∷ put 2 ∷ Store 0 ∷ put 1 ∷ Store 1 ∷ ForTest 0 1 22
    ∷ Look 0 [] ∷ Store 2 ∷ Look 2 [] ∷ print prim.PrintLnInt (
    ForStep 0 1 16 ∷ succeed 0)))

abbrev pub branching_code : Code
branching_code = entry [] (exit_code ∷ []) 0 (
    PushBool true ∷ JumpNot 6 ∷ put 1 ∷ put 2 ∷ Compare order.Less (Some Nat8) ∷ Jump 7 ∷ PushBool false
    ∷ JumpNot 17
    ∷ PushBool true ∷ Not ∷ JumpNot 13 ∷ put 1 ∷ Jump 14 ∷ put 2 ∷ print prim.PrintLnInt (
    Jump 17 ∷ succeed 0))

abbrev pub short_code : Code
short_code = entry [] (exit_code ∷ []) 0 (
    PushBool true ∷ JumpNot 4 ∷ PushBool true ∷ Jump 7 ∷ put 1 ∷ put 2 ∷ Compare order.Less (Some Nat8)
    ∷ print prim.PrintLnBool (succeed 0))

abbrev pub parts_code : Code
parts_code = entry [] (pair ∷ exit_code ∷ []) 1 (
    put 1 ∷ put 2 ∷ make 0 0 (0 ∷ 1 ∷ []) ∷ Store 0
    ∷ put 9 ∷ Set 0 (1 ∷ [])
    ∷ Look 0 (1 ∷ []) ∷ print prim.PrintLnInt (succeed 1))

abbrev pub once_code : Code
once_code = entry [] (key ∷ exit_code ∷ []) 2 (
    put 7 ∷ make 0 0 (0 ∷ []) ∷ Store 0
    ∷ Move 0 ∷ Take 1
    ∷ Look 1 [] ∷ print prim.PrintLnInt (succeed 1))

-- the second `let` has a slot of its own
abbrev pub twice_code : Code
twice_code = entry [] (key ∷ exit_code ∷ []) 3 (
    put 7 ∷ make 0 0 (0 ∷ []) ∷ Store 0 ∷ Move 0 ∷ Take 1 ∷ Move 0 ∷ Take 2 ∷ succeed 1)

abbrev pub cases_code : Code
cases_code = entry [] (maybe ∷ exit_code ∷ []) 1 (
    put 4 ∷ make 0 1 (0 ∷ []) ∷ Case 0 (3 ∷ 4 ∷ [])
    ∷ Jump 7
    ∷ Look 0 [] ∷ print prim.PrintLnInt (succeed 1))

abbrev pub naming_code : Code
naming_code = by_hand [] (exit_code ∷ []) (
    plain 0 (put 2 ∷ put 9 ∷ Call 1 (1 ∷ 0 ∷ []) ∷ print prim.PrintLnInt (succeed 0))
    ∷ taking 2 2 (Look 0 [] ∷ Look 1 [] ∷ Arith int_op.Subtract Nat8 ∷ Return ∷ []) ∷ [])

-- `show` at a type, whose values this call prints
abbrev pub show_code : ShippedCall → List Instr
show_code call = Look 0 [] ∷ print call (PushUnit ∷ Return ∷ [])

abbrev pub generic_code : Code
generic_code = by_hand [] (exit_code ∷ []) (
    plain 0 (put 5 ∷ Call 1 (0 ∷ []) ∷ Discard ∷ PushBool true ∷ Call 2 (0 ∷ []) ∷ Discard ∷ succeed 0)
    ∷ taking 1 1 (show_code prim.PrintLnInt) ∷ taking 1 1 (show_code prim.PrintLnBool) ∷ [])

abbrev pub aborting_code : Code
aborting_code = entry (codes "no" ∷ []) (exit_code ∷ []) 0 (PushText 0 ∷ print prim.Abort (succeed 0))

abbrev pub shipped_code : Code
shipped_code = entry (codes "abc" ∷ []) (exit_code ∷ []) 0 (
    put 250 ∷ put 10 ∷ Wrap wrap_op.Add Nat8 [] ∷ print prim.PrintLnInt (
    PushText 0 ∷ ship prim.SpanLength ∷ print prim.PrintLnInt (succeed 0)))

-- the root's type is the first one
abbrev pub rooted_code : Code
rooted_code = record {
  texts = [];
  types = row_at root_capability ∷ row_at exit_code ∷ [];
  functions = taking 1 1 (Move 0 ∷ print prim.SurrenderRoot (make 1 1 [] ∷ Return ∷ [])) ∷ [];
  root = true;
}

-- what each is lowered to, and that it does what it means
pub record SamplesAreLowered : Type 0 where
  pub hello : LowersInStep (alone 0 ∷ []) hello hello_code
  pub overflow : LowersInStep (alone 0 ∷ []) overflow overflow_code
  pub counting : LowersInStep (alone 0 ∷ []) counting counting_code
  pub turns : LowersInStep (alone 0 ∷ []) turns turns_code
  pub branching : LowersInStep (alone 0 ∷ []) branching branching_code
  pub short : LowersInStep (alone 0 ∷ []) short short_code
  pub parts : LowersInStep (alone 0 ∷ []) parts parts_code
  pub once : LowersInStep (alone 0 ∷ []) once once_code
  pub twice : Lowers (alone 0 ∷ []) twice twice_code
  pub cases : LowersInStep (alone 0 ∷ []) cases cases_code
  pub naming : LowersInStep (alone 0 ∷ alone 1 ∷ []) naming naming_code
  pub generic : LowersInStep (alone 0 ∷ at 1 byte ∷ at 1 type.truth ∷ []) generic generic_code
  pub aborting : LowersInStep (alone 0 ∷ []) aborting aborting_code
  pub shipped : LowersInStep (alone 0 ∷ []) shipped shipped_code
  pub rooted : LowersInStep (alone 0 ∷ []) rooted rooted_code
