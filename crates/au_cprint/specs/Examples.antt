-- Small code, and its lines by hand.
use Rattle.std.specs.Prelude.{ℕ, List, [], ◌∷◌, ◌++◌, true, false, Some, None, pos, negsuc, codes}
use Rattle.std.specs.List.{flat_map}
use Rattle.au_base.specs.declared.kinds.IntKind.TheVariants as kinds
use Rattle.au_ints.specs.declared.operations.IntOp.TheVariants as exact
use Rattle.au_ints.specs.declared.operations.WrapOp.TheVariants as wrapped
use Rattle.au_ints.specs.declared.operations.Order.TheVariants as orders
use Rattle.au_shipped.specs.declared.prims.ShippedCall.TheVariants as calls
use Rattle.au_low.specs.declared.code.Code.{Code}
use Rattle.au_low.specs.declared.instructions.Instr.{Instr}
use Rattle.au_low.specs.declared.instructions.Instr.TheVariants as instr
use Rattle.au_low.specs.declared.instructions.Mode.TheVariants as modes
use Rattle.au_cprint.specs.Instructions.{instruction_line}
use Rattle.au_cprint.specs.Programs.{numbered}

-- lines, each with a newline
abbrev pub in_lines : List (List ℕ) → List ℕ
in_lines = flat_map (λ line. line ++ 10 ∷ [])

-- a program that prints a text
abbrev pub hello : Code
hello = record {
  texts = codes "Hi!" ∷ [];
  types = record { text = codes "M:E"; «module» = codes "M"; linear = false } ∷ [];
  functions = record {
    params = 0;
    slots = 0;
    code = instr.PushText 0 ∷ instr.Shipped calls.PrintLnText None [] ∷ instr.Discard
        ∷ instr.Make 0 0 [] (codes "M") ∷ instr.Return ∷ [];
  } ∷ [];
  root = false;
}

-- its lines
abbrev pub hello_lines : List ℕ
hello_lines =
    in_lines
    (
    codes "TEXT(0, 3, \"\\110\\151\\041\")"
    ∷ codes "TYPE(0, \"M:E\", \"M\", 0)"
    ∷ codes "DECLARE(0)"
    ∷ codes "FUNCTION(0, 0, 0)"
    ∷ codes "L0: PUSHTEXT(0);"
    ∷ codes "L1: PRIM(PRINTLN_TEXT);"
    ∷ codes "L2: DROP();"
    ∷ codes "L3: MAKE(0, 0, \"M\");"
    ∷ codes "L4: RETURN();"
    ∷ codes "END(0)"
    ∷ codes "ENTRY(0, 0)"
    ∷ []
    )

-- one instruction of each form
abbrev pub forms : List Instr
forms =
    instr.Push kinds.Int8 (negsuc 127) ∷ instr.Push kinds.Nat64 (pos 7) ∷ instr.PushBool true ∷ instr.PushUnit
    ∷ instr.PushText 12 ∷ instr.Look 3 [] ∷ instr.Look 3 (0 ∷ 10 ∷ []) ∷ instr.Move 1 ∷ instr.Store 2
    ∷ instr.Set 4 (1 ∷ []) ∷ instr.Discard ∷ instr.Arith exact.Divide kinds.Index
    ∷ instr.Wrap wrapped.Subtract kinds.Nat8 [] ∷ instr.Wrap wrapped.Add kinds.Nat8 (1 ∷ 0 ∷ [])
    ∷ instr.Compare orders.LessEqual (Some kinds.Int32) ∷ instr.Compare orders.Equal None ∷ instr.Not
    ∷ instr.Convert kinds.Nat16 ∷ instr.Jump 5 ∷ instr.JumpNot 60 ∷ instr.ForTest 0 1 9
    ∷ instr.ForStep 0 1 8 ∷ instr.Make 2 1 (1 ∷ 0 ∷ []) (codes "A.B") ∷ instr.Take 3
    ∷ instr.Case 3 (4 ∷ 7 ∷ []) ∷ instr.Call 2 [] ∷ instr.Call 2 (0 ∷ 1 ∷ [])
    ∷ instr.Shipped calls.MakeBox (Some 3) [] ∷ instr.Shipped calls.Swap None (1 ∷ 0 ∷ []) ∷ instr.Return
    ∷ instr.Read 1 [] ∷ instr.Put 1 (0 ∷ []) ∷ instr.Deref ∷ instr.Open 0 modes.Write ∷ instr.Again 1
    ∷ instr.Part 1 (2 ∷ []) ∷ instr.Bind 0 1 modes.Again ∷ instr.Close 0 ∷ []

-- their lines
abbrev pub form_lines : List ℕ
form_lines =
    in_lines
    (
    codes "L0: PUSH(INT8, -128);"
    ∷ codes "L1: PUSH(NAT64, 7);"
    ∷ codes "L2: PUSHBOOL(1);"
    ∷ codes "L3: PUSHUNIT();"
    ∷ codes "L4: PUSHTEXT(12);"
    ∷ codes "L5: LOOK(3);"
    ∷ codes "L6: LOOK(3, 0, 10);"
    ∷ codes "L7: MOVE(1);"
    ∷ codes "L8: STORE(2);"
    ∷ codes "L9: SET(4, 1);"
    ∷ codes "L10: DROP();"
    ∷ codes "L11: ARITH(DIVIDE, INDEX);"
    ∷ codes "L12: WRAP(SUBTRACT, NAT8);"
    ∷ codes "L13: WRAP(ADD, NAT8, 1, 0);"
    ∷ codes "L14: COMPARE(LESSEQUAL, INT32);"
    ∷ codes "L15: COMPARE(EQUAL, BOOL);"
    ∷ codes "L16: NOT();"
    ∷ codes "L17: CONVERT(NAT16);"
    ∷ codes "L18: JUMP(L5);"
    ∷ codes "L19: JUMPNOT(L60);"
    ∷ codes "L20: FORTEST(0, 1, L9);"
    ∷ codes "L21: FORSTEP(0, 1, L8);"
    ∷ codes "L22: MAKE(2, 1, 1, 0, \"A.B\");"
    ∷ codes "L23: TAKE(3);"
    ∷ codes "L24: CASE(3, L4, L7);"
    ∷ codes "L25: CALL(2);"
    ∷ codes "L26: CALL(2, 0, 1);"
    ∷ codes "L27: PRIM(MAKE_BOX, 3, \"Standard.Box\");"
    ∷ codes "L28: PRIM(SWAP, 1, 0);"
    ∷ codes "L29: RETURN();"
    ∷ codes "L30: READ(1);"
    ∷ codes "L31: PUT(1, 0);"
    ∷ codes "L32: DEREF();"
    ∷ codes "L33: OPEN(0, WRITE);"
    ∷ codes "L34: AGAIN(1);"
    ∷ codes "L35: PART(1, 2);"
    ∷ codes "L36: BIND(0, 1, AGAIN);"
    ∷ codes "L37: CLOSE(0);"
    ∷ []
    )

-- the lines of instructions from the first on
abbrev pub lines_from_first : List Instr → List ℕ
lines_from_first instrs = numbered instruction_line 0 instrs
