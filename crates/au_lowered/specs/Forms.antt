-- Programs with the forms that the other samples haven't, and the code of each, which was written by hand.
use Rattle.std.specs.Prelude.{◌≡◌, ℕ, true, false, List, [], ◌∷◌, ◌++◌, map, Option, Some, None, pos, negsuc}
use Rattle.std.specs.Prelude.{codes, if◌then◌else◌}
use Rattle.std.specs.Str.{bytes_eq}
use Rattle.au_base.specs.declared.kinds.IntKind.TheVariants.{Nat8, Int8, Index}
use Rattle.au_type_texts.specs.Types as closed_type
use Rattle.au_type_texts.specs.Types.{ClosedType}
use Rattle.au_effects.specs.Values as values
use Rattle.au_ints.specs.declared.operations.WrapOp.TheVariants as wrap_op
use Rattle.au_low.specs.declared.code.Code.{Code}
use Rattle.au_low.specs.declared.instructions.Instr.TheVariants as instr
use Rattle.au_low.specs.declared.instructions.Mode.TheVariants as mode
use Rattle.au_low.specs.Runs.{low_run}
use Rattle.au_meaning.specs.Views.{Act, Callee, Function, ships}
use Rattle.au_meaning.specs.Samples.{Note, Tree, Sample, Instance, here, word, noted, linear, at_type, bytes}
use Rattle.au_meaning.specs.Samples.{called_tree, block, variable, prints, succeeds, main, byte, plain, pair}
use Rattle.au_meaning.specs.Samples.{key, maybe_of, exit_code, maybe}
use Rattle.au_meaning.specs.Shown.{Line, alone, does, says, name, is}
use Rattle.au_meaning.specs.ShownReferences.{written_byte, lending}
use Rattle.au_shipped.specs.declared.prims.ShippedCall.TheVariants as prim
use Rattle.au_syntax.specs.declared.expressions.BorrowMode.TheVariants as borrowing
use Rattle.au_syntax.specs.Expressions.{borrow, negative, path, named_call, parenthesized, typed, arguments}
use Rattle.au_syntax.specs.Expressions.{no_arguments}
use Rattle.au_syntax.specs.Plain.{Bytes}
use Rattle.au_syntax.specs.Statements.{skip, destructure, assign, conditional, conditional_else, case_of}
use Rattle.au_syntax.specs.Statements.{while_loop, for_loop, discard, return_of, branches, no_branches, arms}
use Rattle.au_syntax.specs.Statements.{no_arms}
use Rattle.au_syntax.specs.Types.{Bound}
use Rattle.au_types.specs.declared.types.Region.TheVariants.{Static}
use Rattle.au_types.specs.Types as type
use Rattle.au_lowered.specs.Drafts as drafts
use Rattle.au_lowered.specs.Expressions.{acts, by_labels, literal}
use Rattle.au_lowered.specs.Programs.{instructions_of, text_number}
use Rattle.au_lowered.specs.Samples as closing
use Rattle.au_lowered.specs.Samples.{LowersInStep, LowersOver, by_hand, taking}
use Rattle.au_lowered.specs.Shown.{put, make, ship, print, succeed, entry}

-- ---- trees

abbrev pub fails : Line
fails = return_of here (called_tree (noted (plain exit_code)) (codes "ExitFailure") [])

-- a field that is bound to a variable
abbrev pub bound : Bytes → Bytes → Bound Bytes
bound field name =
    record { name = record { name = word field; alias = Some (word name) }; of = written_byte }

-- ---- conditionals and loops

-- `if false then printLn(1); else if true then printLn((2 : Nat8)); end if;`
-- `while true do return ExitFailure(); end while; ..`
abbrev pub chain : List Sample
chain = alone (
    conditional here (
    branches (is false) (block (prints byte (bytes 1) ∷ []))
    (branches (is true)
    (block (prints byte (parenthesized (noted byte) (typed (noted byte) (bytes 2) written_byte)) ∷ []))
    no_branches))
    ∷ while_loop here (is true) (block (fails ∷ []))
    ∷ succeeds ∷ [])

abbrev pub chain_code : Code
chain_code = entry [] (exit_code ∷ []) 0 (
    instr.PushBool false ∷ instr.JumpNot 6 ∷ put 1 ∷ print prim.PrintLnInt (
    instr.Jump 11
    ∷ instr.PushBool true ∷ instr.JumpNot 11 ∷ put 2 ∷ print prim.PrintLnInt (
    instr.PushBool true ∷ instr.JumpNot 15 ∷ make 0 1 [] ∷ instr.Return ∷ succeed 0)))

-- `if false then return ExitFailure(); else skip; end if;`
-- `case Absent() of when Present(value as v: Nat8) do return ExitFailure();`
-- `when Absent do skip; end case; ..`
abbrev pub returning : List Sample
returning = alone (
    conditional_else here (branches (is false) (block (fails ∷ [])) no_branches) (block (skip here ∷ []))
    ∷ case_of here (called_tree (noted (maybe_of byte)) (codes "Absent") [])
    (arms here (word (codes "Present")) (bound (codes "value") (codes "v") ∷ []) (block (fails ∷ []))
    (arms here (word (codes "Absent")) [] (block (skip here ∷ [])) no_arms))
    ∷ succeeds ∷ [])

abbrev pub returning_code : Code
returning_code = entry [] (exit_code ∷ maybe ∷ []) 1 (
    instr.PushBool false ∷ instr.JumpNot 4 ∷ make 0 1 [] ∷ instr.Return
    ∷ make 1 0 [] ∷ instr.Case 0 (8 ∷ 6 ∷ []) ∷ make 0 1 [] ∷ instr.Return
    ∷ succeed 0)

-- ---- slots

-- `if true then var a: Nat8 := 1; var b: Nat8 := 2; printLn(b); end if;`
-- `let { right as y: Nat8, left as x: Nat8 } := Pair(right => 3, left => 4); printLn(x);`
-- `for i from 1 to 1 do var c: Nat8 := i; printLn(c); end for; ..`
abbrev pub slots : List Sample
slots = alone (
    conditional here (branches (is true) (block (
    variable (codes "a") (bytes 1) ∷ variable (codes "b") (bytes 2) ∷ prints byte (name (codes "b")) ∷ []))
    no_branches)
    ∷ destructure here (bound (codes "right") (codes "y") ∷ bound (codes "left") (codes "x") ∷ [])
    (named_call (noted (plain pair)) (word (codes "Pair"))
    (arguments (word (codes "right")) (bytes 3) (arguments (word (codes "left")) (bytes 4) no_arguments)) tt)
    ∷ prints byte (name (codes "x"))
    ∷ for_loop here (word (codes "i")) (bytes 1) (bytes 1) (block (
    variable (codes "c") (name (codes "i")) ∷ prints byte (name (codes "c")) ∷ []))
    ∷ succeeds ∷ [])

abbrev pub slots_code : Code
slots_code = entry [] (pair ∷ exit_code ∷ []) 6 (
    instr.PushBool true ∷ instr.JumpNot 9
    ∷ put 1 ∷ instr.Store 0 ∷ put 2 ∷ instr.Store 1 ∷ instr.Look 1 [] ∷ print prim.PrintLnInt (
    put 3 ∷ put 4 ∷ make 0 0 (1 ∷ 0 ∷ []) ∷ instr.Take 0
    ∷ instr.Look 0 [] ∷ print prim.PrintLnInt (
    put 1 ∷ instr.Store 2 ∷ put 1 ∷ instr.Store 3 ∷ instr.ForTest 2 3 29
    ∷ instr.Look 2 [] ∷ instr.Store 4 ∷ instr.Look 4 [] ∷ instr.Store 5
    ∷ instr.Look 5 [] ∷ print prim.PrintLnInt (
    instr.ForStep 2 3 21 ∷ succeed 1))))

-- ---- calls and texts

-- `printLn(modularAdd(y => 10, x => 250)); printLn(x => 7); toNat8(5); printLn(-5);`
-- `printLn("b"); printLn("a"); printLn("b"); ..`
abbrev pub orders : List Sample
orders = alone (
    prints byte (named_call (noted byte) (word (codes "modularAdd"))
    (arguments (word (codes "y")) (bytes 10) (arguments (word (codes "x")) (bytes 250) no_arguments)) tt)
    ∷ discard here (named_call (at_type byte type.unit) (word (codes "printLn"))
    (arguments (word (codes "x")) (bytes 7) no_arguments) tt)
    ∷ does (maybe_of byte) (codes "toNat8") (bytes 5 ∷ [])
    ∷ prints (type.integer Int8) (negative (noted (type.integer Int8)) (record { value = pos 5; digits = 1 }))
    ∷ prints type.text (says (codes "b")) ∷ prints type.text (says (codes "a"))
    ∷ prints type.text (says (codes "b"))
    ∷ succeeds ∷ [])

abbrev pub orders_code : Code
orders_code = entry (codes "b" ∷ codes "a" ∷ []) (exit_code ∷ []) 0 (
    put 10 ∷ put 250 ∷ instr.Wrap wrap_op.Add Nat8 (1 ∷ 0 ∷ []) ∷ print prim.PrintLnInt (
    put 7 ∷ print prim.PrintLnInt (
    put 5 ∷ instr.Convert Nat8 ∷ instr.Discard
    ∷ instr.Push Int8 (negsuc 4) ∷ print prim.PrintLnInt (
    instr.PushText 0 ∷ print prim.PrintLnText (
    instr.PushText 1 ∷ print prim.PrintLnText (
    instr.PushText 0 ∷ print prim.PrintLnText (succeed 0)))))))

-- ---- rounds

-- `function plain(x: Key): Nat8 is let { code as v: Nat8 } := x; return v; end;`
abbrev pub key_opened : Line
key_opened =
    destructure here (bound (codes "code") (codes "v") ∷ []) (path (linear (plain key)) (word (codes "x")) [])

abbrev pub key_with : Tree → Tree
key_with e =
    named_call (linear (plain key)) (word (codes "Key")) (arguments (word (codes "code")) e no_arguments) tt

abbrev pub added : Tree → Tree → Tree
added a b = called_tree (noted byte) (codes "modularAdd") (a ∷ b ∷ [])

abbrev pub of_key : Bytes → Tree → Sample
of_key function e = record {
  name = function;
  parameters = (codes "x", plain key) ∷ [];
  body = block (key_opened ∷ return_of here e ∷ []);
}

-- `function f(x: Key): Nat8 is`
-- `    let { code as v: Nat8 } := x; return plain(Key(code => modularAdd(v, 1)));`
-- `end;`
-- `let rounds: Nat8 := 10; var sum: Nat8 := 0;`
-- `for k from 1 to rounds do sum := modularAdd(sum, f(Key(code => k))); end for; printLn(sum); ..`
abbrev pub rounds : List Sample
rounds = main (
    variable (codes "rounds") (bytes 10)
    ∷ variable (codes "sum") (bytes 0)
    ∷ for_loop here (word (codes "k")) (bytes 1) (name (codes "rounds")) (block (
    assign here (word (codes "sum")) [] (added (name (codes "sum"))
    (called_tree (noted byte) (codes "f") (key_with (name (codes "k")) ∷ []))) ∷ []))
    ∷ prints byte (name (codes "sum")) ∷ succeeds ∷ [])
    ∷ of_key (codes "plain") (name (codes "v"))
    ∷ of_key (codes "f")
    (called_tree (noted byte) (codes "plain") (key_with (added (name (codes "v")) (bytes 1)) ∷ []))
    ∷ []

abbrev pub rounds_code : Code
rounds_code = by_hand [] (key ∷ exit_code ∷ []) (
    closing.plain 5 (
    put 10 ∷ instr.Store 0 ∷ put 0 ∷ instr.Store 1
    ∷ put 1 ∷ instr.Store 2 ∷ instr.Look 0 [] ∷ instr.Store 3 ∷ instr.ForTest 2 3 18
    ∷ instr.Look 2 [] ∷ instr.Store 4
    ∷ instr.Look 1 [] ∷ instr.Look 4 [] ∷ make 0 0 (0 ∷ []) ∷ instr.Call 1 (0 ∷ [])
    ∷ instr.Wrap wrap_op.Add Nat8 [] ∷ instr.Set 1 []
    ∷ instr.ForStep 2 3 9
    ∷ instr.Look 1 [] ∷ print prim.PrintLnInt (succeed 1))
    ∷ taking 1 2 (
    instr.Move 0 ∷ instr.Take 1
    ∷ instr.Look 1 [] ∷ put 1 ∷ instr.Wrap wrap_op.Add Nat8 [] ∷ make 0 0 (0 ∷ []) ∷ instr.Call 2 (0 ∷ [])
    ∷ instr.Return ∷ [])
    ∷ taking 1 2 (instr.Move 0 ∷ instr.Take 1 ∷ instr.Look 1 [] ∷ instr.Return ∷ []) ∷ [])

-- its instances, in the order in which calls reach them
abbrev pub met : List Instance
met = closing.alone 0 ∷ closing.alone 2 ∷ closing.alone 1 ∷ []

-- ---- a birth in a shipped call

-- `Box[Nat8]`, as a type and as a closed one
abbrev pub box_of_byte : type.Meaning
box_of_byte = type.named closing.box (type.arguments (type.of_type byte) type.no_arguments)

abbrev pub closed_box : ClosedType
closed_box =
    closed_type.named closing.box (closed_type.types (closed_type.integer Nat8) closed_type.no_types)

-- what `makeBox` and `unbox` call
abbrev pub box_calls : Bytes → Option (Callee ℕ)
box_calls name =
    if bytes_eq name (codes "makeBox")
    then Some (record { parameters = codes "value" ∷ []; act = ships prim.MakeBox (Some closed_box) })
    else if bytes_eq name (codes "unbox")
    then Some (record { parameters = codes "box" ∷ []; act = ships prim.Unbox None })
    else None

-- `let b: Box[Nat8] := makeBox(7); printLn(unbox(b)); ..`
abbrev pub boxing : List (Function ℕ Note (Unit {0}))
boxing = map (closing.with_calls box_calls) (closing.closed_over (closing.alone 0 ∷ []) (alone (
    variable (codes "b") (called_tree (linear box_of_byte) (codes "makeBox") (bytes 7 ∷ []))
    ∷ prints byte (called_tree (noted byte) (codes "unbox")
    (path (linear box_of_byte) (word (codes "b")) [] ∷ []))
    ∷ succeeds ∷ [])))

abbrev pub boxing_code : Code
boxing_code = entry [] (closing.box ∷ exit_code ∷ []) 1 (
    put 7 ∷ instr.Shipped prim.MakeBox (Some 0) [] ∷ instr.Store 0
    ∷ instr.Move 0 ∷ ship prim.Unbox ∷ print prim.PrintLnInt (succeed 1))

-- ---- a buffer behind references

-- `Buffer[Nat8]`, as a type and as a closed one
abbrev pub buffer_of_byte : type.Meaning
buffer_of_byte = type.named closing.buffer (type.arguments (type.of_type byte) type.no_arguments)

abbrev pub closed_buffer : ClosedType
closed_buffer =
    closed_type.named closing.buffer (closed_type.types (closed_type.integer Nat8) closed_type.no_types)

-- what calls of buffers call
abbrev pub of_buffer : List Bytes → Act ℕ → Option (Callee ℕ)
of_buffer parameters act = Some (record { parameters = parameters; act = act })

abbrev pub buffer_calls : Bytes → Option (Callee ℕ)
buffer_calls name =
    if bytes_eq name (codes "makeEmpty") then of_buffer [] (ships prim.MakeEmpty (Some closed_buffer))
    else if bytes_eq name (codes "insertBack")
    then of_buffer (codes "buffer" ∷ codes "element" ∷ []) (ships prim.InsertBack None)
    else if bytes_eq name (codes "length") then of_buffer (codes "buffer" ∷ []) (ships prim.Length None)
    else if bytes_eq name (codes "removeBack")
    then of_buffer (codes "buffer" ∷ []) (ships prim.RemoveBack None)
    else if bytes_eq name (codes "destroyEmpty")
    then of_buffer (codes "buffer" ∷ []) (ships prim.DestroyEmpty None)
    else None

-- `&b` and `&!b`
abbrev pub read_buffer : Tree
read_buffer = borrow (noted (type.reads buffer_of_byte Static)) borrowing.Read (word (codes "b"))

abbrev pub write_buffer : Tree
write_buffer = borrow (linear (type.writes buffer_of_byte Static)) borrowing.Write (word (codes "b"))

-- `let b: Buffer[Nat8] := makeEmpty(); insertBack(&!b, 7); printLn(length(&b));`
-- `printLn(removeBack(&!b)); destroyEmpty(b); ..`
abbrev pub filling : List (Function ℕ Note (Unit {0}))
filling = map (closing.with_calls buffer_calls) (closing.closed_over (closing.alone 0 ∷ []) (alone (
    variable (codes "b") (called_tree (linear buffer_of_byte) (codes "makeEmpty") [])
    ∷ does type.unit (codes "insertBack") (write_buffer ∷ bytes 7 ∷ [])
    ∷ prints (type.integer Index)
    (called_tree (noted (type.integer Index)) (codes "length") (read_buffer ∷ []))
    ∷ prints byte (called_tree (noted byte) (codes "removeBack") (write_buffer ∷ []))
    ∷ does type.unit (codes "destroyEmpty") (path (linear buffer_of_byte) (word (codes "b")) [] ∷ [])
    ∷ succeeds ∷ [])))

abbrev pub filling_code : Code
filling_code = entry [] (closing.buffer ∷ exit_code ∷ []) 1 (
    instr.Shipped prim.MakeEmpty (Some 0) [] ∷ instr.Store 0
    ∷ instr.Open 0 mode.Write ∷ put 7 ∷ ship prim.InsertBack ∷ instr.Close 0 ∷ instr.Discard
    ∷ instr.Open 0 mode.Read ∷ ship prim.Length ∷ ship prim.PrintLnInt ∷ instr.Close 0 ∷ instr.Discard
    ∷ instr.Open 0 mode.Write ∷ ship prim.RemoveBack ∷ ship prim.PrintLnInt ∷ instr.Close 0 ∷ instr.Discard
    ∷ instr.Move 0 ∷ ship prim.DestroyEmpty ∷ instr.Discard ∷ succeed 1)

-- ---- pieces

-- literals of constants, and shipped calls whose arguments aren't in declared order
pub record PiecesAreShown : Type 0 where
  pub of_unit : literal values.unit 7 ≡ drafts.plain instr.PushUnit ∷ []
  pub of_truth : literal (values.truth true) 7 ≡ drafts.plain (instr.PushBool true) ∷ []
  pub of_number : literal (values.number Int8 (negsuc 4)) 7 ≡ drafts.plain (instr.Push Int8 (negsuc 4)) ∷ []
  pub of_text : literal (values.text (codes "a")) 7 ≡ drafts.pushes_text (codes "a") ∷ []
  pub ordered : acts (ships prim.Swap None) (1 ∷ 0 ∷ []) 7
      ≡ drafts.plain (instr.Shipped prim.Swap None (1 ∷ 0 ∷ [])) ∷ []
  pub declared : acts (ships prim.Swap None) (0 ∷ 1 ∷ []) 7
      ≡ drafts.plain (instr.Shipped prim.Swap None []) ∷ []
  pub labelled : by_labels (codes "c" ∷ codes "a" ∷ codes "b" ∷ []) (codes "a" ∷ codes "b" ∷ codes "c" ∷ [])
      ≡ 1 ∷ 2 ∷ 0 ∷ []
  pub again : text_number (codes "a" ∷ codes "b" ∷ []) (codes "b") ≡ 1

-- what each is lowered to, and that it does what it means
pub record FormsAreLowered : Type 0 where
  pub chain : LowersInStep (closing.alone 0 ∷ []) chain chain_code
  pub returning : LowersInStep (closing.alone 0 ∷ []) returning returning_code
  pub slots : LowersInStep (closing.alone 0 ∷ []) slots slots_code
  pub orders : LowersInStep (closing.alone 0 ∷ []) orders orders_code
  pub in_rounds : LowersInStep met rounds rounds_code
  pub instructions : instructions_of (closing.closed_over met rounds) ≡ 35
  pub steps : (low_run true rounds_code [] 299).made ≡ 224
  pub in_boxing : LowersOver boxing boxing_code
  pub in_filling : LowersOver filling filling_code
  pub pieces : PiecesAreShown

-- ---- references

-- the code of a program that lends
abbrev pub lending_code : Code
lending_code = by_hand [] (pair ∷ exit_code ∷ []) (
    closing.plain 3 (
    put 1 ∷ put 2 ∷ make 0 0 (0 ∷ 1 ∷ []) ∷ instr.Store 0
    ∷ instr.Bind 0 1 mode.Write
    ∷ put 5 ∷ instr.Put 1 (0 ∷ [])
    ∷ instr.Again 1 ∷ instr.Call 2 (0 ∷ []) ∷ instr.Close 1 ∷ instr.Discard
    ∷ instr.Bind 1 2 mode.Again ∷ instr.Read 2 (0 ∷ []) ∷ print prim.PrintLnInt (
    instr.Close 1 ∷ instr.Close 0
    ∷ instr.Bind 0 1 mode.Read
    ∷ instr.Part 1 (1 ∷ []) ∷ instr.Deref ∷ print prim.PrintLnInt (
    instr.Open 0 mode.Read ∷ instr.Call 1 (0 ∷ []) ∷ ship prim.PrintLnInt ∷ instr.Close 1 ∷ instr.Discard
    ∷ instr.Look 1 [] ∷ instr.Deref ∷ instr.Store 2
    ∷ instr.Close 0
    ∷ instr.Open 0 mode.Write ∷ instr.Call 2 (0 ∷ []) ∷ instr.Close 0 ∷ instr.Discard
    ∷ instr.Bind 0 1 mode.Read ∷ succeed 1)))
    ∷ taking 1 1 (instr.Read 0 (0 ∷ []) ∷ instr.Return ∷ [])
    ∷ taking 1 1 (put 6 ∷ instr.Put 0 (0 ∷ []) ∷ instr.PushUnit ∷ instr.Return ∷ []) ∷ [])

-- its instances
abbrev pub lent : List Instance
lent = closing.alone 0 ∷ closing.alone 1 ∷ closing.alone 2 ∷ []

-- what it is lowered to, and that this does what it means
pub record ReferencesAreLowered : Type 0 where
  pub in_lending : LowersInStep lent lending lending_code
