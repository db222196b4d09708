-- Small programs, and what is told of each: its output, its events, its ticks and its ending.
use Rattle.std.specs.Prelude.{◌≡◌, ℕ, Bool, true, false, List, [], ◌∷◌, ◌++◌, Some, pos, codes}
use Rattle.std.specs.Fmt.{signed_decimal}
use Rattle.au_type_texts.specs.Types as closed_type
use Rattle.au_effects.specs.Answers.{arithmetic, called}
use Rattle.au_effects.specs.Worlds.{born, consumed}
use Rattle.au_syntax.specs.declared.expressions.BinaryOperator.TheVariants.{Add, Subtract, Less, And, Or}
use Rattle.au_syntax.specs.Expressions.{text, truth, nil, path, named_call, arguments, no_arguments, negation}
use Rattle.au_syntax.specs.Expressions.{choice}
use Rattle.au_syntax.specs.Plain.{Bytes}
use Rattle.au_syntax.specs.Statements.{Statement, skip, destructure, assign, conditional_else, case_of}
use Rattle.au_syntax.specs.Statements.{while_loop, for_loop, discard, return_of, branches, no_branches, arms}
use Rattle.au_syntax.specs.Statements.{no_arms}
use Rattle.au_syntax.specs.Types as written
use Rattle.au_syntax.specs.Types.{Bound}
use Rattle.au_types.specs.Types as type
use Rattle.au_meaning.specs.Samples.{Note, Tree, Sample, Told, given, told, here, word, noted, linear}
use Rattle.au_meaning.specs.Samples.{at_type, bytes, free_name, operated, called_tree, block, variable}
use Rattle.au_meaning.specs.Samples.{prints, succeeds, main, byte, plain, pair, key, maybe_of, exit_code}
use Rattle.au_meaning.specs.Samples.{root_capability}
use Rattle.au_meaning.specs.Worlds.{Event, Ending, exit, abort, running, stuck}

abbrev pub Line : Type 0
Line = Statement Bytes Note (Unit {0})

-- what is told of a run
abbrev pub tells : List ℕ → List Event → ℕ → Ending → Told
tells output events made ending = record { output = output; events = events; made = made; ending = ending }

-- the line of a number
abbrev pub line : ℕ → List ℕ
line n = signed_decimal (pos n) ++ 10 ∷ []

-- a program without other functions
abbrev pub alone : List Line → List Sample
alone body = main body ∷ []

-- a call as a statement
abbrev pub does : type.Meaning → Bytes → List Tree → Line
does of name args = discard here (called_tree (noted of) name args)

-- a field that is bound to a variable
abbrev pub bound : Bytes → Bytes → Bound Bytes
bound field name = record {
  name = record { name = word field; alias = Some (word name) };
  of = written.named (word (codes "Nat8")) written.no_types;
}

abbrev pub says : Bytes → Tree
says bytes = text (noted type.text) bytes

-- a byte of this name, and a truth value
abbrev pub name : Bytes → Tree
name x = free_name byte x

abbrev pub is : Bool → Tree
is b = truth (noted type.truth) b

-- `1 < 2`
abbrev pub less : Tree
less = operated Less type.truth (bytes 1) (bytes 2)

-- `printLn("Hello"); return ExitSuccess();`
abbrev pub hello : List Sample
hello = alone (prints type.text (says (codes "Hello")) ∷ succeeds ∷ [])

-- `var x: Nat8 := 250; printLn(x + 3); printLn(x + 10); ..`
abbrev pub overflow : List Sample
overflow = alone (
    variable (codes "x") (bytes 250)
    ∷ prints byte (operated Add byte (name (codes "x")) (bytes 3))
    ∷ prints byte (operated Add byte (name (codes "x")) (bytes 10))
    ∷ succeeds ∷ [])

-- `var n: Nat8 := 0; while n < limit do n := n + 1; end while; printLn(n); ..`
abbrev pub counting : List Sample
counting = alone (
    variable (codes "n") (bytes 0)
    ∷ while_loop here (operated Less type.truth (name (codes "n")) (name (codes "limit")))
    (block (assign here (word (codes "n")) [] (operated Add byte (name (codes "n")) (bytes 1)) ∷ []))
    ∷ prints byte (name (codes "n")) ∷ succeeds ∷ [])

-- `for i from 1 to limit do printLn(i); end for; for i from 2 to 1 do .. end for; ..`
abbrev pub counted : Tree → Tree → Line
counted first last = for_loop here (word (codes "i")) first last (block (prints byte (name (codes "i")) ∷ []))

abbrev pub turns : List Sample
turns = alone (
    counted (bytes 1) (name (codes "limit")) ∷ counted (bytes 2) (bytes 1)
    ∷ succeeds ∷ [])

-- `if true and 1 < 2 then printLn(if not true then 1 else 2); else skip; end if; ..`
abbrev pub branching : List Sample
branching = alone (
    conditional_else here (branches
    (operated And type.truth (is true) less)
    (block (
    prints byte (choice (noted byte) (negation (noted type.truth) (is true)) (bytes 1) (bytes 2)) ∷ []))
    no_branches) (block (skip here ∷ []))
    ∷ succeeds ∷ [])

-- `if true or 1 < 2 then ..`: the right side isn't reached
abbrev pub short : List Sample
short = alone (
    prints type.truth (operated Or type.truth (is true) less)
    ∷ succeeds ∷ [])

-- `var p: Pair := Pair(1, 2); p.right := 9; printLn(p.right); ..`
abbrev pub parts : List Sample
parts = alone (
    variable (codes "p") (called_tree (noted (plain pair)) (codes "Pair") (bytes 1 ∷ bytes 2 ∷ []))
    ∷ assign here (word (codes "p")) (word (codes "right") ∷ []) (bytes 9)
    ∷ prints byte (path (noted byte) (word (codes "p")) (word (codes "right") ∷ []))
    ∷ succeeds ∷ [])

-- `let k: Key := Key(7);` and `let { code as c: Nat8 } := k;`
abbrev pub key_made : Line
key_made = variable (codes "k") (called_tree (linear (plain key)) (codes "Key") (bytes 7 ∷ []))

abbrev pub key_taken : Line
key_taken =
    destructure here (bound (codes "code") (codes "c") ∷ []) (path (linear (plain key)) (word (codes "k")) [])

abbrev pub once : List Sample
once = alone (key_made ∷ key_taken ∷ prints byte (name (codes "c")) ∷ succeeds ∷ [])

abbrev pub twice : List Sample
twice = alone (key_made ∷ key_taken ∷ key_taken ∷ succeeds ∷ [])

-- `case Present(4) of when Absent do skip; when Present(value as v: Nat8) do printLn(v); end case; ..`
abbrev pub cases : List Sample
cases = alone (
    case_of here (called_tree (noted (maybe_of byte)) (codes "Present") (bytes 4 ∷ []))
    (arms here (word (codes "Absent")) [] (block (skip here ∷ []))
    (arms here (word (codes "Present")) (bound (codes "value") (codes "v") ∷ [])
    (block (prints byte (name (codes "v")) ∷ [])) no_arms))
    ∷ succeeds ∷ [])

-- `printLn(difference(b => 2, a => 9));` with `function difference(a: Nat8, b: Nat8): Nat8`
abbrev pub difference : Sample
difference = record {
  name = codes "difference";
  parameters = (codes "a", byte) ∷ (codes "b", byte) ∷ [];
  body = block (return_of here (operated Subtract byte (name (codes "a")) (name (codes "b"))) ∷ []);
}

abbrev pub naming : List Sample
naming =
    main (prints byte (named_call (noted byte) (word (codes "difference"))
    (arguments (word (codes "b")) (bytes 2) (arguments (word (codes "a")) (bytes 9) no_arguments)) tt)
    ∷ succeeds ∷ []) ∷ difference ∷ []

-- `show(5); show(true);` with `generic [T: Free] function show(x: T): Unit is printLn(x); return nil; end;`
abbrev pub show : Sample
show = record {
  name = codes "show";
  parameters = (codes "x", type.parameter (codes "T")) ∷ [];
  body = block (
      prints (type.parameter (codes "T")) (free_name (type.parameter (codes "T")) (codes "x"))
      ∷ return_of here (nil (noted type.unit)) ∷ []);
}

abbrev pub shows : type.Meaning → Tree → Line
shows t e = discard here (called_tree (at_type t type.unit) (codes "show") (e ∷ []))

abbrev pub generic : List Sample
generic = main (shows byte (bytes 5) ∷ shows type.truth (is true) ∷ succeeds ∷ []) ∷ show ∷ []

-- `abort("no"); ..`
abbrev pub aborting : List Sample
aborting = alone (does type.unit (codes "abort") (says (codes "no") ∷ []) ∷ succeeds ∷ [])

-- `printLn(modularAdd(250, 10)); printLn(spanLength("abc")); ..`
abbrev pub shipped : List Sample
shipped = alone (
    prints byte (called_tree (noted byte) (codes "modularAdd") (bytes 250 ∷ bytes 10 ∷ []))
    ∷ prints byte (called_tree (noted byte) (codes "spanLength") (says (codes "abc") ∷ []))
    ∷ succeeds ∷ [])

-- `function main(root: RootCapability): ExitCode is surrenderRoot(root); return ExitFailure(); end;`
abbrev pub rooted : List Sample
rooted = record {
  name = codes "main";
  parameters = (codes "root", plain root_capability) ∷ [];
  body = block (
      does type.unit (codes "surrenderRoot")
      (path (linear (plain root_capability)) (word (codes "root")) [] ∷ [])
      ∷ return_of here (called_tree (noted (plain exit_code)) (codes "ExitFailure") []) ∷ []);
} ∷ []

-- the birth of the key, and of the root
abbrev pub key_born : Event
key_born = born 0 (closed_type.named key closed_type.no_types) (codes "Main")

abbrev pub root_born : Event
root_born = born 0 (closed_type.named root_capability closed_type.no_types) (codes "Austral.Pervasive")

-- what each does
pub record ProgramsAreShown : Type 0 where
  pub hello_exits : told (given hello 9) ≡ tells (codes "Hello\n") [] 5 (exit true)
  pub overflows : told (given overflow 99) ≡ tells (line 253) [] 10 (abort arithmetic)
  pub counts : told (given counting 99) ≡ tells (line 3) [] 35 (exit true)
  pub turn : told (given turns 99) ≡ tells (line 1 ++ line 2 ++ line 3) [] 20 (exit true)
  pub branch : told (given branching 99) ≡ tells (line 2) [] 14 (exit true)
  pub skip_right : told (given short 99) ≡ tells (codes "true\n") [] 6 (exit true)
  pub part : told (given parts 99) ≡ tells (line 9) [] 11 (exit true)
  pub taken_once : told (given once 99) ≡ tells (line 7) (key_born ∷ consumed 0 ∷ []) 10 (exit true)
  pub taken_twice : told (given twice 99) ≡ tells [] (key_born ∷ consumed 0 ∷ []) 6 stuck
  pub arm : told (given cases 99) ≡ tells (line 4) [] 8 (exit true)
  pub named : told (given naming 99) ≡ tells (line 7) [] 11 (exit true)
  pub types : told (given generic 99) ≡ tells (line 5 ++ codes "true\n") [] 18 (exit true)
  pub aborts : told (given aborting 99) ≡ tells [] [] 2 (abort (called (codes "no")))
  pub ships : told (given shipped 99) ≡ tells (line 4 ++ line 3) [] 11 (exit true)
  pub root : told (given rooted 99) ≡ tells [] (root_born ∷ consumed 0 ∷ []) 5 (exit false)
  -- so many ticks as are wanted are enough, and with fewer the run is cut
  pub enough : told (given hello 5) ≡ tells (codes "Hello\n") [] 5 (exit true)
  pub fewer : told (given hello 4) ≡ tells (codes "Hello\n") [] 4 running
  pub one_tick : told (given hello 1) ≡ tells [] [] 1 running
  pub no_ticks : told (given rooted 0) ≡ tells [] (root_born ∷ []) 0 running
