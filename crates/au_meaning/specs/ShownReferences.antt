-- Small programs with references, and what is told of each.
use Rattle.std.specs.Prelude.{◌≡◌, true, List, [], ◌∷◌, ◌++◌, codes}
use Rattle.au_effects.specs.Worlds.{consumed, opened, used, closed}
use Rattle.au_syntax.specs.declared.expressions.BorrowMode.TheVariants as mode
use Rattle.au_syntax.specs.declared.types.Access.TheVariants as access
use Rattle.au_syntax.specs.Expressions.{Node, nil, path, arrow, parenthesized, dereference, borrow}
use Rattle.au_syntax.specs.Expressions.{borrow_part}
use Rattle.au_syntax.specs.Plain.{Bytes}
use Rattle.au_syntax.specs.Statements.{skip, assign_through, case_of, borrow_in, borrow_typed, return_of}
use Rattle.au_syntax.specs.Statements.{arms}
use Rattle.au_syntax.specs.Statements.{no_arms}
use Rattle.au_syntax.specs.Types as written
use Rattle.au_syntax.specs.Types.{WrittenType}
use Rattle.au_types.specs.declared.types.Region.TheVariants.{Static}
use Rattle.au_types.specs.Types as type
use Rattle.au_meaning.specs.Samples.{Note, Tree, Sample, given, told, here, word, noted, linear, bytes}
use Rattle.au_meaning.specs.Samples.{called_tree, block, variable, prints, succeeds, main, byte, plain, pair}
use Rattle.au_meaning.specs.Samples.{maybe_of}
use Rattle.au_meaning.specs.Shown.{Line, tells, line, does, bound, name, key_made, key_taken, key_born}
use Rattle.au_meaning.specs.Worlds.{exit, running, stuck}

-- ---- trees

-- a note of a reference to a pair, which reads or writes
abbrev pub reads_pair : Node Note
reads_pair = noted (type.reads (plain pair) Static)

abbrev pub writes_pair : Node Note
writes_pair = linear (type.writes (plain pair) Static)

-- `r->left`
abbrev pub left_of : Bytes → Tree
left_of r = arrow (noted byte) (word r) (word (codes "left") ∷ [])

-- `&p`, `&!p` and `&~p`, where p is a pair or a reference to one
abbrev pub read_borrow : Bytes → Tree
read_borrow x = borrow reads_pair mode.Read (word x)

abbrev pub write_borrow : Bytes → Tree
write_borrow x = borrow writes_pair mode.Write (word x)

abbrev pub reborrow : Bytes → Tree
reborrow x = borrow writes_pair mode.Reborrow (word x)

-- `borrow x as r in R do .. end borrow;` and `borrow! x as r in R do .. end borrow;`
abbrev pub reading_as : Bytes → Bytes → List Line → Line
reading_as x r body = borrow_in here access.Read (word x) (word r) (word (codes "R")) (block body) here

abbrev pub writing_as : Bytes → Bytes → List Line → Line
writing_as x r body = borrow_in here access.Write (word x) (word r) (word (codes "R")) (block body) here

abbrev pub written_byte : WrittenType
written_byte = written.named (word (codes "Nat8")) written.no_types

-- `var p: Pair := Pair(1, 2);`
abbrev pub pair_made : Line
pair_made = variable (codes "p") (called_tree (noted (plain pair)) (codes "Pair") (bytes 1 ∷ bytes 2 ∷ []))

-- `function first(r: &[Pair, R]): Nat8 is return r->left; end;`
abbrev pub first : Sample
first = record {
  name = codes "first";
  parameters = (codes "r", type.reads (plain pair) Static) ∷ [];
  body = block (return_of here (left_of (codes "r")) ∷ []);
}

-- `function bump(w: &![Pair, R]): Unit is w->left := 6; return nil; end;`
abbrev pub bump : Sample
bump = record {
  name = codes "bump";
  parameters = (codes "w", type.writes (plain pair) Static) ∷ [];
  body = block (
      assign_through here (word (codes "w")) (word (codes "left") ∷ []) (bytes 6)
      ∷ return_of here (nil (noted type.unit)) ∷ []);
}

-- ---- programs

-- `borrow! p as w in R do`
-- `    w->left := 5; bump(&~w);`
-- `    borrow s: &![Pair, S] := &~w do printLn(s->left); end borrow;`
-- `end borrow;`
abbrev pub writing : Line
writing = writing_as (codes "p") (codes "w") (
    assign_through here (word (codes "w")) (word (codes "left") ∷ []) (bytes 5)
    ∷ does type.unit (codes "bump") (reborrow (codes "w") ∷ [])
    ∷ borrow_typed here (word (codes "s")) written_byte mode.Reborrow (word (codes "w"))
    (block (prints byte (left_of (codes "s")) ∷ [])) here
    ∷ [])

-- `borrow p as r in R do`
-- `    printLn(!(&(r->right))); printLn(first(&p)); let d: Pair := !(r);`
-- `end borrow;`
abbrev pub reading : Line
reading = reading_as (codes "p") (codes "r") (
    prints byte (dereference (noted byte) (parenthesized (noted byte)
    (borrow_part reads_pair (word (codes "r")) (word (codes "right") ∷ []))))
    ∷ prints byte (called_tree (noted byte) (codes "first") (read_borrow (codes "p") ∷ []))
    ∷ variable (codes "d") (dereference (noted (plain pair)) (parenthesized writes_pair
    (path writes_pair (word (codes "r")) [])))
    ∷ [])

-- `var p: Pair := Pair(1, 2);`, these two, and
-- `bump(&!p); borrow p as r in R do return ExitSuccess(); end borrow;`
abbrev pub lending : List Sample
lending = main (
    pair_made ∷ writing ∷ reading
    ∷ does type.unit (codes "bump") (write_borrow (codes "p") ∷ [])
    ∷ reading_as (codes "p") (codes "r") (succeeds ∷ [])
    ∷ []) ∷ first ∷ bump ∷ []

-- `case r of when Absent do skip; when Present(value as v: ..) do .. end case;`, where r has this note
abbrev pub case_behind : Node Note → Bytes → List Line → Line
case_behind node r body =
    case_of here (path node (word r) []) (arms here (word (codes "Absent")) [] (block (skip here ∷ []))
    (arms here (word (codes "Present")) (bound (codes "value") (codes "v") ∷ []) (block body) no_arms))

-- `var m: Maybe[Pair] := Present(Pair(1, 2));`
-- `borrow! m as w in R do case w of .. when Present(value as v: &![Pair, R]) do v->left := 5; end case; ..`
-- `borrow m as r in R do case r of .. when Present(value as v: &[Pair, R]) do printLn(v->left); end case; ..`
abbrev pub telling : List Sample
telling = main (
    variable (codes "m") (called_tree (noted (maybe_of (plain pair))) (codes "Present")
    (called_tree (noted (plain pair)) (codes "Pair") (bytes 1 ∷ bytes 2 ∷ []) ∷ []))
    ∷ writing_as (codes "m") (codes "w") (
    case_behind (linear (type.writes (maybe_of (plain pair)) Static)) (codes "w")
    (assign_through here (word (codes "v")) (word (codes "left") ∷ []) (bytes 5) ∷ []) ∷ [])
    ∷ reading_as (codes "m") (codes "r") (
    case_behind (noted (type.reads (maybe_of (plain pair)) Static)) (codes "r")
    (prints byte (left_of (codes "v")) ∷ []) ∷ [])
    ∷ succeeds ∷ []) ∷ []

-- `function inner(p: Pair): Nat8 is`
-- `    borrow p as r in R do borrow p as s in S do return first(&p); end borrow; end borrow;`
-- `end;`
abbrev pub inner : Sample
inner = record {
  name = codes "inner";
  parameters = (codes "p", plain pair) ∷ [];
  body = block (
      reading_as (codes "p") (codes "r") (reading_as (codes "p") (codes "s") (
      return_of here (called_tree (noted byte) (codes "first") (read_borrow (codes "p") ∷ [])) ∷ []) ∷ [])
      ∷ []);
}

-- `var p: Pair := Pair(1, 2); borrow p as r in R do printLn(inner(p)); end borrow; ..`
abbrev pub returning : List Sample
returning = main (
    pair_made
    ∷ reading_as (codes "p") (codes "r") (
    prints byte (called_tree (noted byte) (codes "inner") (name (codes "p") ∷ [])) ∷ [])
    ∷ succeeds ∷ []) ∷ inner ∷ first ∷ []

-- `var p: Pair := Pair(1, 2); first(&p); ..`
abbrev pub dropping : List Sample
dropping = main (
    pair_made ∷ does byte (codes "first") (read_borrow (codes "p") ∷ []) ∷ succeeds ∷ []) ∷ first ∷ []

-- `let k: Key := Key(7);`
-- `borrow k as r in R do let { code as c: Nat8 } := k; printLn(r->code); end borrow; ..`
abbrev pub gone : List Sample
gone = main (
    key_made
    ∷ reading_as (codes "k") (codes "r") (
    key_taken ∷ prints byte (arrow (noted byte) (word (codes "r")) (word (codes "code") ∷ [])) ∷ [])
    ∷ succeeds ∷ []) ∷ []

-- `printLn(!5);`
abbrev pub unreferred : List Sample
unreferred = main (prints byte (dereference (noted byte) (bytes 5)) ∷ succeeds ∷ []) ∷ []

-- what each does
pub record ReferencesAreShown : Type 0 where
  pub lends : told (given lending 99) ≡ tells (line 6 ++ line 2 ++ line 6)
      (opened 0 ∷ used 0 ∷ opened 1 ∷ used 1 ∷ closed 1 ∷ opened 2 ∷ used 2 ∷ closed 2 ∷ closed 0
      ∷ opened 3 ∷ used 3 ∷ opened 4 ∷ used 4 ∷ closed 4 ∷ used 3 ∷ closed 3
      ∷ opened 5 ∷ used 5 ∷ closed 5 ∷ opened 6 ∷ closed 6 ∷ []) 45 (exit true)
  pub returns : told (given returning 99) ≡ tells (line 1)
      (opened 0 ∷ opened 1 ∷ opened 2 ∷ opened 3 ∷ used 3 ∷ closed 3 ∷ closed 2 ∷ closed 1 ∷ closed 0 ∷ [])
      19 (exit true)
  pub drops : told (given dropping 99) ≡ tells [] (opened 0 ∷ used 0 ∷ closed 0 ∷ []) 11 (exit true)
  -- a case behind a reference is a use of its borrow, and its fields are references of the same borrow
  pub tells_cases : told (given telling 99) ≡ tells (line 5)
      (opened 0 ∷ used 0 ∷ used 0 ∷ closed 0 ∷ opened 1 ∷ used 1 ∷ used 1 ∷ closed 1 ∷ []) 20 (exit true)
  -- what a whole expression opens is closed before the tick of its statement, with no tick of its own
  pub closes : told (given dropping 8) ≡ tells [] (opened 0 ∷ used 0 ∷ closed 0 ∷ []) 8 running
  pub call_left : told (given dropping 7) ≡ tells [] (opened 0 ∷ used 0 ∷ []) 7 running
  -- a place that isn't there, and a value that is no reference
  pub place_gone : told (given gone 99) ≡ tells [] (key_born ∷ opened 0 ∷ consumed 0 ∷ []) 7 stuck
  pub no_reference : told (given unreferred 99) ≡ tells [] [] 2 stuck
