-- Rows of statements: each form with one that is accepted and some that are refused. The statement stands at
-- the first place of line 1, and each block in it from line 2 on.
use Rattle.std.specs.Prelude.{ℕ, List, [], ◌∷◌, true, Option, Some, None, codes}
use Rattle.au_base.specs.declared.kinds.IntKind.TheVariants as kinds
use Rattle.au_syntax.specs.declared.expressions.BinaryOperator.TheVariants as operators
use Rattle.au_syntax.specs.declared.expressions.BorrowMode.{BorrowMode}
use Rattle.au_syntax.specs.declared.expressions.BorrowMode.TheVariants as borrows
use Rattle.au_syntax.specs.declared.statements.Binding.TheVariants.{Let, Var}
use Rattle.au_syntax.specs.declared.types.Access.{Access}
use Rattle.au_syntax.specs.declared.types.Access.TheVariants as access
use Rattle.au_syntax.specs.Expressions.{borrow, nil, truth}
use Rattle.au_syntax.specs.Plain.{Bytes, PlainArms, PlainExpression, PlainStatement, PlainStatements}
use Rattle.au_syntax.specs.Statements.{skip, declare, destructure, assign, assign_through, conditional}
use Rattle.au_syntax.specs.Statements.{conditional_else, case_of, while_loop, for_loop, borrow_in}
use Rattle.au_syntax.specs.Statements.{borrow_typed, discard, return_of, no_statements, branches, no_branches}
use Rattle.au_syntax.specs.Statements.{arms, no_arms}
use Rattle.au_syntax.specs.Types.{Bound, WrittenType, named as of_name, reference, no_types, types}
use Rattle.au_types.specs.declared.types.Region.TheVariants as regions
use Rattle.au_types.specs.Types as mean
use Rattle.au_types.specs.Types.{Meaning}
use Rattle.au_instances.specs.Examples.{nat8, of_one, option}
use Rattle.au_typing.specs.TypingExamples.{alone, boxed, calls, here, kept, mention, named, one, operation}
use Rattle.au_typing.specs.TypingExamples.{read}
use Rattle.au_typing.specs.TypingExamples.{whole, write}
use Rattle.au_typing.specs.Faults.{Why, unknown, different, not_free, shape, after_return, arms_wanted}
use Rattle.au_typing.specs.Faults.{assignable_wanted, integer_wanted, labels_wanted, range_wanted}
use Rattle.au_typing.specs.Faults.{record_wanted, reference_wanted, union_wanted, write_reference_wanted}
use Rattle.au_typing.specs.Rules.{int32}
use Rattle.au_typing.specs.DerivationExamples.{Example, at_line, bad, block, good}

-- ---- trees

abbrev pub nat8_type : WrittenType
nat8_type = alone (codes "Nat8")

abbrev pub box_type : WrittenType
box_type = of_name (named (codes "Box")) (types nat8_type no_types)

-- a reference to a written type, into the region of this name
abbrev pub into : Access → Bytes → WrittenType → WrittenType
into kind region of = reference (at_line 1) kind of (named region)

abbrev pub skips : PlainStatements
skips = block (skip (at_line 2) ∷ [])

abbrev pub returns_one : ℕ → PlainStatement
returns_one line = return_of (at_line line) (whole 1)

-- `let x: T := e;` and `var x: T := e;`
abbrev pub lets : WrittenType → PlainExpression → PlainStatement
lets t e = declare (at_line 1) Let (named (codes "x")) t e

abbrev pub vars : WrittenType → PlainExpression → PlainStatement
vars t e = declare (at_line 1) Var (named (codes "x")) t e

-- a bound field with its type
abbrev pub bind : Bytes → WrittenType → Bound Bytes
bind name t = record { name = record { name = named name; alias = None }; of = t }

abbrev pub takes : List (Bound Bytes) → PlainExpression → PlainStatement
takes binds e = destructure (at_line 1) binds e

abbrev pub both_fields : List (Bound Bytes)
both_fields = bind (codes "n") nat8_type ∷ bind (codes "l") box_type ∷ []

-- `x.field := e;`, `x := e;` and `r->field := e;`
abbrev pub sets : Bytes → Bytes → PlainExpression → PlainStatement
sets x field e = assign (at_line 1) (named x) (named field ∷ []) e

abbrev pub set_whole : Bytes → PlainExpression → PlainStatement
set_whole x e = assign (at_line 1) (named x) [] e

abbrev pub puts : Bytes → Bytes → PlainExpression → PlainStatement
puts r field e = assign_through (at_line 1) (named r) (named field ∷ []) e

-- `when name(binds) do skip;`, before other arms
abbrev pub arm : Bytes → List (Bound Bytes) → PlainArms → PlainArms
arm name binds rest = arms (at_line 1) (named name) binds skips rest

abbrev pub some_arm : WrittenType → PlainArms → PlainArms
some_arm t rest = arm (codes "Some") (bind (codes "value") t ∷ []) rest

abbrev pub cases : PlainExpression → PlainArms → PlainStatement
cases e all = case_of (at_line 1) e all

-- `for j from e to d do x := j; end for;`
abbrev pub loops : Bytes → PlainExpression → PlainExpression → PlainStatement
loops x e d =
    for_loop (at_line 1) (named (codes "j")) e d
    (block (assign (at_line 2) (named x) [] (mention (codes "j")) ∷ []))

-- `borrow x as p in S do ..` and `borrow p: T := mode x do ..`
abbrev pub lends : Access → Bytes → List PlainStatement → PlainStatement
lends kind x inner =
    borrow_in (at_line 1) kind (named x) (named (codes "p")) (named (codes "S")) (block inner) (at_line 9)

abbrev pub lends_typed : BorrowMode → Bytes → WrittenType → PlainStatement
lends_typed mode x t =
    borrow_typed (at_line 1) (named (codes "p")) t mode (named x) skips (at_line 9)

-- `let y: T := e;` in the second line
abbrev pub keeps : WrittenType → PlainExpression → PlainStatement
keeps t e = declare (at_line 2) Let (named (codes "y")) t e

abbrev pub lent_type : Meaning → Meaning
lent_type of = mean.reads of (regions.Named (codes "S"))

abbrev pub written_for : Meaning → Meaning
written_for of = mean.writes of (regions.Named (codes "S"))

-- ---- rows

-- one statement that is accepted, and one that is refused at its place
abbrev pub ok : PlainStatement → Example
ok s = good (s ∷ [])

abbrev pub no_good : PlainStatement → Why → Example
no_good s cause = bad (s ∷ []) 1 cause

abbrev pub declarations : List Example
declarations =
    ok (skip (at_line 1))
    ∷ ok (lets nat8_type (whole 5))
    ∷ no_good (lets nat8_type (whole 300)) (shape (range_wanted kinds.Nat8))
    ∷ no_good (lets nat8_type (mention (codes "b"))) (different nat8 mean.truth)
    ∷ no_good (lets (alone (codes "Foo")) (mention (codes "y"))) (unknown (codes "Foo"))
    ∷ ok (vars box_type (mention (codes "l")))
    ∷ no_good (vars box_type (mention (codes "k"))) (different boxed kept)
    ∷ no_good (lets (into access.Read (codes "R") box_type) (borrow here borrows.Read (named (codes "l"))))
    (different (read boxed) (mean.reads boxed regions.Anonymous))
    ∷ ok (takes both_fields (mention (codes "k")))
    ∷ no_good (takes both_fields (mention (codes "a"))) (shape record_wanted)
    ∷ no_good (takes (bind (codes "n") nat8_type ∷ []) (mention (codes "k"))) (shape labels_wanted)
    ∷ no_good (takes (bind (codes "n") nat8_type ∷ both_fields) (mention (codes "k"))) (shape labels_wanted)
    ∷ no_good (takes (bind (codes "l") (alone (codes "Foo")) ∷ []) (mention (codes "k")))
    (shape labels_wanted)
    ∷ no_good (takes (bind (codes "l") nat8_type ∷ bind (codes "n") nat8_type ∷ []) (mention (codes "k")))
    (different boxed nat8)
    ∷ []

abbrev pub assignments : List Example
assignments =
    ok (set_whole (codes "f") (whole 7))
    ∷ no_good (set_whole (codes "a") (whole 7)) (shape assignable_wanted)
    ∷ no_good (set_whole (codes "c") (whole 7)) (shape assignable_wanted)
    ∷ no_good (set_whole (codes "y") (whole 7)) (unknown (codes "y"))
    ∷ no_good (set_whole (codes "z") (mention (codes "l"))) (not_free boxed)
    ∷ ok (sets (codes "v") (codes "n") (whole 7))
    ∷ no_good (sets (codes "v") (codes "n") (mention (codes "b"))) (different nat8 mean.truth)
    ∷ no_good (sets (codes "v") (codes "l") (mention (codes "l"))) (not_free boxed)
    ∷ no_good (sets (codes "v") (codes "m") (whole 7)) (unknown (codes "m"))
    ∷ no_good (sets (codes "f") (codes "n") (whole 7)) (shape record_wanted)
    ∷ no_good (sets (codes "k") (codes "n") (whole 7)) (shape assignable_wanted)
    ∷ ok (puts (codes "w") (codes "n") (whole 7))
    ∷ no_good (puts (codes "w") (codes "n") (whole 300)) (shape (range_wanted kinds.Nat8))
    ∷ no_good (puts (codes "r") (codes "n") (whole 7)) (shape write_reference_wanted)
    ∷ no_good (puts (codes "w") (codes "l") (mention (codes "l"))) (not_free boxed)
    ∷ no_good (puts (codes "y") (codes "n") (whole 7)) (unknown (codes "y"))
    ∷ []

abbrev pub conditionals : List Example
conditionals =
    ok
    (conditional_else (at_line 1)
    (branches (mention (codes "b")) skips (branches (mention (codes "c")) skips no_branches)) skips)
    ∷ no_good (conditional (at_line 1) (branches (mention (codes "a")) skips no_branches))
    (different mean.truth nat8)
    ∷ ok (cases (mention (codes "m")) (arm (codes "None") [] (some_arm nat8_type no_arms)))
    ∷ no_good (cases (mention (codes "a")) (arm (codes "None") [] no_arms)) (shape union_wanted)
    ∷ no_good
    (cases (calls (codes "some") (one (borrow here borrows.Read (named (codes "l")))))
    (arm (codes "None") [] no_arms))
    (shape union_wanted)
    ∷ no_good (cases (mention (codes "m")) (arm (codes "Gone") [] (arm (codes "None") [] no_arms)))
    (unknown (codes "Gone"))
    ∷ no_good (cases (mention (codes "m")) (arm (codes "None") [] no_arms)) (shape arms_wanted)
    ∷ no_good
    (cases (mention (codes "m")) (arm (codes "None") [] (arm (codes "None") [] (some_arm nat8_type no_arms))))
    (shape arms_wanted)
    ∷ no_good
    (cases (mention (codes "m")) (arm (codes "None") [] (arm (codes "Left") [] (some_arm nat8_type no_arms))))
    (shape arms_wanted)
    ∷ no_good (cases (mention (codes "m")) (arm (codes "None") [] (arm (codes "Some") [] no_arms)))
    (shape labels_wanted)
    ∷ no_good (cases (mention (codes "m")) (arm (codes "None") [] (some_arm (alone (codes "Bool")) no_arms)))
    (different nat8 mean.truth)
    ∷ []

-- `case name of when None do skip; when Some(value: T) do skip; end case;`
abbrev pub takes_option : Bytes → WrittenType → PlainStatement
takes_option name t = cases (mention name) (arm (codes "None") [] (some_arm t no_arms))

-- Through a reference an arm binds references of its access into its region. A reference to a record is no
-- union, nor is one to a reference, nor one whose region can't be written.
abbrev pub through_references : List Example
through_references =
    ok (takes_option (codes "q") (into access.Read (codes "R") nat8_type))
    ∷ ok (takes_option (codes "n") (into access.Write (codes "R") nat8_type))
    ∷ no_good (takes_option (codes "q") nat8_type) (different (read nat8) nat8)
    ∷ no_good (takes_option (codes "m") (into access.Read (codes "R") nat8_type)) (different nat8 (read nat8))
    ∷ no_good (takes_option (codes "q") (into access.Write (codes "R") nat8_type))
    (different (read nat8) (write nat8))
    ∷ no_good (takes_option (codes "n") (into access.Read (codes "R") nat8_type))
    (different (write nat8) (read nat8))
    ∷ no_good (takes_option (codes "q") (into access.Read (codes "Static") nat8_type))
    (different (read nat8) (mean.reads nat8 regions.Static))
    ∷ no_good (cases (mention (codes "q")) (arm (codes "None") [] no_arms)) (shape arms_wanted)
    ∷ no_good (cases (mention (codes "q")) (arm (codes "None") [] (arm (codes "Some") [] no_arms)))
    (shape labels_wanted)
    ∷ no_good (takes_option (codes "r") (into access.Read (codes "R") nat8_type)) (shape union_wanted)
    ∷ no_good (takes_option (codes "qq") (into access.Read (codes "R") nat8_type)) (shape union_wanted)
    ∷ no_good
    (cases (borrow here borrows.Read (named (codes "m")))
    (arm (codes "None") [] (some_arm (into access.Read (codes "R") nat8_type) no_arms)))
    (shape union_wanted)
    ∷ []

abbrev pub repetitions : List Example
repetitions =
    ok (while_loop (at_line 1) (mention (codes "b")) skips)
    ∷ no_good (while_loop (at_line 1) (whole 1) skips) (different mean.truth int32)
    ∷ ok (loops (codes "f") (whole 1) (mention (codes "a")))
    ∷ bad (loops (codes "f") (whole 1) (whole 3) ∷ []) 2 (different nat8 int32)
    ∷ no_good (loops (codes "f") (mention (codes "a")) (mention (codes "i"))) (different nat8 int32)
    ∷ no_good (loops (codes "f") (mention (codes "b")) (mention (codes "c"))) (shape integer_wanted)
    ∷ bad (for_loop (at_line 1) (named (codes "j")) (whole 1) (whole 3) skips
    ∷ keeps nat8_type (mention (codes "j")) ∷ []) 2 (unknown (codes "j"))
    ∷ []

-- A region isn't known behind its borrow statement, so that nothing which refers into it is kept.
abbrev pub borrows_of : List Example
borrows_of =
    ok
    (lends access.Read (codes "l") (keeps (into access.Read (codes "S") box_type) (mention (codes "p")) ∷ []))
    ∷ bad
    (lends access.Read (codes "l") (keeps (into access.Write (codes "S") box_type) (mention (codes "p")) ∷ [])
    ∷ [])
    2 (different (written_for boxed) (lent_type boxed))
    ∷ ok
    (lends access.Write (codes "l")
    (keeps (into access.Write (codes "S") box_type) (mention (codes "p")) ∷ []))
    ∷ no_good (lends access.Read (codes "c") []) (unknown (codes "c"))
    ∷ bad
    (lends access.Read (codes "l") [] ∷ keeps (into access.Read (codes "S") box_type) (mention (codes "y"))
    ∷ [])
    2 (unknown (codes "S"))
    ∷ ok (lends_typed borrows.Read (codes "l") (into access.Read (codes "S") box_type))
    ∷ no_good (lends_typed borrows.Read (codes "l") (into access.Write (codes "S") box_type))
    (different (lent_type boxed) (written_for boxed))
    ∷ no_good (lends_typed borrows.Write (codes "l") (into access.Write (codes "S") nat8_type))
    (different (written_for boxed) (written_for nat8))
    ∷ ok (lends_typed borrows.Reborrow (codes "w") (into access.Write (codes "S") (alone (codes "Kept"))))
    ∷ no_good
    (lends_typed borrows.Reborrow (codes "r") (into access.Write (codes "S") (alone (codes "Kept"))))
    (shape write_reference_wanted)
    ∷ no_good (lends_typed borrows.Read (codes "l") box_type) (shape reference_wanted)
    ∷ []

abbrev pub ends : List Example
ends =
    ok (discard (at_line 1) (calls (codes "same") (one (mention (codes "a")))))
    ∷ no_good (discard (at_line 1) (calls (codes "same") (one (mention (codes "l"))))) (not_free boxed)
    ∷ no_good (discard (at_line 1) (calls (codes "gone") (one (mention (codes "l")))))
    (unknown (codes "gone"))
    ∷ ok (returns_one 1)
    ∷ no_good (return_of (at_line 1) (nil here)) (different nat8 mean.unit)
    ∷ bad
    (case_of (at_line 1) (mention (codes "m"))
    (arms (at_line 1) (named (codes "None")) [] (block (returns_one 2 ∷ []))
    (arms (at_line 1) (named (codes "Some")) (bind (codes "value") nat8_type ∷ [])
    (block (returns_one 3 ∷ [])) no_arms))
    ∷ skip (at_line 4) ∷ [])
    4 after_return
    ∷ good
    (while_loop (at_line 1) (mention (codes "b")) (block (returns_one 2 ∷ [])) ∷ skip (at_line 3) ∷ [])
    ∷ []
