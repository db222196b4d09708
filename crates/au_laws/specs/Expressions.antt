-- Rows of expressions of which the few examples of typing show one side alone, or not each form.
use Rattle.std.specs.Prelude.{List, [], ◌∷◌, true, false, Option, Some, None, codes}
use Rattle.au_base.specs.declared.kinds.IntKind.TheVariants as kinds
use Rattle.au_syntax.specs.declared.expressions.BinaryOperator.TheVariants as operators
use Rattle.au_syntax.specs.declared.expressions.BorrowMode.TheVariants as borrows
use Rattle.au_syntax.specs.Expressions.{truth, nil, path, arrow, dereference, borrow, borrow_part, negation}
use Rattle.au_syntax.specs.Expressions.{typed, choice, parenthesized}
use Rattle.au_syntax.specs.Plain.{Bytes, PlainExpression}
use Rattle.au_syntax.specs.Types as written
use Rattle.au_types.specs.declared.types.Region.TheVariants as regions
use Rattle.au_types.specs.Types as mean
use Rattle.au_instances.specs.Examples.{nat8, of_one, option, shown}
use Rattle.au_typing.specs.TypingExamples.{Example, alone, both, boxed, calls, fails, here, is, kept, mention}
use Rattle.au_typing.specs.TypingExamples.{minus, named, one, operation, part, read, whole}
use Rattle.au_typing.specs.Faults.{unknown, different, no_instance, not_free, shape, arguments_wanted}
use Rattle.au_typing.specs.Faults.{integer_wanted, range_wanted, reference_wanted, write_reference_wanted}
use Rattle.au_typing.specs.Rules.{int32}
use Rattle.au_laws.specs.Things.{outer, t, u}

-- a part of a part
abbrev pub deep : Bytes → Bytes → Bytes → PlainExpression
deep name first second = path here (named name) (named first ∷ named second ∷ [])

-- `false`, `true` and constants
abbrev pub words : List Example
words =
    is (truth here false) None mean.truth
    ∷ fails (truth here false) (Some nat8) (different nat8 mean.truth)
    ∷ is (mention (codes "c")) (Some mean.truth) mean.truth
    ∷ fails (mention (codes "c")) (Some mean.unit) (different mean.unit mean.truth)
    ∷ is (minus 1) None int32
    ∷ fails (minus 129) (Some (mean.integer kinds.Int8)) (shape (range_wanted kinds.Int8))
    ∷ []

-- parts of parts, and references
abbrev pub parts : List Example
parts =
    is (deep (codes "o") (codes "inner") (codes "n")) None nat8
    ∷ fails (deep (codes "o") (codes "inner") (codes "flag")) None (unknown (codes "flag"))
    ∷ fails (deep (codes "o") (codes "inner") (codes "l")) None (not_free boxed)
    ∷ fails (part (codes "o") (codes "inner")) None (not_free kept)
    ∷ is (arrow here (named (codes "g")) (named (codes "inner") ∷ named (codes "n") ∷ [])) (Some nat8) nat8
    ∷ fails (arrow here (named (codes "w")) (named (codes "l") ∷ [])) None (not_free boxed)
    ∷ fails (arrow here (named (codes "y")) (named (codes "n") ∷ [])) None (unknown (codes "y"))
    ∷ fails (dereference here (mention (codes "s"))) (Some int32) (different int32 nat8)
    ∷ is (dereference here (parenthesized here (mention (codes "s")))) (Some nat8) nat8
    ∷ is (borrow here borrows.Write (named (codes "k"))) None (mean.writes kept regions.Anonymous)
    ∷ fails (borrow here borrows.Write (named (codes "c"))) None (unknown (codes "c"))
    ∷ fails (borrow here borrows.Read (named (codes "l"))) (Some (read boxed))
    (different (read boxed) (mean.reads boxed regions.Anonymous))
    ∷ fails (borrow here borrows.Reborrow (named (codes "a"))) None (shape write_reference_wanted)
    ∷ is (borrow_part here (named (codes "g")) (named (codes "inner") ∷ named (codes "l") ∷ [])) None
    (read boxed)
    ∷ fails (borrow_part here (named (codes "r")) (named (codes "m") ∷ [])) None (unknown (codes "m"))
    ∷ fails (borrow_part here (named (codes "c")) (named (codes "m") ∷ [])) None (shape reference_wanted)
    ∷ []

-- each operation, with operands that it takes and with others
abbrev pub operations : List Example
operations =
    is (operation (mention (codes "a")) operators.Subtract (mention (codes "f"))) None nat8
    ∷ fails (operation (mention (codes "a")) operators.Subtract (mention (codes "b"))) None
    (different nat8 mean.truth)
    ∷ is (operation (mention (codes "i")) operators.Multiply (whole 3)) (Some int32) int32
    ∷ fails (operation (mention (codes "i")) operators.Multiply (whole 3)) (Some nat8) (different nat8 int32)
    ∷ is (operation (mention (codes "i")) operators.Divide (minus 1)) None int32
    ∷ fails (operation (mention (codes "a")) operators.Divide (minus 1)) None
    (shape (range_wanted kinds.Nat8))
    ∷ fails (operation (whole 2147483648) operators.Add (mention (codes "y"))) None (unknown (codes "y"))
    ∷ is (operation (mention (codes "a")) operators.Equal (whole 1)) None mean.truth
    ∷ fails (operation (nil here) operators.Equal (nil here)) None (shape integer_wanted)
    ∷ is (operation (mention (codes "b")) operators.NotEqual (truth here true)) None mean.truth
    ∷ fails (operation (mention (codes "b")) operators.NotEqual (whole 1)) None (different mean.truth int32)
    ∷ is (operation (mention (codes "a")) operators.LessEqual (mention (codes "f"))) None mean.truth
    ∷ fails (operation (mention (codes "a")) operators.LessEqual (mention (codes "i"))) None
    (different nat8 int32)
    ∷ is (operation (whole 1) operators.Greater (whole 2)) None mean.truth
    ∷ fails (operation (whole 1) operators.Greater (whole 2)) (Some nat8) (different nat8 mean.truth)
    ∷ is (operation (mention (codes "i")) operators.GreaterEqual (minus 1)) None mean.truth
    ∷ fails (operation (truth here true) operators.GreaterEqual (mention (codes "b"))) None
    (shape integer_wanted)
    ∷ fails (operation (whole 1) operators.And (mention (codes "y"))) None (different mean.truth int32)
    ∷ is (operation (mention (codes "b")) operators.Or (mention (codes "c"))) (Some mean.truth) mean.truth
    ∷ fails (operation (mention (codes "b")) operators.Or (mention (codes "b"))) (Some mean.unit)
    (different mean.unit mean.truth)
    ∷ fails (negation here (mention (codes "b"))) (Some mean.unit) (different mean.unit mean.truth)
    ∷ is (choice here (mention (codes "b")) (whole 1) (whole 2)) (Some nat8) nat8
    ∷ fails (choice here (mention (codes "b")) (whole 1) (whole 2)) (Some mean.truth)
    (different mean.truth int32)
    ∷ is (choice here (mention (codes "b")) (mention (codes "l")) (mention (codes "z"))) None boxed
    ∷ fails (typed here (whole 5) (written.named (named (codes "Option")) written.no_types)) None
    (shape (arguments_wanted 1))
    ∷ []

-- Constraints: a parameter in scope has those that stand with it, and an instance may ask for more.
abbrev pub constraints : List Example
constraints =
    is (calls (codes "shown") (one (mention (codes "e")))) None mean.unit
    ∷ fails (calls (codes "shown") (one (mention (codes "h")))) None (no_instance shown u)
    ∷ is (calls (codes "show") (one (calls (codes "some") (one (mention (codes "e")))))) None mean.unit
    ∷ fails (calls (codes "show") (one (calls (codes "some") (one (mention (codes "h")))))) None
    (no_instance shown u)
    ∷ fails (calls (codes "free") (one (mention (codes "z")))) None (not_free boxed)
    ∷ is (calls (codes "two") (both (mention (codes "h")) (mention (codes "h")))) None u
    ∷ fails (calls (codes "two") (both (mention (codes "h")) (mention (codes "e")))) None (different u t)
    ∷ []
