-- Expressions in a scope, and by hand the type of each or the fault.
use Rattle.std.specs.Prelude.{ℕ, zero, suc, pos, ◌==◌, List, [], ◌∷◌, true, false, Option, Some, None, Ok}
use Rattle.std.specs.Prelude.{Err, codes, find, option_map, if◌then◌else◌}
use Rattle.std.specs.Str.{bytes_eq}
use Rattle.au_base.specs.declared.kinds.IntKind.TheVariants as kinds
use Rattle.au_base.specs.declared.limits.LimitKind.TheVariants.{TypeDepth}
use Rattle.au_syntax.specs.declared.declarations.Universe.{Universe}
use Rattle.au_syntax.specs.declared.declarations.Universe.TheVariants as universes
use Rattle.au_syntax.specs.declared.expressions.BinaryOperator.{BinaryOperator}
use Rattle.au_syntax.specs.declared.expressions.BinaryOperator.TheVariants as operators
use Rattle.au_syntax.specs.declared.expressions.BorrowMode.TheVariants as borrows
use Rattle.au_syntax.specs.Expressions.{Node, number, negative, text, truth, nil, path, arrow, call}
use Rattle.au_syntax.specs.Expressions.{named_call, parenthesized, dereference, borrow, borrow_part, binary}
use Rattle.au_syntax.specs.Expressions.{negation, typed, choice, no_expressions, expressions, no_arguments}
use Rattle.au_syntax.specs.Expressions.{arguments}
use Rattle.au_syntax.specs.Names.{Placed}
use Rattle.au_syntax.specs.Plain.{Bytes, PlainArguments, PlainExpression, PlainExpressions}
use Rattle.au_syntax.specs.Types as written
use Rattle.au_syntax.specs.Types.{WrittenType}
use Rattle.au_types.specs.declared.types.Region.TheVariants as regions
use Rattle.au_types.specs.Types as mean
use Rattle.au_types.specs.Types.{Meaning}
use Rattle.au_matching.specs.Bindings.{Bindings}
use Rattle.au_judged_types.specs.Bounds.{Bounded}
use Rattle.au_instances.specs.Examples.{bounded_by, box, declared, headed, nat8, of_one, option, place, shown}
use Rattle.au_instances.specs.Examples.{table}
use Rattle.au_typing.specs.Scopes.{Callable, Outside, Scope, Typed, Variable}
use Rattle.au_typing.specs.Faults.{Noting, Why, limit, why, unknown, different, unfixed, no_instance}
use Rattle.au_typing.specs.Faults.{not_free, shape, record_wanted, reference_wanted, write_reference_wanted}
use Rattle.au_typing.specs.Faults.{integer_wanted, linear_wanted, arguments_wanted, labels_wanted}
use Rattle.au_typing.specs.Faults.{range_wanted}
use Rattle.au_typing.specs.Notes.{Mode, NotedExpression, note_of, type_of}
use Rattle.au_typing.specs.Rules.{int32}

-- ---- types

-- a Linear record with a number and a box as its fields
abbrev pub kept : Meaning
kept = mean.named (place 8 0) mean.no_arguments

abbrev pub boxed : Meaning
boxed = of_one box nat8

-- T behind so many `Option`
abbrev pub options : ℕ → Meaning → Meaning
options zero t = t
options (suc n) t = of_one option (options n t)

abbrev pub t : Meaning
t = mean.parameter (codes "T")

-- references in the region R
abbrev pub read : Meaning → Meaning
read of = mean.reads of (regions.Named (codes "R"))

abbrev pub write : Meaning → Meaning
write of = mean.writes of (regions.Named (codes "R"))

-- ---- what is outside

abbrev pub typed_name : Bytes → Meaning → Typed
typed_name name of = record { name = name; of = of }

abbrev pub kept_fields : List Typed
kept_fields = typed_name (codes "n") nat8 ∷ typed_name (codes "l") boxed ∷ []

-- the fields of the one record that is known
abbrev pub fields_of : Meaning → Option (List Typed)
fields_of (mean.named at args) = if at.«module» == 8 then Some kept_fields else None
fields_of other = None

abbrev pub called : List Bounded → List Typed → Meaning → Callable
called generics params result =
    record { generics = generics; parameters = params; result = result; class = None }

-- T of this universe alone
abbrev pub over : Universe → List Bounded
over universe = bounded_by (codes "T") universe [] ∷ []

abbrev pub x_of : Meaning → List Typed
x_of of = typed_name (codes "x") of ∷ []

abbrev pub x_and_y : Meaning → Meaning → List Typed
x_and_y first second = typed_name (codes "x") first ∷ typed_name (codes "y") second ∷ []

-- generic functions of T, but for `plus`; `show` is a method
abbrev pub callables : List (Bytes × Callable)
callables =
    (codes "plus", called [] (x_and_y nat8 nat8) nat8)
    ∷ (codes "same", called (over universes.AnyType) (x_of t) t)
    ∷ (codes "two", called (over universes.AnyType) (x_and_y t t) t)
    ∷ (codes "free", called (over universes.Free) (x_of t) t)
    ∷ (codes "linear", called (over universes.Linear) (x_of t) mean.unit)
    ∷ (codes "none", called (over universes.AnyType) [] (of_one option t))
    ∷ (codes "some", called (over universes.AnyType) (x_of t) (of_one option t))
    ∷ (codes "from", called (over universes.AnyType) (x_of (of_one option t)) mean.unit)
    ∷ (codes "shown", called (bounded_by (codes "T") universes.Free (shown ∷ []) ∷ []) (x_of t) mean.unit)
    ∷ (
      codes "show",
      record {
        generics = over universes.Free;
        parameters = x_of t;
        result = mean.unit;
        class = Some (codes "T", shown);
      },
    )
    ∷ []

abbrev pub of_name : {A : Type 0} → List (Bytes × A) → Bytes → Option A
of_name pairs name = option_map (λ p. p.1) (find (λ p. bytes_eq p.0 name) pairs)

abbrev pub outside : Outside
outside = record {
  constant = of_name ((codes "c", mean.truth) ∷ []);
  callable = of_name callables;
  target = λ name. None;
  fields = fields_of;
  cases = λ of. None;
  visible = [];
  heads = (place 8 0, headed (codes "Main:Kept") universes.Linear []) ∷ declared;
  instances = table;
}

-- ---- what is in scope

abbrev pub variable : Bytes → Meaning → Variable
variable name of = record { name = name; of = of; assignable = false }

-- a, b and i are Free, k and l Linear; r and w refer to what k is, s to a number; d is as deep as a type
-- may be
abbrev pub scope : Scope
scope = record {
  outside = outside;
  generics = [];
  result = mean.unit;
  regions = codes "R" ∷ [];
  variables =
      variable (codes "a") nat8
      ∷ variable (codes "b") mean.truth
      ∷ variable (codes "i") int32
      ∷ variable (codes "k") kept
      ∷ variable (codes "l") boxed
      ∷ variable (codes "r") (read kept)
      ∷ variable (codes "w") (write kept)
      ∷ variable (codes "s") (read nat8)
      ∷ variable (codes "d") (options 23 nat8)
      ∷ [];
}

-- ---- expressions

abbrev pub here : Node (Unit {0})
here = record { at = record { file = 0; line = 1; column = 1 }; note = tt }

abbrev pub named : Bytes → Placed Bytes
named name = record { name = name; at = record { file = 0; line = 1; column = 1 } }

abbrev pub whole : ℕ → PlainExpression
whole value = number here (record { value = pos value; digits = 1 })

abbrev pub minus : ℕ → PlainExpression
minus value = negative here (record { value = pos value; digits = 1 })

abbrev pub mention : Bytes → PlainExpression
mention name = path here (named name) []

abbrev pub part : Bytes → Bytes → PlainExpression
part name field = path here (named name) (named field ∷ [])

abbrev pub behind : Bytes → Bytes → PlainExpression
behind name field = arrow here (named name) (named field ∷ [])

abbrev pub operation : PlainExpression → BinaryOperator → PlainExpression → PlainExpression
operation a operator b = binary here operator a b

abbrev pub one : PlainExpression → PlainExpressions
one e = expressions e no_expressions

abbrev pub both : PlainExpression → PlainExpression → PlainExpressions
both e d = expressions e (one d)

abbrev pub calls : Bytes → PlainExpressions → PlainExpression
calls name es = call here (named name) es tt

abbrev pub labels : Bytes → PlainExpression → Bytes → PlainExpression → PlainArguments
labels first e second d =
    arguments (named first) e (arguments (named second) d no_arguments)

abbrev pub calls_named : Bytes → PlainArguments → PlainExpression
calls_named name es = named_call here (named name) es tt

abbrev pub alone : Bytes → WrittenType
alone name = written.named (named name) written.no_types

-- x twice, and y
abbrev pub twice_x : PlainArguments
twice_x = arguments (named (codes "x")) (whole 1) (labels (codes "x") (whole 1) (codes "y") (whole 2))

-- ---- examples

-- an expression, a mode, and the type that it has in that mode or its fault
pub record Example : Type 0 where
  pub of : PlainExpression
  pub mode : Mode
  pub told : Noting Meaning

abbrev pub is : PlainExpression → Mode → Meaning → Example
is of mode type = record { of = of; mode = mode; told = Ok type }

abbrev pub fails : PlainExpression → Mode → Why → Example
fails of mode cause = record { of = of; mode = mode; told = Err (why cause) }

-- what is told of an expression that was noted
abbrev pub told_of : Noting NotedExpression → Noting Meaning
told_of (Ok a) = Ok (type_of a)
told_of (Err fault) = Err fault

abbrev pub literals : List Example
literals =
    is (whole 5) None int32
    ∷ is (whole 255) (Some nat8) nat8
    ∷ fails (whole 256) (Some nat8) (shape (range_wanted kinds.Nat8))
    ∷ fails (whole 2147483648) None (shape (range_wanted kinds.Int32))
    ∷ is (minus 128) (Some (mean.integer kinds.Int8)) (mean.integer kinds.Int8)
    ∷ fails (minus 1) (Some nat8) (shape (range_wanted kinds.Nat8))
    ∷ fails (whole 2147483648) (Some mean.truth) (different mean.truth int32)
    ∷ is (text here (codes "t")) None mean.text
    ∷ fails (text here (codes "t")) (Some mean.truth) (different mean.truth mean.text)
    ∷ is (truth here true) (Some mean.truth) mean.truth
    ∷ fails (truth here true) (Some mean.unit) (different mean.unit mean.truth)
    ∷ is (nil here) None mean.unit
    ∷ fails (nil here) (Some nat8) (different nat8 mean.unit)
    ∷ []

abbrev pub names : List Example
names =
    is (mention (codes "l")) None boxed
    ∷ is (mention (codes "c")) None mean.truth
    ∷ fails (mention (codes "z")) None (unknown (codes "z"))
    ∷ fails (mention (codes "a")) (Some int32) (different int32 nat8)
    ∷ is (part (codes "k") (codes "n")) None nat8
    ∷ fails (part (codes "k") (codes "m")) None (unknown (codes "m"))
    ∷ fails (part (codes "k") (codes "l")) (Some nat8) (not_free boxed)
    ∷ fails (part (codes "a") (codes "n")) None (shape record_wanted)
    ∷ fails (path here (named (codes "k")) (named (codes "n") ∷ named (codes "n") ∷ []))
    None (unknown (codes "n"))
    ∷ is (behind (codes "w") (codes "n")) None nat8
    ∷ fails (behind (codes "k") (codes "n")) None (shape reference_wanted)
    ∷ fails (behind (codes "s") (codes "n")) None (shape record_wanted)
    ∷ is (dereference here (mention (codes "s"))) None nat8
    ∷ fails (dereference here (mention (codes "r"))) None (not_free kept)
    ∷ fails (dereference here (mention (codes "a"))) None (shape reference_wanted)
    ∷ is (borrow here borrows.Read (named (codes "l"))) None (mean.reads boxed regions.Anonymous)
    ∷ is (borrow here borrows.Write (named (codes "l"))) None (mean.writes boxed regions.Anonymous)
    ∷ is (borrow here borrows.Reborrow (named (codes "w"))) None (mean.writes kept regions.Anonymous)
    ∷ fails (borrow here borrows.Reborrow (named (codes "r"))) None (shape write_reference_wanted)
    ∷ fails (borrow here borrows.Read (named (codes "c"))) None (unknown (codes "c"))
    ∷ is (borrow_part here (named (codes "r")) (named (codes "l") ∷ [])) None (read boxed)
    ∷ fails (borrow_part here (named (codes "w")) (named (codes "l") ∷ [])) None (shape reference_wanted)
    ∷ []

abbrev pub operations : List Example
operations =
    is (parenthesized here (whole 5)) (Some nat8) nat8
    ∷ fails (parenthesized here (whole 256)) (Some nat8) (shape (range_wanted kinds.Nat8))
    ∷ is (operation (parenthesized here (whole 1)) operators.Add (mention (codes "a"))) None nat8
    ∷ is (typed here (whole 5) (alone (codes "Nat8"))) None nat8
    ∷ fails (typed here (mention (codes "z")) (alone (codes "Foo"))) None (unknown (codes "Foo"))
    ∷ fails (typed here (whole 5) (alone (codes "Nat8"))) (Some int32) (different int32 nat8)
    ∷ is (negation here (mention (codes "b"))) None mean.truth
    ∷ fails (negation here (whole 5)) None (different mean.truth int32)
    ∷ is (operation (mention (codes "a")) operators.Add (whole 1)) None nat8
    ∷ is (operation (whole 1) operators.Add (mention (codes "a"))) None nat8
    ∷ is (operation (whole 1) operators.Add (whole 2)) None int32
    ∷ is (operation (whole 1) operators.Add (whole 2)) (Some nat8) nat8
    ∷ fails (operation (whole 300) operators.Add (mention (codes "z"))) None (unknown (codes "z"))
    ∷ fails (operation (mention (codes "a")) operators.Add (mention (codes "i"))) None (different nat8 int32)
    ∷ fails (operation (mention (codes "b")) operators.Multiply (mention (codes "b")))
    None (shape integer_wanted)
    ∷ is (operation (whole 1) operators.Less (mention (codes "a"))) (Some mean.truth) mean.truth
    ∷ is (operation (operation (whole 1) operators.Add (whole 2)) operators.Less (mention (codes "a")))
    None mean.truth
    ∷ fails (operation (mention (codes "a")) operators.Less (whole 256))
    None (shape (range_wanted kinds.Nat8))
    ∷ is (operation (mention (codes "b")) operators.Equal (mention (codes "c"))) None mean.truth
    ∷ fails (operation (mention (codes "b")) operators.Less (mention (codes "c"))) None (shape integer_wanted)
    ∷ is (operation (mention (codes "b")) operators.And (mention (codes "c"))) None mean.truth
    ∷ fails (operation (mention (codes "b")) operators.Or (whole 1)) None (different mean.truth int32)
    ∷ is (choice here (mention (codes "b")) (whole 1) (mention (codes "a"))) None nat8
    ∷ fails (choice here (mention (codes "b")) (mention (codes "a")) (mention (codes "b")))
    None (different nat8 mean.truth)
    ∷ fails (choice here (mention (codes "a")) (mention (codes "z")) (mention (codes "b")))
    None (different mean.truth nat8)
    ∷ []

abbrev pub call_examples : List Example
call_examples =
    is (calls (codes "plus") (both (whole 1) (mention (codes "a")))) None nat8
    ∷ fails (calls (codes "minus") (one (mention (codes "z")))) None (unknown (codes "minus"))
    ∷ fails (calls (codes "plus") (one (mention (codes "z")))) None (shape (arguments_wanted 2))
    ∷ is (calls_named (codes "plus") (labels (codes "y") (whole 1) (codes "x") (whole 2))) None nat8
    ∷ fails (calls_named (codes "plus") (labels (codes "x") (whole 1) (codes "x") (whole 2)))
    None (shape labels_wanted)
    ∷ fails (calls_named (codes "plus") (labels (codes "x") (whole 1) (codes "z") (whole 2)))
    None (shape labels_wanted)
    ∷ fails (calls_named (codes "plus") twice_x) None (shape labels_wanted)
    ∷ fails (calls (codes "plus") (both (mention (codes "z")) (whole 1)))
    (Some mean.truth) (different mean.truth nat8)
    ∷ is (calls (codes "same") (one (whole 5))) None int32
    ∷ is (calls (codes "same") (one (whole 5))) (Some nat8) nat8
    ∷ is (calls (codes "two") (both (whole 1) (mention (codes "a")))) None nat8
    ∷ is (calls_named (codes "two") (labels (codes "y") (whole 1) (codes "x") (mention (codes "a"))))
    None nat8
    ∷ fails (calls (codes "two") (both (whole 256) (mention (codes "a"))))
    None (shape (range_wanted kinds.Nat8))
    ∷ fails (calls (codes "two") (both (mention (codes "a")) (mention (codes "i"))))
    None (different nat8 int32)
    ∷ fails (calls (codes "from") (one (mention (codes "a")))) None (different (of_one option t) nat8)
    ∷ fails (calls (codes "from") (one (whole 5))) None (different (of_one option t) int32)
    ∷ is (calls (codes "none") no_expressions) (Some (of_one option boxed)) (of_one option boxed)
    ∷ fails (calls (codes "none") no_expressions) None (unfixed (codes "T"))
    ∷ fails (calls (codes "free") (one (mention (codes "l")))) None (not_free boxed)
    ∷ is (calls (codes "linear") (one (mention (codes "l")))) None mean.unit
    ∷ fails (calls (codes "linear") (one (mention (codes "a")))) None (shape linear_wanted)
    ∷ is (calls (codes "shown") (one (mention (codes "a")))) None mean.unit
    ∷ fails (calls (codes "shown") (one (mention (codes "b")))) None (no_instance shown mean.truth)
    ∷ is (calls (codes "show") (one (calls (codes "some") (one (mention (codes "a")))))) None mean.unit
    ∷ fails (calls (codes "show") (one (whole 5))) None (no_instance shown int32)
    ∷ record {
      of = calls (codes "some") (one (mention (codes "d")));
      mode = None;
      told = Err (limit (record { kind = TypeDepth; count = 25; most = 24 }));
    }
    ∷ []

-- ---- substitutions

-- a call, and what stands for its type parameters in no mode
pub record CallExample : Type 0 where
  pub of : PlainExpression
  pub gives : Option Bindings

-- the substitution of an expression that was noted
abbrev pub call_of : Noting NotedExpression → Option Bindings
call_of (Ok a) = (note_of a).call
call_of (Err fault) = None

abbrev pub substitutions : List CallExample
substitutions =
    record {
      of = calls (codes "two") (both (whole 1) (mention (codes "a")));
      gives = Some ((codes "T", mean.of_type nat8) ∷ []);
    }
    ∷ record {
      of = calls (codes "same") (one (whole 1));
      gives = Some ((codes "T", mean.of_type int32) ∷ []);
    }
    ∷ record { of = calls (codes "plus") (both (whole 1) (whole 2)); gives = Some [] }
    ∷ record { of = mention (codes "a"); gives = None }
    ∷ []
