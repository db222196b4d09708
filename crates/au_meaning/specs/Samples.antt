-- A few declarations, and noted trees over them, from which programs are made that show the meaning.
use Rattle.std.specs.Prelude.{ℕ, Bool, true, false, List, [], ◌∷◌, map, Option, Some, None, pos, ◌+◌, ◌==◌}
use Rattle.std.specs.Prelude.{◌&&◌, take, slice_get, unwrap_or, option_map, option_and_then, codes}
use Rattle.std.specs.Prelude.{if◌then◌else◌}
use Rattle.std.specs.List.{find}
use Rattle.std.specs.Option.{option_or}
use Rattle.std.specs.Str.{bytes_eq}
use Rattle.au_base.specs.declared.kinds.IntKind.TheVariants.{Nat8}
use Rattle.au_base.specs.declared.places.Pos.{Pos}
use Rattle.au_type_texts.specs.Closing.{closed}
use Rattle.au_type_texts.specs.Types as closed_type
use Rattle.au_type_texts.specs.Types.{ClosedType, ClosedTypes}
use Rattle.au_effects.specs.Calls.{arity}
use Rattle.au_ints.specs.declared.operations.WrapOp.TheVariants as wrap_op
use Rattle.au_types.specs.Rows.{same_place}
use Rattle.au_effects.specs.Values as values
use Rattle.au_matching.specs.Bindings.{Bindings, value_of}
use Rattle.au_matching.specs.Substituted.{substituted}
use Rattle.au_shipped.specs.Calls.{found}
use Rattle.au_shipped.specs.declared.prims.ShippedCall.{ShippedCall}
use Rattle.au_shipped.specs.declared.prims.ShippedCall.TheVariants as prim
use Rattle.au_syntax.specs.declared.expressions.BinaryOperator.{BinaryOperator}
use Rattle.au_syntax.specs.declared.statements.Binding.TheVariants.{Var}
use Rattle.au_syntax.specs.Expressions.{Node, Expression, Expressions, number, path, call, binary}
use Rattle.au_syntax.specs.Expressions.{expressions, no_expressions}
use Rattle.au_syntax.specs.Types.{named, no_types}
use Rattle.au_syntax.specs.Names.{Placed}
use Rattle.au_syntax.specs.Plain.{Bytes}
use Rattle.au_syntax.specs.Statements.{Statement, Statements, declare, discard, return_of, statements}
use Rattle.au_syntax.specs.Statements.{no_statements}
use Rattle.au_types.specs.declared.types.DeclAt.{DeclAt}
use Rattle.au_types.specs.Types.{Meaning, Argument, unit, truth, integer, text, parameter, of_type, in_region}
use Rattle.au_types.specs.Types.{arguments, no_arguments}
use Rattle.au_types.specs.Types as mean_type
use Rattle.au_meaning.specs.Meanings.{mean}
use Rattle.au_meaning.specs.Views.{Field, Callee, View, Function, invokes, makes, ships}
use Rattle.au_meaning.specs.Worlds.{Event, Ending, Outcome}

-- ---- notes

-- a type, whether it is Free, and at a call what the type parameters of what is called stand for
pub record Note : Type 0 where
  pub of : Meaning
  pub free : Bool
  pub gives : Bindings

abbrev pub Tree : Type 0
Tree = Expression Bytes Note (Unit {0})

abbrev pub Block : Type 0
Block = Statements Bytes Note (Unit {0})

-- ---- declarations

-- `ExitCode`, `RootCapability`, a Free record, a Linear record, and a generic union
abbrev pub exit_code : DeclAt
exit_code = record { «module» = 0; decl = 0 }

abbrev pub root_capability : DeclAt
root_capability = record { «module» = 0; decl = 1 }

abbrev pub pair : DeclAt
pair = record { «module» = 1; decl = 0 }

abbrev pub key : DeclAt
key = record { «module» = 1; decl = 1 }

abbrev pub maybe : DeclAt
maybe = record { «module» = 1; decl = 2 }

-- the same as types, and a byte
abbrev pub byte : Meaning
byte = integer Nat8

abbrev pub plain : DeclAt → Meaning
plain at = mean_type.named at no_arguments

abbrev pub maybe_of : Meaning → Meaning
maybe_of t = mean_type.named maybe (arguments (of_type t) no_arguments)

-- a case of a declared type, by its number, with the name that means it and its fields at closed arguments
pub record Case : Type 0 where
  pub at : DeclAt
  pub tag : ℕ
  pub name : Bytes
  pub fields : ClosedTypes → List Field

abbrev pub byte_field : Bytes → Field
byte_field name = record { name = name; of = closed_type.integer Nat8 }

-- the first of some types
abbrev pub first_type : ClosedTypes → ClosedType
first_type closed_type.no_types = closed_type.unit
first_type (closed_type.types one rest) = one

abbrev pub case_at : DeclAt → ℕ → Bytes → (ClosedTypes → List Field) → Case
case_at at tag name fields = record { at = at; tag = tag; name = name; fields = fields }

abbrev pub cases : List Case
cases =
    case_at exit_code 0 (codes "ExitSuccess") (λ args. [])
    ∷ case_at exit_code 1 (codes "ExitFailure") (λ args. [])
    ∷ case_at pair 0 (codes "Pair") (λ args. byte_field (codes "left") ∷ byte_field (codes "right") ∷ [])
    ∷ case_at key 0 (codes "Key") (λ args. byte_field (codes "code") ∷ [])
    ∷ case_at maybe 0 (codes "Absent") (λ args. [])
    ∷ case_at maybe 1 (codes "Present") (λ args. record { name = codes "value"; of = first_type args } ∷ [])
    ∷ []

-- the case of a number of a type, and the case that a name means
abbrev pub case_of : ClosedType → ℕ → Option (List Field)
case_of (closed_type.named at args) tag =
    option_map (λ (one : Case). one.fields args)
    (find (λ (one : Case). same_place one.at at && (one.tag == tag)) cases)
case_of other tag = None

abbrev pub case_named : Bytes → Option Case
case_named name = find (λ (one : Case). bytes_eq one.name name) cases

abbrev pub is_key : ClosedType → Bool
is_key (closed_type.named at args) = same_place at key
is_key other = false

-- ---- programs

-- a function: its name, its parameters and its body
pub record Sample : Type 0 where
  pub name : Bytes
  pub parameters : List (Bytes × Meaning)
  pub body : Block

-- an instance of a function: its number, and what its type parameters stand for
pub record Instance : Type 0 where
  pub function : ℕ
  pub given : Bindings

-- a type where type parameters stand for something
abbrev pub closed_under : Bindings → Meaning → Option ClosedType
closed_under given of = closed (substituted given of)

-- what the type parameters of what is called stand for
abbrev pub argument_under : Bindings → Argument → Argument
argument_under given (of_type t) = of_type (substituted given t)
argument_under given (in_region region) = in_region region

abbrev pub given_under : Bindings → Bindings → Bindings
given_under given gives = map (λ (one : Bytes × Argument). (one.0, argument_under given one.1)) gives

-- the number of a function among others, the first of which has this number
abbrev pub number_of : Bytes → ℕ → List Sample → Option ℕ
number_of name n [] = None
number_of name n (one ∷ rest) =
    if bytes_eq one.name name then Some n else number_of name (n + 1) rest

-- the call of a function, with the names of its parameters
abbrev pub function_callee : List Sample → Bindings → ℕ → Option (Callee Instance)
function_callee samples given n =
    option_map (λ (one : Sample). record {
      parameters = map (λ (p : Bytes × Meaning). p.0) one.parameters;
      act = invokes (record { function = n; given = given });
    }) (slice_get samples n)

-- the call of a case, of which a value of a type is made
abbrev pub case_callee : Option ClosedType → Option Case → Option (Callee Instance)
case_callee (Some of) (Some one) = Some (record {
  parameters = map (λ (f : Field). f.name) (unwrap_or (case_of of one.tag) []);
  act = makes of one.tag (codes "Main");
})
case_callee of one = None

-- `printLn` is by the type that the parameter of its class stands for
abbrev pub print_of : Option ClosedType → Option ShippedCall
print_of (Some closed_type.truth) = Some prim.PrintLnBool
print_of (Some closed_type.text) = Some prim.PrintLnText
print_of (Some (closed_type.integer kind)) = Some prim.PrintLnInt
print_of other = None

abbrev pub type_under : Bindings → Option Argument → Option ClosedType
type_under given (Some (of_type t)) = closed_under given t
type_under given other = None

abbrev pub shipped_in : Bindings → Bindings → Bytes → Option ShippedCall
shipped_in given gives name =
    option_or
    (if bytes_eq name (codes "printLn") then print_of (type_under given (value_of
    (codes "T") gives)) else None)
    (found ((codes "abort", prim.Abort) ∷ (codes "spanLength", prim.SpanLength)
    ∷ (codes "surrenderRoot", prim.SurrenderRoot) ∷ (codes "modularAdd", prim.Wrap wrap_op.Add Nat8)
    ∷ (codes "toNat8", prim.Convert Nat8) ∷ []) name)

-- the call of a shipped call
abbrev pub shipped_callee : Option ShippedCall → Option (Callee Instance)
shipped_callee shipped =
    option_map (λ (one : ShippedCall). record {
      parameters = take (arity one) (codes "x" ∷ codes "y" ∷ []);
      act = ships one None;
    }) shipped

-- The view of a function: `limit` is a constant, which is 3.
abbrev pub view : List Sample → Bindings → View Instance Note (Unit {0})
view samples given = record {
  type_of = λ note. closed_under given note.of;
  is_free = λ note. note.free;
  callee = λ note none name. option_or
      (option_and_then (function_callee samples (given_under given note.gives)) (number_of name 0 samples))
      (option_or (shipped_callee (shipped_in given note.gives name))
      (case_callee (closed_under given note.of) (case_named name)));
  constant = λ note name. if bytes_eq name (codes "limit") then Some (values.number Nat8 (pos 3)) else None;
  tag = λ of name. option_map (λ (one : Case). one.tag) (case_named name);
  fields = case_of;
  is_linear = is_key;
}

-- a function as it is run
abbrev pub field_under : Bindings → Bytes × Meaning → Field
field_under given p = record { name = p.0; of = unwrap_or (closed_under given p.1) closed_type.unit }

abbrev pub functions : List Sample → Instance → Option (Function Instance Note (Unit {0}))
functions samples one =
    option_map (λ (f : Sample). record {
      view = view samples one.given;
      parameters = map (field_under one.given) f.parameters;
      first = 0;
      body = f.body;
    }) (slice_get samples one.function)

-- what a program gives, from its first function on
abbrev pub given : List Sample → ℕ → Outcome
given samples ticks = mean (functions samples) (record { function = 0; given = [] }) [] ticks

-- what is told of it: its output, its events, its ticks and its ending
pub record Told : Type 0 where
  pub output : List ℕ
  pub events : List Event
  pub made : ℕ
  pub ending : Ending

abbrev pub told : Outcome → Told
told outcome = record {
  output = outcome.world.output;
  events = outcome.world.store.deeds;
  made = outcome.made;
  ending = outcome.ending;
}

-- ---- trees

abbrev pub here : Pos
here = record { file = 0; line = 1; column = 1 }

abbrev pub word : Bytes → Placed Bytes
word name = record { name = name; at = here }

-- a note of a type that is Free, and of one that isn't
abbrev pub noted : Meaning → Node Note
noted of = record { at = here; note = record { of = of; free = true; gives = [] } }

abbrev pub linear : Meaning → Node Note
linear of = record { at = here; note = record { of = of; free = false; gives = [] } }

-- a note of a call, of which the type parameter T stands for a type
abbrev pub at_type : Meaning → Meaning → Node Note
at_type t of =
    record { at = here; note = record { of = of; free = true; gives = (codes "T", of_type t) ∷ [] } }

abbrev pub bytes : ℕ → Tree
bytes n = number (noted byte) (record { value = pos n; digits = 1 })

-- a variable or a constant of this type, which is Free
abbrev pub free_name : Meaning → Bytes → Tree
free_name of name = path (noted of) (word name) []

-- one operation on two
abbrev pub operated : BinaryOperator → Meaning → Tree → Tree → Tree
operated op of a b = binary (noted of) op a b

-- a call with these arguments
abbrev pub all : List Tree → Expressions Bytes Note (Unit {0})
all [] = no_expressions
all (e ∷ rest) = expressions e (all rest)

abbrev pub called_tree : Node Note → Bytes → List Tree → Tree
called_tree node name args = call node (word name) (all args) tt

-- a block of statements
abbrev pub block : List (Statement Bytes Note (Unit {0})) → Block
block [] = no_statements
block (s ∷ rest) = statements s (block rest)

abbrev pub variable : Bytes → Tree → Statement Bytes Note (Unit {0})
variable name e = declare here Var (word name) (named (word (codes "Nat8")) no_types) e

abbrev pub prints : Meaning → Tree → Statement Bytes Note (Unit {0})
prints t e = discard here (called_tree (at_type t unit) (codes "printLn") (e ∷ []))

abbrev pub succeeds : Statement Bytes Note (Unit {0})
succeeds = return_of here (called_tree (noted (plain exit_code)) (codes "ExitSuccess") [])

-- a function without parameters
abbrev pub main : List (Statement Bytes Note (Unit {0})) → Sample
main body = record { name = codes "main"; parameters = []; body = block body }
