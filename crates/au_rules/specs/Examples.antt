-- A few small modules, and the names that they declare again, by hand.
use Rattle.std.specs.Prelude.{ℕ, Bool, false, List, [], ◌∷◌, Option, None, Some, codes}
use Rattle.std.specs.Str.{bytes_eq}
use Rattle.au_base.specs.declared.places.Pos.{Pos}
use Rattle.au_syntax.specs.declared.declarations.Universe.TheVariants as universes
use Rattle.au_syntax.specs.declared.expressions.BorrowMode.TheVariants as modes
use Rattle.au_syntax.specs.declared.statements.Binding.TheVariants as bindings
use Rattle.au_syntax.specs.declared.types.Access.TheVariants as accesses
use Rattle.au_syntax.specs.Expressions.{nil}
use Rattle.au_syntax.specs.Modules.{Constrained, Header, InUniverse, Variant, class, constant, constant_body}
use Rattle.au_syntax.specs.Modules.{function, function_body, instance_body, opaque_type, record_type}
use Rattle.au_syntax.specs.Modules.{union_type}
use Rattle.au_syntax.specs.Names.{Placed}
use Rattle.au_syntax.specs.Plain.{Bytes, PlainDeclaration, PlainExpression, PlainStatement, PlainStatements}
use Rattle.au_syntax.specs.Statements.{arms, borrow_in, borrow_typed, branches, case_of, conditional_else}
use Rattle.au_syntax.specs.Statements.{declare, for_loop, no_arms, no_branches, no_statements, statements}
use Rattle.au_syntax.specs.Types.{Labelled, WrittenType, named, no_types, reference}
use Rattle.au_rules.specs.declared.doubles.Double.{Double}
use Rattle.au_rules.specs.declared.marks.Kind.{Kind}
use Rattle.au_rules.specs.declared.marks.Kind.TheVariants.{Values, Callables, Types, Fields}
use Rattle.au_rules.specs.Doubles.{text_doubles}

-- a name at a column of the first line
abbrev pub at_column : ℕ → Pos
at_column column = record { file = 0; line = 1; column = column }

abbrev pub put : Bytes → ℕ → Placed Bytes
put name column = record { name = name; at = at_column column }

-- a type and a value that don't matter
abbrev pub small : WrittenType
small = named (put (codes "Nat8") 0) no_types

abbrev pub value : PlainExpression
value = nil (record { at = at_column 0; note = tt })

-- a field or a parameter, a type parameter, and one behind `generic`
abbrev pub labelled : Bytes → ℕ → Labelled Bytes
labelled name column = record { name = put name column; of = small }

abbrev pub in_free : Bytes → ℕ → InUniverse Bytes
in_free name column = record { name = put name column; universe = universes.Free }

abbrev pub generic : Bytes → ℕ → Constrained Bytes
generic name column = record { parameter = in_free name column; classes = [] }

abbrev pub header : Bytes → ℕ → List (Labelled Bytes) → Header Bytes
header name column parameters = record { name = put name column; parameters = parameters; result = small }

-- declarations
abbrev pub a_constant : Bytes → ℕ → PlainDeclaration
a_constant name column = constant_body (at_column 0) (put name column) small value

abbrev pub a_promise : Bytes → ℕ → PlainDeclaration
a_promise name column = constant (at_column 0) (put name column) small

abbrev pub a_function : Bytes → ℕ → List (Constrained Bytes) → List (Labelled Bytes) → PlainStatements
    → PlainDeclaration
a_function name column generics parameters body =
    function_body (at_column 0) generics (header name column parameters) body (at_column 0)

abbrev pub a_record : Bytes → ℕ → List (InUniverse Bytes) → List (Labelled Bytes) → PlainDeclaration
a_record name column parameters fields = record_type (at_column 0) (put name column) parameters universes.Free
    fields

abbrev pub a_case : Bytes → ℕ → List (Labelled Bytes) → Variant Bytes
a_case name column fields = record { name = put name column; fields = fields }

abbrev pub a_union : Bytes → ℕ → List (Variant Bytes) → PlainDeclaration
a_union name column cases = union_type (at_column 0) (put name column) [] universes.Free cases

abbrev pub an_instance : Bytes → List (Labelled Bytes) → PlainStatements → PlainDeclaration
an_instance method parameters body =
    instance_body (at_column 0) [] (put (codes "Shown") 0) small
    (record { header = header method 0 parameters; body = body; stop = at_column 0 } ∷ [])

-- statements
abbrev pub a_let : Bytes → ℕ → PlainStatement
a_let name column = declare (at_column 0) bindings.Let (put name column) small value

abbrev pub block : List PlainStatement → PlainStatements
block [] = no_statements
block (s ∷ rest) = statements s (block rest)

abbrev pub an_if : PlainStatements → PlainStatements → PlainStatement
an_if one other = conditional_else (at_column 0) (branches value one no_branches) other

abbrev pub a_for : Bytes → ℕ → PlainStatements → PlainStatement
a_for name column body = for_loop (at_column 0) (put name column) value value body

abbrev pub an_arm : Bytes → Bytes → ℕ → PlainStatements → PlainStatement
an_arm field name column body =
    case_of (at_column 0) value (arms (at_column 0) (put (codes "Some") 0)
    (record { name = record { name = put field 0; alias = Some (put name column) }; of = small }
    ∷ []) body no_arms)

abbrev pub a_borrow : Bytes → ℕ → Bytes → ℕ → PlainStatements → PlainStatement
a_borrow name column region place body =
    borrow_in (at_column 0) accesses.Read (put (codes "x") 0) (put name column) (put region place) body
    (at_column 0)

-- a borrow statement with a written type
abbrev pub a_typed_borrow : Bytes → ℕ → Bytes → ℕ → PlainStatements → PlainStatement
a_typed_borrow name column region place body =
    borrow_typed (at_column 0) (put name column)
    (reference (at_column 0) accesses.Read small (put region place))
    modes.Read (put (codes "x") 0) body (at_column 0)

-- what comes from elsewhere: a constant that is imported, and a type that is built in
abbrev pub from_elsewhere : Kind → Bytes → Bool
from_elsewhere Values name = bytes_eq name (codes "limit")
from_elsewhere Callables name = false
from_elsewhere Types name = bytes_eq name (codes "Nat8")
from_elsewhere Fields name = false

-- a name that is declared again at a column
abbrev pub again : Bytes → ℕ → Option Double
again name column = Some (record { name = name; at = at_column column })

-- a module, and the first double of each of its declarations
pub record Example : Type 0 where
  pub interface : List PlainDeclaration
  pub body : List PlainDeclaration
  pub doubles : List (Option Double)

abbrev pub doubles_found : Example → List (Option Double)
doubles_found one = text_doubles from_elsewhere from_elsewhere one.interface one.body

-- Declarations at the top: a parameter behind a constant and before one; two functions, a method and a
-- function, two cases of one union, and a record beside a case; two instances with one method; a promise that
-- is kept once and twice; an opaque type beside its record; a parameter in an interface before a constant of
-- the body; and a record twice in an interface.
abbrev pub at_the_top : List Example
at_the_top =
    record {
      interface = [];
      body = a_constant (codes "k") 1
          ∷ a_function (codes "f") 2 [] (labelled (codes "k") 3 ∷ []) (block []) ∷ [];
      doubles = None
          ∷ again (codes "k") 3 ∷ [];
    }
    ∷ record {
      interface = [];
      body = a_function (codes "f") 2 [] (labelled (codes "k") 3 ∷ []) (block [])
          ∷ a_constant (codes "k") 4 ∷ [];
      doubles = None ∷ again (codes "k") 4 ∷ [];
    }
    ∷ record {
      interface = [];
      body = a_function (codes "f") 1 [] [] (block [])
          ∷ a_function (codes "f") 2 [] [] (block []) ∷ [];
      doubles = None ∷ again (codes "f") 2 ∷ [];
    }
    ∷ record {
      interface = [];
      body = class (at_column 0) (put (codes "C") 1) (in_free (codes "T") 2)
          (header (codes "m") 3 [] ∷ []) ∷ a_function (codes "m") 4 [] [] (block []) ∷ [];
      doubles = None
          ∷ again (codes "m") 4 ∷ [];
    }
    ∷ record {
      interface = [];
      body = a_union (codes "U") 1 (a_case (codes "A") 2 [] ∷ a_case (codes "A") 3 []
          ∷ []) ∷ [];
      doubles = again (codes "A") 3 ∷ [];
    }
    ∷ record {
      interface = [];
      body = a_union (codes "U") 1 (a_case (codes "A") 2 [] ∷ [])
          ∷ a_record (codes "A") 3 [] [] ∷ [];
      doubles = None ∷ again (codes "A") 3 ∷ [];
    }
    ∷ record {
      interface = [];
      body = an_instance (codes "show") (labelled (codes "x") 1 ∷ []) (block [])
          ∷ an_instance (codes "show") (labelled (codes "x") 2 ∷ []) (block []) ∷ [];
      doubles = None ∷ None
          ∷ [];
    }
    ∷ record {
      interface = a_promise (codes "k") 1 ∷ [];
      body = a_constant (codes "k") 2
          ∷ a_constant (codes "k") 3 ∷ [];
      doubles = None ∷ None ∷ again (codes "k") 3 ∷ [];
    }
    ∷ record {
      interface = opaque_type (at_column 0) (put (codes "T") 1) [] universes.Free
          ∷ [];
      body = a_record (codes "T") 2 [] [] ∷ a_union (codes "T") 3 [] ∷ [];
      doubles = None ∷ None
          ∷ again (codes "T") 3 ∷ [];
    }
    ∷ record {
      interface = function (at_column 0) [] (header (codes "f") 1 (labelled (codes "k") 2 ∷ []))
          ∷ [];
      body = a_function (codes "f") 3 [] (labelled (codes "k") 4 ∷ []) (block [])
          ∷ a_constant (codes "k") 5 ∷ [];
      doubles = None ∷ None ∷ again (codes "k") 5 ∷ [];
    }
    ∷ record {
      interface = a_record (codes "A") 1 [] [] ∷ a_record (codes "A") 2 [] []
          ∷ [];
      body = [];
      doubles = None ∷ again (codes "A") 2 ∷ [];
    }
    ∷ []

-- Names in blocks: a variable that is imported as a value, and one that is a callable; a type parameter that
-- is built in, and one with the record's name; two parameters, and two fields; variables in blocks side by
-- side, behind a block and in one; the variable of a loop, a bound field, and the region of a borrow
-- statement of either spelling beside a type parameter; and fields of two cases.
abbrev pub in_blocks : List Example
in_blocks =
    record {
      interface = [];
      body = a_function (codes "f") 1 [] [] (block (a_let (codes "limit") 2 ∷ []))
          ∷ a_function (codes "g") 3 [] [] (block (a_let (codes "f") 4 ∷ []))
          ∷ [];
      doubles = again (codes "limit") 2 ∷ None ∷ [];
    }
    ∷ record {
      interface = [];
      body = a_function (codes "f") 2 (generic (codes "Nat8") 1 ∷ []) [] (block [])
          ∷ a_record (codes "A") 3 (in_free (codes "A") 4 ∷ []) [] ∷ [];
      doubles = again (codes "Nat8") 1
          ∷ again (codes "A") 4 ∷ [];
    }
    ∷ record {
      interface = [];
      body = a_function (codes "f") 1 [] (labelled (codes "x") 2
          ∷ labelled (codes "x") 3 ∷ []) (block []) ∷ a_record (codes "A") 4 [] (labelled (codes "v") 5
          ∷ labelled (codes "v") 6 ∷ []) ∷ [];
      doubles = again (codes "x") 3 ∷ again (codes "v") 6 ∷ [];
    }
    ∷ record {
      interface = [];
      body = a_function (codes "f") 1 [] []
          (block (an_if (block (a_let (codes "x") 2 ∷ [])) (block (a_let (codes "x") 3 ∷ []))
          ∷ a_let (codes "x") 4 ∷ [])) ∷ [];
      doubles = None ∷ [];
    }
    ∷ record {
      interface = [];
      body = a_function (codes "f") 1 [] []
          (block (a_let (codes "x") 2 ∷ an_if (block []) (block (a_let (codes "x") 3 ∷ [])) ∷ []))
          ∷ [];
      doubles = again (codes "x") 3 ∷ [];
    }
    ∷ record {
      interface = [];
      body = a_function (codes "f") 1 [] (labelled (codes "x") 2
          ∷ []) (block (a_for (codes "i") 3 (block (a_let (codes "i") 4 ∷ [])) ∷ []))
          ∷ [];
      doubles = again (codes "i") 4 ∷ [];
    }
    ∷ record {
      interface = [];
      body = a_function (codes "f") 1 [] (labelled (codes "x") 2
          ∷ []) (block (an_arm (codes "value") (codes "x") 3 (block []) ∷ []))
          ∷ [];
      doubles = again (codes "x") 3 ∷ [];
    }
    ∷ record {
      interface = [];
      body = a_function (codes "f") 2 (generic (codes "R") 1
          ∷ []) (labelled (codes "x") 3 ∷ []) (block (a_borrow (codes "r") 4 (codes "R") 5 (block []) ∷ []))
          ∷ [];
      doubles = again (codes "R") 5 ∷ [];
    }
    ∷ record {
      interface = [];
      body = a_function (codes "f") 2 (generic (codes "R") 1
          ∷ []) (labelled (codes "x") 3
          ∷ []) (block (a_typed_borrow (codes "r") 4 (codes "R") 5 (block []) ∷ []))
          ∷ [];
      doubles = again (codes "R") 5 ∷ [];
    }
    ∷ record {
      interface = [];
      body = a_union (codes "U") 1
          (a_case (codes "A") 2 (labelled (codes "v") 3 ∷ [])
          ∷ a_case (codes "B") 4 (labelled (codes "v") 5 ∷ []) ∷ []) ∷ [];
      doubles = None ∷ [];
    }
    ∷ []
