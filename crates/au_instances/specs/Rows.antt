-- The rows of a table of instances.
use Rattle.std.specs.Prelude.{List, map, refl}
use Rattle.std.specs.Coded.{Coded, code_by, coded×, coded_list}
use Rattle.au_types.specs.contracts.parameters.Parameter.{the_row as parameters}
use Rattle.au_types.specs.contracts.types.DeclAt.{the_row as places}
use Rattle.au_types.specs.declared.parameters.Parameter.{Parameter}
use Rattle.au_types.specs.declared.types.DeclAt.{DeclAt}
use Rattle.au_types.specs.Types.{Meaning, Argument, unit, of_type, in_region}
use Rattle.au_types.specs.Views.{meaning}
use Rattle.au_matching.specs.Codes.{argument_coded}
use Rattle.au_judged_types.specs.Bounds.{Bounded}
use Rattle.au_instances.specs.declared.rows.Row.{Row as RowGiven}

-- an instance: its place, that of its class, its type parameters with their universes and the classes that
-- constrain them, and the type that it is for, which is its head
pub record Row : Type 0 where
  pub instance : DeclAt
  pub class : DeclAt
  pub generics : List Bounded
  pub head : Meaning

-- a row of the code, and several of them
abbrev pub row_said : RowGiven → Row
row_said row = record {
  instance = row.instance;
  class = row.class;
  generics = row.generics;
  head = meaning row.head;
}

abbrev pub rows_said : List RowGiven → List Row
rows_said rows = map row_said rows

-- ---- codes, by which rows are told apart

-- the type that an argument is
abbrev pub type_of : Argument → Meaning
type_of (of_type t) = t
type_of (in_region region) = unit

abbrev pub type_code : Coded Meaning
type_code = code_by Argument argument_coded of_type type_of (λ _. refl)

abbrev pub bounded_code : Coded Bounded
bounded_code =
    code_by (Parameter × List DeclAt) (coded× parameters.coded (coded_list places.coded))
    (λ one. (one.parameter, one.classes))
    (λ p. record { parameter = p.0; classes = p.1 })
    (λ _. refl)

abbrev pub Parts : Type 0
Parts = (DeclAt × DeclAt) × (List Bounded × Meaning)

abbrev pub row_code : Coded Row
row_code =
    code_by Parts (coded× (coded× places.coded places.coded) (coded× (coded_list bounded_code) type_code))
    (λ row. ((row.instance, row.class), (row.generics, row.head)))
    (λ p. record { instance = p.0.0; class = p.0.1; generics = p.1.0; head = p.1.1 })
    (λ _. refl)
