-- The types that declarations declare: opaque types, records and unions.
use Rattle.std.specs.Prelude.{Bool, true, false, List, map, Option, None, Some}
use Rattle.std.specs.Option.{option_map}
use Rattle.au_syntax.specs.contracts.parsed.ParsedPhase.TheImpl.{ghosts as parsed}
use Rattle.au_syntax.specs.declared.declarations.Universe.{Universe}
use Rattle.au_syntax.specs.Modules.{InUniverse, opaque_type, record_type, union_type}
use Rattle.au_syntax.specs.Plain.{Bytes, PlainDeclaration, plain_in_universe}
use Rattle.au_syntax.specs.Views.{in_universe}
use Rattle.au_names.specs.declared.declared_types.TypeDeclared as code

-- a type that is declared: whether it's opaque, its name, its type parameters and its universe
pub record DeclaredType : Type 0 where
  pub opaque : Bool
  pub name : Bytes
  pub parameters : List (InUniverse Bytes)
  pub universe : Universe

-- the type of these
abbrev pub a_type : Bool → Bytes → List (InUniverse Bytes) → Universe → DeclaredType
a_type opaque name parameters universe =
    record { opaque = opaque; name = name; parameters = parameters; universe = universe }

-- the type that a declaration declares, if it declares one
abbrev pub type_declared : PlainDeclaration → Option DeclaredType
type_declared (opaque_type at name parameters universe) = Some (a_type true name.name parameters universe)
type_declared (record_type at name parameters universe fields) =
    Some (a_type false name.name parameters universe)
type_declared (union_type at name parameters universe cases) =
    Some (a_type false name.name parameters universe)
type_declared other = None

-- what a type that the code shows says
abbrev pub type_says : code.TypeDeclared → DeclaredType
type_says t =
    a_type t.opaque t.name.now
    (map (plain_in_universe parsed.name_bytes) (map (in_universe parsed) t.parameters.now.items)) t.universe

-- the same, if there is one
abbrev pub type_seen : Option code.TypeDeclared → Option DeclaredType
type_seen found = option_map type_says found
