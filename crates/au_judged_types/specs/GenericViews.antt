-- What the trees and the scopes of the code say.
use Rattle.std.specs.Prelude.{ℕ, List, map, Option}
use Rattle.au_syntax.specs.contracts.parsed.ParsedPhase.TheImpl.{ghosts as parsed}
use Rattle.au_syntax.specs.declared.declarations.Generic.{Generic}
use Rattle.au_syntax.specs.declared.declarations.TypeParameter.{TypeParameter}
use Rattle.au_syntax.specs.declared.names.Ident.{Ident}
use Rattle.au_syntax.specs.declared.parsed.Parsed.{Parsed}
use Rattle.au_syntax.specs.Modules.{Constrained, InUniverse}
use Rattle.au_syntax.specs.Names.{Placed}
use Rattle.au_syntax.specs.Plain.{Bytes, plain_constrained, plain_in_universe, plain_name}
use Rattle.au_syntax.specs.Views.{constrained, in_universe, placed}
use Rattle.au_types.specs.declared.types.DeclAt.{DeclAt}
use Rattle.au_types.specs.declared.scopes.Scope.{Scope}
use Rattle.au_types.specs.WrittenViews.{sense_in}
use Rattle.au_judged_types.specs.Meanings.{class_in}

-- a name, and several of them
abbrev pub name_said : Ident Parsed (List ℕ) (Unit {0}) (Unit {0}) → Placed Bytes
name_said one = plain_name parsed.name_bytes (placed parsed one)

abbrev pub names_said : List (Ident Parsed (List ℕ) (Unit {0}) (Unit {0})) → List (Placed Bytes)
names_said names = map (plain_name parsed.name_bytes) (map (placed parsed) names)

-- a type parameter
abbrev pub parameter_said : TypeParameter Parsed (List ℕ) (Unit {0}) (Unit {0}) → InUniverse Bytes
parameter_said one = plain_in_universe parsed.name_bytes (in_universe parsed one)

-- a type parameter behind `generic`, and several of them
abbrev pub generic_said : Generic Parsed (List ℕ) (Unit {0}) (Unit {0}) → Constrained Bytes
generic_said one = plain_constrained parsed.name_bytes (constrained parsed one)

abbrev pub generics_said : List (Generic Parsed (List ℕ) (Unit {0}) (Unit {0})) → List (Constrained Bytes)
generics_said written = map (plain_constrained parsed.name_bytes) (map (constrained parsed) written)

-- the class that a name means in a scope, if it means one
abbrev pub class_within : Scope → Bytes → Option DeclAt
class_within scope name = class_in (sense_in scope name)
