-- What parts of the trees of the code say.
use Rattle.std.specs.Prelude.{ℕ, List, map, Option}
use Rattle.std.specs.Borrow.{Bor}
use Rattle.std.specs.Option.{option_map}
use Rattle.au_syntax.specs.contracts.parsed.ParsedPhase.TheImpl.{ghosts as parsed}
use Rattle.au_syntax.specs.declared.declarations.Decl.{Decl}
use Rattle.au_syntax.specs.declared.declarations.Generic.{Generic}
use Rattle.au_syntax.specs.declared.declarations.Signature.{Signature}
use Rattle.au_syntax.specs.declared.declarations.TypeParameter.{TypeParameter}
use Rattle.au_syntax.specs.declared.names.Field.{Field}
use Rattle.au_syntax.specs.declared.names.Ident.{Ident}
use Rattle.au_syntax.specs.declared.parsed.Parsed.{Parsed}
use Rattle.au_syntax.specs.Modules.{InUniverse, Constrained, Header}
use Rattle.au_syntax.specs.Names.{Placed}
use Rattle.au_syntax.specs.Plain.{Bytes, PlainDeclaration, plain_constrained, plain_declaration, plain_header}
use Rattle.au_syntax.specs.Plain.{plain_in_universe, plain_labelled, plain_name}
use Rattle.au_syntax.specs.Types.{Labelled}
use Rattle.au_syntax.specs.Views.{constrained, declaration, header, in_universe, labelled, placed}
use Rattle.au_promises.specs.declared.sights.Sight as code
use Rattle.au_promises.specs.Agreeing.{Sight}

-- a name
abbrev pub name_of : Ident Parsed (List ℕ) (Unit {0}) (Unit {0}) → Placed Bytes
name_of one = plain_name parsed.name_bytes (placed parsed one)

-- names
abbrev pub names_of : List (Ident Parsed (List ℕ) (Unit {0}) (Unit {0})) → List (Placed Bytes)
names_of all = map (plain_name parsed.name_bytes) (map (placed parsed) all)

-- a type parameter
abbrev pub parameter_of : TypeParameter Parsed (List ℕ) (Unit {0}) (Unit {0}) → InUniverse Bytes
parameter_of one = plain_in_universe parsed.name_bytes (in_universe parsed one)

-- type parameters
abbrev pub parameters_of : List (TypeParameter Parsed (List ℕ) (Unit {0}) (Unit {0}))
    → List (InUniverse Bytes)
parameters_of all = map (plain_in_universe parsed.name_bytes) (map (in_universe parsed) all)

-- a type parameter behind `generic`
abbrev pub generic_of : Generic Parsed (List ℕ) (Unit {0}) (Unit {0}) → Constrained Bytes
generic_of one = plain_constrained parsed.name_bytes (constrained parsed one)

-- type parameters behind `generic`
abbrev pub generics_of : List (Generic Parsed (List ℕ) (Unit {0}) (Unit {0})) → List (Constrained Bytes)
generics_of all = map (plain_constrained parsed.name_bytes) (map (constrained parsed) all)

-- a parameter of a function
abbrev pub labelled_of : Field Parsed (List ℕ) (Unit {0}) (Unit {0}) → Labelled Bytes
labelled_of one = plain_labelled parsed.name_bytes (labelled parsed one)

-- parameters of a function
abbrev pub labels_of : List (Field Parsed (List ℕ) (Unit {0}) (Unit {0})) → List (Labelled Bytes)
labels_of all = map (plain_labelled parsed.name_bytes) (map (labelled parsed) all)

-- a function's name, parameters and result
abbrev pub header_of : Signature Parsed (List ℕ) (Unit {0}) (Unit {0}) → Header Bytes
header_of one = plain_header parsed.name_bytes (header parsed one)

-- a declaration
abbrev pub declared_of : Decl Parsed (List ℕ) (Unit {0}) (Unit {0}) → PlainDeclaration
declared_of one = plain_declaration parsed.name_bytes (declaration parsed one)

-- declarations
abbrev pub declarations_of : List (Decl Parsed (List ℕ) (Unit {0}) (Unit {0})) → List PlainDeclaration
declarations_of all = map (plain_declaration parsed.name_bytes) (map (declaration parsed) all)

-- a declaration behind a reference, if there is one
abbrev pub declared_seen : Option (Bor (Decl Parsed (List ℕ) (Unit {0}) (Unit {0}))) → Option PlainDeclaration
declared_seen found = option_map (λ (b : Bor (Decl Parsed (List ℕ) (Unit {0}) (Unit {0}))). declared_of b.now)
    found

-- what the code sees of a module
abbrev pub sight_in : code.Sight → Sight
sight_in sight = record { interface = sight.interface.now; body = sight.body.now; rows = sight.heads.now }
