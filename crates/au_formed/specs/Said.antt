-- What the lists of the code say.
use Rattle.std.specs.Prelude.{ℕ, List, map}
use Rattle.au_syntax.specs.contracts.parsed.ParsedPhase.TheImpl.{ghosts as parsed}
use Rattle.au_syntax.specs.declared.names.Ident.{Ident}
use Rattle.au_syntax.specs.declared.parsed.Parsed.{Parsed}
use Rattle.au_syntax.specs.Names.{Placed}
use Rattle.au_syntax.specs.Plain.{Bytes, plain_name}
use Rattle.au_syntax.specs.Views.{placed, written}
use Rattle.au_names.specs.Walks as walks
use Rattle.au_formed.specs.declared.texts.Spot as code_spot
use Rattle.au_formed.specs.declared.writings.Writing as code
use Rattle.au_formed.specs.declared.writings.Writing.TheVariants as case
use Rattle.au_formed.specs.Text.{Spot}
use Rattle.au_formed.specs.Writings.{Writing, a_type, a_class, a_universe}

-- a name
abbrev pub name_said : Ident Parsed (List ℕ) (Unit {0}) (Unit {0}) → Placed Bytes
name_said one = plain_name parsed.name_bytes (placed parsed one)

-- something that is written, and several of them
abbrev pub writing_said : code.Writing → Writing
writing_said (case.Type of) = a_type (written of.now)
writing_said (case.Class name) = a_class (name_said name.now)
writing_said (case.InUniverse at universe) = a_universe at universe

abbrev pub writings_said : List code.Writing → List Writing
writings_said written = map writing_said written

-- a declaration with where it stands, and several of them
abbrev pub spot_said : code_spot.Spot → Spot
spot_said one = record { at = one.at; part = one.part; says = walks.written one.decl.now }

abbrev pub spots_said : List code_spot.Spot → List Spot
spots_said all = map spot_said all
