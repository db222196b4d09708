-- Fields as the meaning of a program sees them: those that the rules of typing know, with closed types.
use Rattle.std.specs.Prelude.{◌≡◌, ℕ, List, map, Some, slice_get}
use Rattle.au_syntax.specs.Plain.{Bytes}
use Rattle.au_types.specs.declared.parameters.Parameter.{Parameter}
use Rattle.au_types.specs.Types.{Meaning}
use Rattle.au_matching.specs.Bindings.{Bindings}
use Rattle.au_type_texts.specs.Given.{Given, closed_under}
use Rattle.au_modules.specs.Programs.{ModuleParts}
use Rattle.au_names.specs.HeadsOf.{heads_of}
use Rattle.au_typing.specs.Insides.{cases_of, fields_of}
use Rattle.au_typing.specs.Scopes.{Case, Typed}
use Rattle.au_tables.specs.Tables.{DefinitionsFit}
use Rattle.au_meaning.specs.Views.{Field}
use Rattle.au_closed_meanings.specs.Generic.{fields_in}
use Rattle.au_known_types.specs.Known.{EachIsKnown, IsKnown}
use Rattle.au_judged_bodies.specs.StandingTypesStanding.{StandsFor}

-- a field with its closed type
abbrev pub field_closed : Given → Typed → Field
field_closed given one = record { name = one.name; of = closed_under given one.of }

-- A record that is known in a module has one case in the meaning, with the fields that the rules know.
abbrev pub RecordsAreSeen : Type 0
RecordsAreSeen =
    (program : List ModuleParts) → DefinitionsFit program
    → (place : ℕ) (params : List Parameter) (regions : List Bytes)
    (given : Given) (s : Bindings) (t : Meaning) (fields : List Typed)
    → StandsFor (heads_of program) params given s
    → IsKnown (heads_of program) params regions t → EachIsKnown (heads_of program) params regions fields
    → fields_of program place t ≡ Some fields
    → fields_in program (closed_under given t) 0 ≡ Some (map (field_closed given) fields)

-- The cases of a union that is known in a module have in the meaning the fields that the rules know.
abbrev pub UnionsAreSeen : Type 0
UnionsAreSeen =
    (program : List ModuleParts) → DefinitionsFit program
    → (place : ℕ) (params : List Parameter) (regions : List Bytes)
    (given : Given) (s : Bindings) (t : Meaning) (cases : List Case)
    → StandsFor (heads_of program) params given s
    → IsKnown (heads_of program) params regions t → cases_of program place t ≡ Some cases
    → (tag : ℕ) (one : Case)
    → slice_get cases tag ≡ Some one → EachIsKnown (heads_of program) params regions one.fields
    → fields_in program (closed_under given t) tag ≡ Some (map (field_closed given) one.fields)
