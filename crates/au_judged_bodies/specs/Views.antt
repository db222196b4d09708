-- The view of a body sees records and unions as the rules of typing know them there.
use Rattle.std.specs.Prelude.{◌≡◌, ℕ, List, Some, slice_get}
use Rattle.au_syntax.specs.declared.modules.Part.TheVariants.{Body}
use Rattle.au_syntax.specs.Plain.{Bytes}
use Rattle.au_types.specs.declared.parameters.Parameter.{Parameter}
use Rattle.au_types.specs.declared.types.DeclAt.{DeclAt}
use Rattle.au_types.specs.Types.{Meaning}
use Rattle.au_matching.specs.Bindings.{Bindings}
use Rattle.au_type_texts.specs.Given.{Given}
use Rattle.au_modules.specs.Programs.{ModuleParts}
use Rattle.au_names.specs.HeadsOf.{heads_of}
use Rattle.au_names.specs.Standing.{Standing, definition_of}
use Rattle.au_typing.specs.Insides.{cases_of, fields_of}
use Rattle.au_typing.specs.Outsides.{outside_of}
use Rattle.au_typing.specs.Scopes.{Case, Typed}
use Rattle.au_typing.specs.Trees.{NotedParts}
use Rattle.au_tables.specs.Tables.{DefinitionsFit, types_of}
use Rattle.au_closed_meanings.specs.Generic.{view_under}
use Rattle.au_known_types.specs.Known.{EachIsKnown, IsKnown}
use Rattle.au_safe_steps.specs.Orders.{AreApart}
use Rattle.au_judged_bodies.specs.StandingTypesStanding.{StandsFor}
use Rattle.au_judged_bodies.specs.OnceFieldsApart.{IsApart}
use Rattle.au_judged_bodies.specs.Frames.{RecordIsSeen}
use Rattle.au_judged_bodies.specs.Rounds.{UnionIsSeen, names_of}

-- the cases of each definition, and the fields of each, have names of their own
abbrev pub DefinitionsAreApart : List ModuleParts → Type 0
DefinitionsAreApart program =
    (at : DeclAt) (d : Standing) → definition_of program at ≡ Some d → IsApart d.says

-- the fields of cases are known
abbrev pub EachCaseIsKnown : List ModuleParts → List Parameter → List Bytes → List Case → Type 0
EachCaseIsKnown program params regions cases =
    (tag : ℕ) (one : Case) → slice_get cases tag ≡ Some one
    → EachIsKnown (heads_of program) params regions one.fields

module _ (program : List ModuleParts) (noted : List NotedParts) (fit : DefinitionsFit program)
    (apart : DefinitionsAreApart program) (place : ℕ) (params : List Parameter) (regions : List Bytes)
    (given : Given)
    (s : Bindings) (z : ℕ) (stands : StandsFor (heads_of program) params given s) where
  -- A record that is known at a place is seen by the view of a body there.
  abbrev pub RecordsAreViewed : Type 0
  RecordsAreViewed =
      (t : Meaning) (fields : List Typed) → IsKnown (heads_of program) params regions t
      → EachIsKnown (heads_of program) params regions fields → fields_of program place t ≡ Some fields
      → RecordIsSeen (types_of program) (view_under program noted place params given) s given z t fields
      × AreApart (names_of fields)

  -- So is a union.
  abbrev pub UnionsAreViewed : Type 0
  UnionsAreViewed =
      (t : Meaning) (cases : List Case) → IsKnown (heads_of program) params regions t
      → EachCaseIsKnown program params regions cases → cases_of program place t ≡ Some cases
      → UnionIsSeen (types_of program) (view_under program noted place params given)
      (outside_of program place Body) s
      given z t cases
