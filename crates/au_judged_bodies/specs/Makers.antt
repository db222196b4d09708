-- Calls that make values of records and unions, as the meaning of a body sees them.
use Rattle.std.specs.Prelude.{◌≡◌, ℕ, Bool, List, [], Some}
use Rattle.au_syntax.specs.declared.modules.Part.TheVariants.{Body}
use Rattle.au_syntax.specs.Plain.{Bytes}
use Rattle.au_types.specs.declared.parameters.Parameter.{Parameter}
use Rattle.au_types.specs.declared.spaces.Space.TheVariants.{Callables}
use Rattle.au_types.specs.declared.types.DeclAt.{DeclAt}
use Rattle.au_types.specs.Tables.{find}
use Rattle.au_types.specs.Types.{Meaning}
use Rattle.au_matching.specs.Bindings.{Bindings}
use Rattle.au_matching.specs.Substituted.{Fixes, substituted}
use Rattle.au_judged_types.specs.Bounds.{parameters}
use Rattle.au_type_texts.specs.Given.{Given}
use Rattle.au_written_types.specs.Written.{IsWritten}
use Rattle.au_modules.specs.Programs.{ModuleParts}
use Rattle.au_names.specs.declared.targets.Target.{Target}
use Rattle.au_names.specs.HeadsOf.{heads_of}
use Rattle.au_names.specs.Standing.{Standing, definition_of, standing_at, whole_name}
use Rattle.au_closing.specs.Instances.{Instance}
use Rattle.au_typing.specs.Called.{declared_callable, type_number}
use Rattle.au_typing.specs.Notes.{Note}
use Rattle.au_typing.specs.Scopes.{Callable}
use Rattle.au_typing.specs.Trees.{NotedParts}
use Rattle.au_typing.specs.Written.{seen_at}
use Rattle.au_tables.specs.Tables.{types_of}
use Rattle.au_closed_meanings.specs.Generic.{view_under}
use Rattle.au_known_types.specs.Known.{EachIsDeclared, IsKnown}
use Rattle.au_owners.specs.Owners.{owner_of}
use Rattle.au_running_lives.specs.Known.{Callables as Keys}
use Rattle.au_judged_bodies.specs.OnceFieldsApart.{IsApart}
use Rattle.au_judged_bodies.specs.Sights.{CallIsSeen}

-- The type of the name of a record or union, where that stands, is defined by it.
abbrev pub OwnTypesAreDefined : List ModuleParts → Type 0
OwnTypesAreDefined program =
    (at : DeclAt) (d : Standing) (name : Bytes) (own : DeclAt) → standing_at program at ≡ Some d
    → whole_name d.says ≡ Some name → type_number program d.place name ≡ Some own
    → definition_of program own ≡ Some d

-- No two cases of a definition have one name, and no two fields of one case.
abbrev pub DefinitionsAreApart : List ModuleParts → Type 0
DefinitionsAreApart program =
    (at : DeclAt) (d : Standing) → definition_of program at ≡ Some d → IsApart d.says

module _ (program : List ModuleParts) (trees : List NotedParts) (place : ℕ) (params : List Parameter)
    (regions : List Bytes) (given : Given) (s : Bindings) (z : ℕ) {K : Type 0} (known : Keys Instance K)
    (active : ℕ → Bool) where
  -- A call of a name that means a record, or a case of a union, is seen to make a value of it, where it puts
  -- something for each type parameter and its own type is known.
  abbrev pub MakersAreSeen : Type 0
  MakersAreSeen =
      (note : Note) (name : Bytes) (target : Target) (d : Standing) (type : Bytes) (called : Callable)
      (put : Bindings)
      → find name (seen_at Callables program place Body) ≡ Some target → standing_at program target.at
      ≡ Some d
      → whole_name d.says ≡ Some type → declared_callable program d target.at target.name d.says ≡ Some called
      → EachIsDeclared (heads_of program) (parameters called.generics) called.parameters
      → note.of ≡ substituted put called.result → IsKnown (heads_of program) params regions note.of
      → ((t : Meaning) → IsWritten [] (parameters called.generics) t → Fixes put t)
      → CallIsSeen (types_of program) (owner_of program)
      (view_under program trees place params given) known active s z
      note name called put
