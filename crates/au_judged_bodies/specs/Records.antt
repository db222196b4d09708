-- Records and unions that the rules of typing know in a module, where they run.
use Rattle.std.specs.Prelude.{◌≡◌, ℕ, List, [], map, Some, slice_get}
use Rattle.au_types.specs.declared.parameters.Parameter.{Parameter}
use Rattle.au_types.specs.Types.{Meaning}
use Rattle.au_matching.specs.Bindings.{Bindings}
use Rattle.au_matching.specs.Fitting.{BindingsAreWellFormed}
use Rattle.au_matching.specs.Forming.{IsWellFormed}
use Rattle.au_running_types.specs.Running.{running}
use Rattle.au_modules.specs.Programs.{ModuleParts}
use Rattle.au_names.specs.HeadsOf.{heads_of}
use Rattle.au_typing.specs.Insides.{cases_of, fields_of}
use Rattle.au_typing.specs.Scopes.{Case, Typed}
use Rattle.au_tables.specs.Tables.{DefinitionsFit, fields_in}

-- the running types of fields
abbrev pub kinds_running : Bindings → ℕ → List Typed → List Meaning
kinds_running s z fields = map (λ (one : Typed). running s z one.of) fields

-- A record that is known in a module has one case where it runs, and the fields of this are its own, where
-- they run.
abbrev pub RecordsRun : Type 0
RecordsRun =
    (program : List ModuleParts) → DefinitionsFit program
    → (place : ℕ) (params : List Parameter) (s : Bindings) (z : ℕ)
    (t : Meaning) (fields : List Typed) → fields_of program place t ≡ Some fields
    → BindingsAreWellFormed (heads_of program) params [] s → IsWellFormed (heads_of program) params t
    → (fields_in program (running s z t) 0 ≡ Some (kinds_running s z fields))
    × ((tag : ℕ) (other : List Meaning) → fields_in program (running s z t) tag ≡ Some other → tag ≡ 0)

-- The cases of a union that is known in a module have the fields of their numbers, where it runs.
abbrev pub UnionsRun : Type 0
UnionsRun =
    (program : List ModuleParts) → DefinitionsFit program
    → (place : ℕ) (params : List Parameter) (s : Bindings) (z : ℕ)
    (t : Meaning) (cases : List Case) → cases_of program place t ≡ Some cases
    → BindingsAreWellFormed (heads_of program) params [] s → IsWellFormed (heads_of program) params t
    → (tag : ℕ) (one : Case) → slice_get cases tag ≡ Some one
    → fields_in program (running s z t) tag ≡ Some (kinds_running s z one.fields)
