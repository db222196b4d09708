-- Types of a function where it runs: what stands for its type parameters and for the regions that are open.
use Rattle.std.specs.Prelude.{◌≡◌, ℕ, true, List, [], None, Some, slice_get}
use Rattle.au_syntax.specs.Plain.{Bytes}
use Rattle.au_types.specs.declared.headings.Head.{Head}
use Rattle.au_types.specs.declared.parameters.Parameter.{Parameter}
use Rattle.au_types.specs.declared.types.DeclAt.{DeclAt}
use Rattle.au_types.specs.declared.types.Region.{Region}
use Rattle.au_types.specs.Types.{Meaning, in_region, parameter, reads}
use Rattle.au_types.specs.Universes.{universe_in}
use Rattle.au_matching.specs.Bindings.{Bindings, with_pair}
use Rattle.au_matching.specs.Fitting.{BindingsAreWellFormed}
use Rattle.au_matching.specs.Substituted.{substituted}
use Rattle.au_matching.specs.Universes.{is_free, universe_of}
use Rattle.au_type_texts.specs.Closing.{closed}
use Rattle.au_type_texts.specs.Given.{Given, closed_under, given_for}
use Rattle.au_running_types.specs.Running.{is_lasting, running, token}
use Rattle.au_written_types.specs.Written.{IsTypeName}
use Rattle.au_modules.specs.Programs.{ModuleParts}
use Rattle.au_names.specs.HeadsOf.{heads_of}
use Rattle.au_typing.specs.Insides.{fields_of}
use Rattle.au_typing.specs.Scopes.{Typed}
use Rattle.au_tables.specs.Tables.{types_of}
use Rattle.au_known_types.specs.Known.{IsKnown}

-- Bindings stand for type parameters: what they put is well formed over none and fits, and each type closes
-- to what is given for its name.
pub record StandsFor (heads : List (DeclAt × Head)) (params : List Parameter) (given : Given)
    (s : Bindings) : Type 0
  where
    pub formed : BindingsAreWellFormed heads params [] s
    pub closes : (name : List ℕ) → IsTypeName params name
        → closed (substituted s (parameter name)) ≡ Some (given_for given name)

-- What is Free by the rules is Free where it runs.
abbrev pub FreeTypesRun : Type 0
FreeTypesRun =
    (program : List ModuleParts) (params : List Parameter) (regions : List Bytes) (given : Given)
    (s : Bindings) (z : ℕ)
    (t : Meaning) → StandsFor (heads_of program) params given s → IsKnown (heads_of program) params regions t
    → is_free (universe_of (heads_of program) params t) ≡ true → (types_of program).is_free (running s z t)
    ≡ true

-- References that read are Free.
abbrev pub ReadersAreFree : Type 0
ReadersAreFree = (program : List ModuleParts) (t : Meaning) (region : Region)
    → (types_of program).is_free (reads t region) ≡ true

-- Bindings stand so too where a region that is no type parameter is opened.
abbrev pub RegionsOpen : Type 0
RegionsOpen =
    (heads : List (DeclAt × Head)) (params : List Parameter) (given : Given) (s : Bindings)
    (region : Bytes) (z : ℕ)
    → StandsFor heads params given s → universe_in params region ≡ None
    → StandsFor heads params given (with_pair region (in_region (token z)) s)

-- A type closes, where it runs, to what it closes to under what is given.
abbrev pub KnownTypesClose : Type 0
KnownTypesClose =
    (heads : List (DeclAt × Head)) (params : List Parameter) (regions : List Bytes) (given : Given)
    (s : Bindings) (z : ℕ)
    (t : Meaning) → StandsFor heads params given s → IsKnown heads params regions t
    → closed (running s z t) ≡ Some (closed_under given t)

-- The fields of a record without `~` in its type have none in theirs.
abbrev pub FieldsLast : Type 0
FieldsLast =
    (program : List ModuleParts) (place : ℕ) (t : Meaning) (fields : List Typed)
    → fields_of program place t ≡ Some fields
    → is_lasting t ≡ true → (i : ℕ) (one : Typed) → slice_get fields i ≡ Some one → is_lasting one.of ≡ true
