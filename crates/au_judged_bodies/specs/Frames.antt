-- A frame in which a function runs fits a scope of the rules of typing: what is known of types, notes and
-- names there is what the rules say, where the function's names stand for what the frame puts for them.
use Rattle.std.specs.Prelude.{◌≡◌, ℕ, Bool, true, false, List, map, Some, None}
use Rattle.au_syntax.specs.Plain.{Bytes}
use Rattle.au_types.specs.declared.parameters.Parameter.{Parameter}
use Rattle.au_types.specs.declared.types.Region.{Region}
use Rattle.au_types.specs.Types.{Meaning, Argument, Arguments, unit, truth, integer, text, parameter, named}
use Rattle.au_types.specs.Types.{reads, writes, of_type, in_region, no_arguments, arguments}
use Rattle.au_matching.specs.Bindings.{Bindings, value_of}
use Rattle.au_matching.specs.Substituted.{region_for, type_for}
use Rattle.au_type_texts.specs.Given.{Given, closed_under}
use Rattle.au_running_types.specs.Running.{running}
use Rattle.au_written_types.specs.Written.{IsRegionName, IsTypeName}
use Rattle.au_memory.specs.Loans.{Types}
use Rattle.au_memory.specs.Shown.{IsPlain}
use Rattle.au_typing.specs.Lookups.{is_free_in, is_record, parameters_in, target_behind, variable_of}
use Rattle.au_typing.specs.Notes.{Note}
use Rattle.au_typing.specs.Scopes.{Scope, Typed, Variable}
use Rattle.au_meaning.specs.Names as meaning
use Rattle.au_meaning.specs.Views.{Field, View}
use Rattle.au_meaning.specs.Worlds.{Value}
use Rattle.au_known_types.specs.Known.{IsKnownIn, ScopeIsKnown}
use Rattle.au_running_lives.specs.Known.{InScope}

-- a field with its closed type
abbrev pub field_closed : Given → Typed → Field
field_closed given one = record { name = one.name; of = closed_under given one.of }

module _ (active : ℕ → Bool) where
  abbrev mutual
    -- each region in a running type may be used
    pub IsUsable : Meaning → Type 0
    IsUsable unit = Unit {0}
    IsUsable truth = Unit {0}
    IsUsable (integer kind) = Unit {0}
    IsUsable text = Unit {0}
    IsUsable (parameter name) = Unit {0}
    IsUsable (named of args) = AreUsable args
    IsUsable (reads to region) = IsUsable to × InScope active region
    IsUsable (writes to region) = IsUsable to × InScope active region

    -- so it is of an argument
    pub IsUsableArgument : Argument → Type 0
    IsUsableArgument (of_type t) = IsUsable t
    IsUsableArgument (in_region region) = InScope active region

    -- and of arguments
    pub AreUsable : Arguments → Type 0
    AreUsable no_arguments = Unit {0}
    AreUsable (arguments one rest) = IsUsableArgument one × AreUsable rest

-- What stands for type parameters is usable: so is each type over them, where its own regions are.
abbrev pub TypesAreUsable : (ℕ → Bool) → List Parameter → Bindings → Type 0
TypesAreUsable active params s =
    (name : List ℕ) → IsTypeName params name → IsUsable active (type_for (value_of name s) name)

module _ (types : Types) {I : Type 0} (see : View I Note (Unit {0})) (s : Bindings) (given : Given)
    (z : ℕ) where
  -- the fields of a record are seen as they are written: it has one case
  pub record RecordIsSeen (t : Meaning) (fields : List Typed) : Type 0 where
    pub closed : see.fields (closed_under given t) 0 ≡ Some (map (field_closed given) fields)
    pub runs : types.fields (running s z t) 0 ≡ Some (map (λ (one : Typed). running s z one.of) fields)
    pub alone : (tag : ℕ) (other : List Meaning) → types.fields (running s z t) tag ≡ Some other → tag ≡ 0

module _ (types : Types) {I : Type 0} (see : View I Note (Unit {0})) (names : ℕ → Meaning) (active : ℕ → Bool)
    (sc : Scope) (scope : meaning.Scope) (s : Bindings) (given : Given) (z : ℕ) where
  -- A variable is there, of the running type that stands for its own.
  pub record VariableIsThere (name : Bytes) (t : Meaning) : Type 0 where
    pub variable : meaning.Variable
    pub means : meaning.variable_of scope name ≡ Some variable
    pub stands : names variable.number ≡ running s z t
    pub of : variable.of ≡ Some (closed_under given t)

  -- The frame fits.
  pub record FrameFits : Type 0 where
    pub known : ScopeIsKnown sc
    pub here : active z ≡ true
    pub noted : (n : Note) → see.type_of n ≡ Some (closed_under given n.of)
    pub copied : (n : Note) → IsKnownIn sc n.of → see.is_free n ≡ true → types.is_free (running s z n.of)
        ≡ true
    pub free : (t : Meaning) → IsKnownIn sc t → is_free_in sc t ≡ true → types.is_free (running s z t) ≡ true
    pub readers : (t : Meaning) (region : Region) → types.is_free (reads t region) ≡ true
    pub variables : (name : Bytes) (v : Variable) → variable_of sc name ≡ Some v → VariableIsThere name v.of
    pub others : (name : Bytes) → variable_of sc name ≡ None → meaning.variable_of scope name ≡ None
    pub constants : (name : Bytes) (t : Meaning) (n : Note) → sc.outside.constant name ≡ Some t
        → (value : Value) × (see.constant n name ≡ Some value) × IsPlain value (running s z t)
    pub wholes : (name : Bytes) (t : Meaning) → sc.outside.constant name ≡ Some t
        → (is_record sc t ≡ false) × (target_behind t ≡ None)
    pub records : (t : Meaning) (fields : List Typed) → IsKnownIn sc t → sc.outside.fields t ≡ Some fields
        → RecordIsSeen types see s given z t fields
    pub regions : (name : List ℕ) → IsRegionName sc.regions (parameters_in sc) name
        → InScope active (region_for (value_of name s) name)
    pub within : TypesAreUsable active (parameters_in sc) s
