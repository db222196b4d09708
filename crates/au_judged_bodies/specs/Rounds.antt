-- What is known round the statements of a body that runs, and at a place in it.
use Rattle.std.specs.Prelude.{◌≡◌, ℕ, ◌<◌, Bool, true, false, List, map, Option, Some, None, is_some}
use Rattle.std.specs.Prelude.{slice_get}
use Rattle.au_syntax.specs.Plain.{Bytes}
use Rattle.au_types.specs.declared.types.Region.{Region}
use Rattle.au_types.specs.declared.types.DeclAt.{DeclAt}
use Rattle.au_types.specs.Types.{Arguments, Meaning, in_region, named, reads}
use Rattle.au_types.specs.Universes.{universe_in}
use Rattle.au_matching.specs.Bindings.{Bindings, value_of, with_pair}
use Rattle.au_matching.specs.Substituted.{region_for}
use Rattle.au_matching.specs.Universes.{is_free, universe_of}
use Rattle.au_judged_types.specs.Bounds.{Bounded, parameters}
use Rattle.au_type_texts.specs.Given.{Given, closed_under}
use Rattle.au_type_texts.specs.Types.{ClosedType}
use Rattle.au_running_types.specs.Running.{is_lasting, running, token}
use Rattle.au_written_types.specs.Written.{IsRegionName}
use Rattle.au_memory.specs.Loans.{Types}
use Rattle.au_memory.specs.Shown.{IsPlain}
use Rattle.au_typing.specs.Lookups.{parameters_in, target_behind, variable_of}
use Rattle.au_typing.specs.Notes.{Note}
use Rattle.au_typing.specs.Parts.{case_meant}
use Rattle.au_typing.specs.Scopes.{Case, Outside, Scope, Typed, Variable}
use Rattle.au_meaning.specs.Names as meaning
use Rattle.au_meaning.specs.Views.{View}
use Rattle.au_meaning.specs.Worlds.{Value}
use Rattle.au_known_types.specs.Known.{IsKnown, ScopeIsKnown}
use Rattle.au_safe_steps.specs.Orders.{AreApart}
use Rattle.au_running_lives.specs.Known.{Callables, InScope}
use Rattle.au_judged_bodies.specs.Frames.{FrameFits, RecordIsSeen, TypesAreUsable, field_closed}
use Rattle.au_judged_bodies.specs.TypedRunsLaws.{CallsRun}

-- the names of fields
abbrev pub names_of : List Typed → List Bytes
names_of fields = map (λ (one : Typed). one.name) fields

-- the running types of fields
abbrev pub kinds_running : Bindings → ℕ → List Typed → List Meaning
kinds_running s z fields = map (λ (one : Typed). running s z one.of) fields

-- `~` stands in no type of a field
abbrev pub EachLasts : List Typed → Type 0
EachLasts fields = (place : ℕ) (one : Typed) → slice_get fields place ≡ Some one → is_lasting one.of ≡ true

module _ (types : Types) {I : Type 0} (see : View I Note (Unit {0})) (outside : Outside) (s : Bindings)
    (given : Given)
    (z : ℕ) where
  -- The cases of a union are seen as they are written: each under its number, with its fields; a name means
  -- one of them where it does so by the rules; no two are one, and no two fields of one have one name.
  pub record UnionIsSeen (t : Meaning) (cases : List Case) : Type 0 where
    pub at : DeclAt
    pub args : Arguments
    pub declared : t ≡ named at args
    pub some : Case
    pub has_one : slice_get cases 0 ≡ Some some
    pub closed : (tag : ℕ) (one : Case) → slice_get cases tag ≡ Some one
        → see.fields (closed_under given t) tag ≡ Some (map (field_closed given) one.fields)
    pub runs : (tag : ℕ) (one : Case) → slice_get cases tag ≡ Some one
        → types.fields (running s z t) tag ≡ Some (kinds_running s z one.fields)
    pub only : (tag : ℕ) (parts : List Meaning) → types.fields (running s z t) tag ≡ Some parts
        → (one : Case) × (slice_get cases tag ≡ Some one)
    pub means : (name : Bytes) (one : Case) → case_meant cases (outside.target name) ≡ Some one
        → (tag : ℕ) × (slice_get cases tag ≡ Some one) × (see.tag (closed_under given t) name ≡ Some tag)
    pub apart : (i j : ℕ) (one other : Case) → slice_get cases i ≡ Some one → slice_get cases j ≡ Some other
        → one.target ≡ other.target → i ≡ j
    pub fields : (tag : ℕ) (one : Case) → slice_get cases tag ≡ Some one → AreApart (names_of one.fields)

-- What is known round a body, by the rules of typing, agrees with what is known where it runs: whichever
-- good bindings stand for its type parameters and for the regions of the borrow statements that are open.
pub record RoundFits (types : Types) (owner : ClosedType → Option (List ℕ)) {I K : Type 0}
    (see : View I Note (Unit {0})) (known : Callables I K) (may_hand : Meaning → Type 0) (outside : Outside)
    (generics : List Bounded) (given : Given)
    (Stands : Bindings → Type 0) : Type 0 where
  pub noted : (n : Note) → see.type_of n ≡ Some (closed_under given n.of)
  pub readers : (t : Meaning) (region : Region) → types.is_free (reads t region) ≡ true
  pub free : (s : Bindings) (regions : List Bytes) (z : ℕ) (t : Meaning) → Stands s
      → IsKnown outside.heads (parameters generics) regions t
      → is_free (universe_of outside.heads (parameters generics) t) ≡ true → types.is_free (running s z t)
      ≡ true
  pub copied : (s : Bindings) (regions : List Bytes) (z : ℕ) (n : Note) → Stands s
      → IsKnown outside.heads (parameters generics) regions n.of → see.is_free n ≡ true
      → types.is_free (running s z n.of) ≡ true
  pub constants : (s : Bindings) (z : ℕ) (name : Bytes) (t : Meaning) (n : Note) → Stands s
      → outside.constant name ≡ Some t
      → (value : Value) × (see.constant n name ≡ Some value) × IsPlain value (running s z t)
  pub wholes : (name : Bytes) (t : Meaning) → outside.constant name ≡ Some t
      → (is_some (outside.fields t) ≡ false) × (target_behind t ≡ None)
  pub records : (s : Bindings) (regions : List Bytes) (z : ℕ) (t : Meaning) (fields : List Typed) → Stands s
      → IsKnown outside.heads (parameters generics) regions t → outside.fields t ≡ Some fields
      → RecordIsSeen types see s given z t fields × AreApart (names_of fields)
  pub unions : (s : Bindings) (regions : List Bytes) (z : ℕ) (t : Meaning) (cases : List Case) → Stands s
      → IsKnown outside.heads (parameters generics) regions t → outside.cases t ≡ Some cases
      → UnionIsSeen types see outside s given z t cases
  pub last : (t : Meaning) (fields : List Typed) → outside.fields t ≡ Some fields → is_lasting t ≡ true
      → EachLasts fields
  pub opens : (s : Bindings) (region : Bytes) (z : ℕ) → Stands s
      → universe_in (parameters generics) region ≡ None
      → Stands (with_pair region (in_region (token z)) s)
  pub calls : (names : ℕ → Meaning) (active : ℕ → Bool) (sc : Scope) (scope : meaning.Scope) (s : Bindings)
      (z : ℕ)
      → sc.outside ≡ outside → sc.generics ≡ generics → Stands s
      → FrameFits types see names active sc scope s given z
      → CallsRun types owner see known may_hand names active sc scope s given z

-- A variable in scope is there, under a number below this one, and has the running type of its own.
pub record VariableStands (names : ℕ → Meaning) (number : ℕ) (scope : meaning.Scope) (s : Bindings)
    (given : Given)
    (name : Bytes) (t : Meaning) : Type 0 where
  pub variable : meaning.Variable
  pub means : meaning.variable_of scope name ≡ Some variable
  pub below : variable.number < number
  pub stands : (z : ℕ) → names variable.number ≡ running s z t
  pub of : variable.of ≡ Some (closed_under given t)

-- A running frame fits the scope at a place: the names that are in scope, the regions that are open, and
-- the type that the body returns.
pub record PlaceFits (types : Types) (owner : ClosedType → Option (List ℕ)) {I K : Type 0}
    (see : View I Note (Unit {0})) (known : Callables I K) (may_hand : Meaning → Type 0) (given : Given)
    (Stands : Bindings → Type 0)
    (result : Meaning) (active : ℕ → Bool) (number : ℕ) (sc : Scope) (scope : meaning.Scope) (s : Bindings)
    (names : ℕ → Meaning) : Type 0 where
  pub round : RoundFits types owner see known may_hand sc.outside sc.generics given Stands
  pub knows : ScopeIsKnown sc
  pub good : Stands s
  pub variables : (name : Bytes) (v : Variable) → variable_of sc name ≡ Some v
      → VariableStands names number scope s given name v.of
  pub others : (name : Bytes) → variable_of sc name ≡ None → meaning.variable_of scope name ≡ None
  pub regions : (name : List ℕ) → IsRegionName sc.regions (parameters_in sc) name
      → InScope active (region_for (value_of name s) name)
  pub within : TypesAreUsable active (parameters_in sc) s
  pub returns : (z : ℕ) → running s z sc.result ≡ result
