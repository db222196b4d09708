-- The frame of a body as it begins: it fits the scope of the body.
use Rattle.std.specs.Prelude.{◌≡◌, ℕ, ◌+◌, Bool, List, [], ◌∷◌, length, map, Option, Ok}
use Rattle.au_syntax.specs.Modules.{Constrained, Header}
use Rattle.au_syntax.specs.Plain.{Bytes}
use Rattle.au_syntax.specs.Types.{Labelled}
use Rattle.au_types.specs.Types.{Meaning}
use Rattle.au_matching.specs.Bindings.{Bindings, value_of}
use Rattle.au_matching.specs.Substituted.{region_for}
use Rattle.au_judged_types.specs.Bounds.{parameters}
use Rattle.au_type_texts.specs.Given.{Given, closed_under}
use Rattle.au_type_texts.specs.Types.{ClosedType}
use Rattle.au_running_types.specs.Running.{running}
use Rattle.au_written_types.specs.Written.{IsRegionName}
use Rattle.au_memory.specs.Loans.{Types}
use Rattle.au_typing.specs.Bodies.{body_scope, generics_in, outer_scope}
use Rattle.au_typing.specs.Lookups.{written_type}
use Rattle.au_typing.specs.Notes.{Note}
use Rattle.au_typing.specs.Scopes.{Outside, Scope}
use Rattle.au_meaning.specs.Names as meaning
use Rattle.au_meaning.specs.Views.{Field, View}
use Rattle.au_known_types.specs.Known.{OutsideIsKnown}
use Rattle.au_running_lives.specs.Blocks.{with_types}
use Rattle.au_running_lives.specs.Known.{Callables, InScope}
use Rattle.au_judged_bodies.specs.Frames.{TypesAreUsable}
use Rattle.au_judged_bodies.specs.Rounds.{PlaceFits, RoundFits}

-- what is written for parameters means these types
abbrev pub AreMeant : Scope → List (Labelled Bytes) → List Meaning → Type 0
AreMeant sc [] [] = Unit {0}
AreMeant sc (p ∷ rest) (of ∷ others) = (written_type sc p.of ≡ Ok of) × AreMeant sc rest others
AreMeant sc [] (of ∷ others) = ⊥
AreMeant sc (p ∷ rest) [] = ⊥

-- parameters with the closed types of these
abbrev pub fields_given : Given → List (Labelled Bytes) → List Meaning → List Field
fields_given given [] ofs = []
fields_given given (p ∷ rest) [] = []
fields_given given (p ∷ rest) (of ∷ others) =
    record { name = p.name.name; of = closed_under given of } ∷ fields_given given rest others

-- the running types of parameters
abbrev pub kinds_given : Bindings → List Meaning → List Meaning
kinds_given s ofs = map (running s 0) ofs

module _ (types : Types) (owner : ClosedType → Option (List ℕ)) {I K : Type 0} (see : View I Note (Unit {0}))
    (known : Callables I K) (may_hand : Meaning → Type 0) (given : Given) (Stands : Bindings → Type 0) where
  -- A body begins with its parameters, as the first names of the frame, of the running types of what is
  -- written for them.
  pub record BodyBegins (active : ℕ → Bool) (first : ℕ) (s : Bindings) (names : ℕ → Meaning) (outer : Scope)
      (params : List (Labelled Bytes)) (scope : Scope) : Type 0 where
    pub ofs : List Meaning
    pub are : AreMeant outer params ofs
    pub place : PlaceFits types owner see known may_hand given Stands (running s 0 scope.result) active
        (first + length ofs) scope
        (meaning.with_parameters first (fields_given given params ofs) []) s
        (with_types first (kinds_given s ofs) names)

  -- Where what is known round a body fits, and the regions of what stands for its type parameters may be
  -- used, it begins so.
  abbrev pub BodiesBegin : Type 0
  BodiesBegin =
      (outside : Outside) (generics : List (Constrained Bytes)) (header : Header Bytes) (scope : Scope)
      → body_scope outside generics header ≡ Ok scope → OutsideIsKnown outside
      → RoundFits types owner see known may_hand outside (generics_in outside generics) given Stands
      → (active : ℕ → Bool) (first : ℕ) (s : Bindings) (names : ℕ → Meaning) → Stands s
      → ((name : List ℕ) → IsRegionName [] (parameters (generics_in outside generics)) name
      → InScope active (region_for (value_of name s) name))
      → TypesAreUsable active (parameters (generics_in outside generics)) s
      → BodyBegins active first s names
      (outer_scope outside (generics_in outside generics)) header.parameters scope
