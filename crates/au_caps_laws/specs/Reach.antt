-- What closed types reach.
use Rattle.std.specs.Prelude.{◌≡◌, ◌⊎◌, List, [], ◌∷◌, ◌++◌, Option, Some, Contains}
use Rattle.au_syntax.specs.Plain.{Bytes}
use Rattle.au_syntax.specs.declared.modules.Part.TheVariants.{Body}
use Rattle.au_syntax.specs.Types.{Labelled, WrittenType}
use Rattle.au_types.specs.declared.headings.Head.{Head}
use Rattle.au_types.specs.declared.parameters.Parameter.{Parameter}
use Rattle.au_types.specs.declared.types.DeclAt.{DeclAt}
use Rattle.au_types.specs.Meant.{meant}
use Rattle.au_types.specs.Senses.{sense_of}
use Rattle.au_types.specs.Types.{Meaning}
use Rattle.au_type_texts.specs.Closing.{closed}
use Rattle.au_type_texts.specs.Given.{Given, closed_under, given_for}
use Rattle.au_type_texts.specs.Types.{ClosedType, ClosedTypes, integer, named, no_types, reads, text, truth}
use Rattle.au_type_texts.specs.Types.{types, unit, writes}
use Rattle.au_modules.specs.Programs.{ModuleParts}
use Rattle.au_names.specs.HeadsOf.{heads_of}
use Rattle.au_caps_types.specs.Reaching.{DeclaredReaches}
use Rattle.au_typing.specs.Notes.{NotedExpression, type_of}
use Rattle.au_typing.specs.Written.{types_at}
use Rattle.au_caps_lists.specs.Bodies.{Bodied, params_of}
use Rattle.au_caps_lists.specs.Holding.{Hands, Holds}
use Rattle.au_caps_lists.specs.Mentions.{Mention, declared, generic, mentions, written_mentions}
use Rattle.au_judged_bodies.specs.WrittenTypes.{types_in_block}
use Rattle.au_judged_bodies.specs.Texts.{arguments_by_block}

unfoldable mutual
  -- the declared types that stand in a closed type, in arguments and behind references too
  pub declared_in : ClosedType → List DeclAt
  declared_in unit = []
  declared_in truth = []
  declared_in (integer kind) = []
  declared_in text = []
  declared_in (named at args) = at ∷ declared_in_all args
  declared_in (reads t) = declared_in t
  declared_in (writes t) = declared_in t

  -- in closed types
  pub declared_in_all : ClosedTypes → List DeclAt
  declared_in_all no_types = []
  declared_in_all (types one rest) = declared_in one ++ declared_in_all rest

module _ (program : List ModuleParts) where
  -- a closed type reaches a head: a declared type that stands in it does
  abbrev pub ClosedReaches : ClosedType → Bytes → Type 0
  ClosedReaches t h = (a : DeclAt) × Contains (declared_in t) a × DeclaredReaches program a h

  -- what mentions reach where closed types are given for type parameters: a declared type among them does, or
  -- what is given for a type parameter among them
  abbrev pub GivenReaches : Given → List Mention → Bytes → Type 0
  GivenReaches given all h =
      ((a : DeclAt) × Contains all (declared a) × DeclaredReaches program a h)
      ⊎ ((name : Bytes) × Contains all (generic name) × ClosedReaches (given_for given name) h)

  -- A type reaches, once closed types are given for its type parameters, what is reached by what stands in
  -- it.
  abbrev pub TypesReach : Type 0
  TypesReach =
      (given : Given) (t : Meaning) (h : Bytes) → ClosedReaches (closed_under given t) h
      → GivenReaches given (mentions t) h

  -- So does a written type, where it means a type, by what stands in it as it is written, among the names
  -- that are visible; regions of borrow statements may be open there.
  abbrev pub WrittenTypesReach : Type 0
  WrittenTypesReach =
      (opened : List Bytes) (params : List Parameter) (visible : List (Bytes × DeclAt))
      (heads : List (DeclAt × Head)) (given : Given) (written : WrittenType) (t : Meaning)
      → meant opened params visible heads written ≡ Some t
      → (h : Bytes) → ClosedReaches (closed_under given t) h
      → GivenReaches given (written_mentions (sense_of [] params visible heads) written) h

  -- a head is reached, or what is given for a type parameter reaches it
  abbrev pub IsReachedOrGiven : Given → (Bytes → Type 0) → Bytes → Type 0
  IsReachedOrGiven given Reached h = Reached h ⊎ ((name : Bytes) × ClosedReaches (given_for given name) h)

  -- The type of a value is bounded by a list of heads: it closes, and then it reaches only what is on the
  -- list, or what is reached by what is given for type parameters.
  abbrev pub IsBoundedBy : Given → (Bytes → Type 0) → Meaning → Type 0
  IsBoundedBy given Lists t =
      (of : ClosedType) × (closed t ≡ Some of)
      × ((h : Bytes) → ClosedReaches of h → IsReachedOrGiven given Lists h)

  module _ (b : Bodied) (given : Given) where
    -- what a written type means in the body of a function or method, where these regions are open
    abbrev pub meant_among : List Bytes → WrittenType → Option Meaning
    meant_among opened t = meant opened (params_of b) (types_at program b.place Body) (heads_of program) t

    -- What the closed type of a parameter reaches is held by the function or method, by the report's list, or
    -- is reached by what is given for its type parameters.
    abbrev pub ParametersAreHeld : Type 0
    ParametersAreHeld =
        (f : Labelled Bytes) → Contains b.header.parameters f → (t : Meaning) → meant_among [] f.of ≡ Some t
        → (h : Bytes) → ClosedReaches (closed_under given t) h → IsReachedOrGiven given (Holds program b) h

    -- So is what the closed type of a declared variable or a bound name reaches, by the type that is written
    -- for it, whichever regions of borrow statements are open there.
    abbrev pub VariablesAreHeld : Type 0
    VariablesAreHeld =
        (written : WrittenType) → Contains (types_in_block b.block) written → (opened : List Bytes)
        (t : Meaning) → meant_among opened written ≡ Some t → (h : Bytes)
        → ClosedReaches (closed_under given t) h → IsReachedOrGiven given (Holds program b) h

    -- What the closed type of the result reaches is handed on, or is reached by what is given.
    abbrev pub ResultIsHanded : Type 0
    ResultIsHanded =
        (t : Meaning) → meant_among [] b.header.result ≡ Some t → (h : Bytes)
        → ClosedReaches (closed_under given t) h → IsReachedOrGiven given (Hands program b) h

    -- So is what the closed type of an argument of a call reaches, by the type that is noted there.
    abbrev pub ArgumentsAreHanded : Type 0
    ArgumentsAreHanded =
        (e : NotedExpression) → Contains (arguments_by_block b.block) e → (h : Bytes)
        → ClosedReaches (closed_under given (type_of e)) h → IsReachedOrGiven given (Hands program b) h
