-- The instances of classes at closed types, of which regions are left out: a region parameter of a row takes
-- any region, and a closed head stands for the type that it closes to.
use Rattle.std.specs.Prelude.{◌≡◌, ◌&&◌, List, [], ◌∷◌, ◌++◌, Bool, true, false, Option, None, Some, IsTrue}
use Rattle.std.specs.Prelude.{is_some, unwrap_or, Contains, if◌then◌else◌}
use Rattle.std.specs.List.{list_all}
use Rattle.au_syntax.specs.declared.declarations.Universe.{Universe}
use Rattle.au_syntax.specs.Plain.{Bytes}
use Rattle.au_types.specs.declared.headings.Head.{Head}
use Rattle.au_types.specs.declared.types.DeclAt.{DeclAt}
use Rattle.au_types.specs.Rows.{head_of}
use Rattle.au_types.specs.Types as whole
use Rattle.au_types.specs.Types.{Meaning, Argument, Arguments, of_type}
use Rattle.au_types.specs.Universes.{universe_in}
use Rattle.au_matching.specs.declared.universes.TypeUniverse.{TypeUniverse}
use Rattle.au_matching.specs.declared.universes.TypeUniverse.TheVariants.{Free, Linear}
use Rattle.au_matching.specs.Forming.{takes}
use Rattle.au_matching.specs.Universes.{judged, of_row}
use Rattle.au_matching.specs.Bindings.{Bindings, value_of}
use Rattle.au_type_texts.specs.Closing.{closed}
use Rattle.au_type_texts.specs.Same.{same}
use Rattle.au_type_texts.specs.Types.{ClosedType, ClosedTypes, unit, truth, integer, text, named, reads}
use Rattle.au_type_texts.specs.Types.{writes, no_types, types}
use Rattle.au_judged_types.specs.Bounds.{Bounded, constrains, parameters, classes_of}
use Rattle.au_instances.specs.declared.constructors.Constructor.TheVariants as constructors
use Rattle.au_instances.specs.Becoming.{Becomes}
use Rattle.au_instances.specs.Forms.{arguments_of, type_name}
use Rattle.au_instances.specs.Rows.{Row}
use Rattle.au_instances.specs.Tables.{row_of}

-- the head of a row becomes a closed type under a substitution that fits the universes of the row's
-- parameters: it becomes a type that closes to the closed one
pub record ClosedBecomes (heads : List (DeclAt × Head)) (row : Row) (t : ClosedType) (s : Bindings)
    : Type 0 where
  pub whole : Meaning
  pub becomes : Becomes heads [] row whole s
  pub closes : closed whole ≡ Some t

mutual
  -- A row gives the instance of a class at a closed type: it is of the class, its head becomes the type under
  -- some substitution that fits, and each constraint of its parameters holds of what the parameter's value
  -- closes to.
  pub data ClosedInstance (rows : List Row) (heads : List (DeclAt × Head))
      : DeclAt → ClosedType → Row → Type 0 where
    by_row : (class : DeclAt) (t : ClosedType) (row : Row) (s : Bindings)
        → Contains rows row
        → row.class ≡ class
        → ClosedBecomes heads row t s
        → ((name : Bytes) (wanted : DeclAt) (value : Meaning) (part : ClosedType)
        → IsTrue (constrains row.generics name wanted)
        → value_of name s ≡ Some (of_type value)
        → closed value ≡ Some part
        → ClosedHolds rows heads wanted part)
        → ClosedInstance rows heads class t row

  -- a constraint holds of a closed type: some row gives the instance
  pub data ClosedHolds (rows : List Row) (heads : List (DeclAt × Head)) : DeclAt → ClosedType → Type 0 where
    given : (class : DeclAt) (t : ClosedType) (row : Row)
        → ClosedInstance rows heads class t row
        → ClosedHolds rows heads class t

-- ---- the same as a test

module _ (heads : List (DeclAt × Head)) where
  abbrev mutual
    -- the universe of a closed type
    pub closed_universe : ClosedType → TypeUniverse
    closed_universe unit = Free
    closed_universe truth = Free
    closed_universe (integer kind) = Free
    closed_universe text = Free
    closed_universe (named at args) = of_row (head_of heads at) (judged (closed_universes args))
    closed_universe (reads to) = Free
    closed_universe (writes to) = Linear

    -- those of closed types in order
    pub closed_universes : ClosedTypes → List TypeUniverse
    closed_universes no_types = []
    closed_universes (types one rest) = closed_universe one ∷ closed_universes rest

-- a closed type and whether a class has an instance at it
abbrev pub Part : Type 0
Part = ClosedType × (DeclAt → Bool)

-- those of the arguments that are types, in order
abbrev pub type_in : Argument → List Meaning
type_in (of_type t) = t ∷ []
type_in (whole.in_region region) = []

abbrev pub types_in : Arguments → List Meaning
types_in whole.no_arguments = []
types_in (whole.arguments one rest) = type_in one ++ types_in rest

-- whether what a type closes to, if it closes, is this closed type
abbrev pub closes_to : Option ClosedType → ClosedType → Bool
closes_to None t = false
closes_to (Some other) t = same other t

module _ (heads : List (DeclAt × Head)) where
  -- whether a parameter of a universe, if there is one, takes a closed type
  abbrev pub closed_taken : Option Universe → ClosedType → Bool
  closed_taken None t = false
  closed_taken (Some universe) t = takes universe (closed_universe heads t)

  -- whether a closed type may stand for a name of these type parameters, and has its classes
  abbrev pub closed_stands : List Bounded → Option Bytes → Part → Bool
  closed_stands generics None part = false
  closed_stands generics (Some name) part =
      closed_taken (universe_in (parameters generics) name) part.0
      && list_all part.1 (unwrap_or (classes_of generics name) [])

  -- the same of as many types, each that in its place
  abbrev pub all_closed_stand : List Bounded → List Meaning → List Part → Bool
  all_closed_stand generics [] [] = true
  all_closed_stand generics (name ∷ names) (part ∷ parts) =
      closed_stands generics (type_name name) part && all_closed_stand generics names parts
  all_closed_stand generics names parts = false

  -- whether the head of a row becomes a closed type with these arguments, and its constraints hold
  abbrev pub gives : List Bounded → Meaning → ClosedType → List Part → Bool
  gives [] head t parts = closes_to (closed head) t
  gives (first ∷ others) head t parts = all_closed_stand (first ∷ others) (types_in (arguments_of head)) parts

  -- that row, if there is one
  abbrev pub if_gives : ClosedType → List Part → Option Row → Option Row
  if_gives t parts None = None
  if_gives t parts (Some row) = if gives row.generics row.head t parts then Some row else None

-- as many types as closed types, of which each closes to that in its place
abbrev pub all_close_to : List Meaning → ClosedTypes → Bool
all_close_to [] no_types = true
all_close_to (one ∷ others) (types t rest) = closes_to (closed one) t && all_close_to others rest
all_close_to list closed = false

module _ (rows : List Row) (heads : List (DeclAt × Head)) where
  abbrev mutual
    -- the row that gives the instance of a class at a closed type
    pub closed_row : ClosedType → DeclAt → Option Row
    closed_row unit class = if_gives heads unit [] (row_of rows class constructors.Unit)
    closed_row truth class = if_gives heads truth [] (row_of rows class constructors.Bool)
    closed_row (integer kind) class =
        if_gives heads (integer kind) [] (row_of rows class (constructors.Int kind))
    closed_row text class = if_gives heads text [] (row_of rows class constructors.Text)
    closed_row (named at args) class =
        if_gives heads (named at args) (parts_of args) (row_of rows class (constructors.Declared at))
    closed_row (reads to) class = None
    closed_row (writes to) class = None

    -- closed types, each with whether a class has an instance at it
    pub parts_of : ClosedTypes → List Part
    parts_of no_types = []
    parts_of (types one rest) = (one, λ class. is_some (closed_row one class)) ∷ parts_of rest

  -- a closed type with whether a class has an instance at it
  abbrev pub has_instance : ClosedType → DeclAt → Bool
  has_instance t class = is_some (closed_row t class)

  abbrev pub part_of : ClosedType → Part
  part_of t = (t, has_instance t)

  -- those of the arguments of a closed type
  abbrev pub parts_in : ClosedType → List Part
  parts_in (named at args) = parts_of args
  parts_in t = []
