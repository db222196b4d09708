-- What calls are passed, whatever they do, and what functions return, while an accepted program runs.
use Rattle.std.specs.Prelude.{◌≡◌, ℕ, true, List, [], ◌∷◌, Option, None, Some}
use Rattle.au_base.specs.Outside.{Files}
use Rattle.au_syntax.specs.Plain.{Bytes}
use Rattle.au_types.specs.Types.{Meaning}
use Rattle.au_type_texts.specs.Given.{Given}
use Rattle.au_modules.specs.Programs.{ModuleParts}
use Rattle.au_names.specs.declared.targets.Target.{Target}
use Rattle.au_typing.specs.Trees.{NotedParts}
use Rattle.au_closing.specs.Instances.{Instance}
use Rattle.au_meaning.specs.Meanings.{mean}
use Rattle.au_meaning.specs.Views as views
use Rattle.au_meaning.specs.Views.{invokes, makes, ships}
use Rattle.au_meaning.specs.Worlds.{Value, World}
use Rattle.au_closed_meanings.specs.Generic.{generic_functions}
use Rattle.au_memory.specs.Forests.{Made}
use Rattle.au_lending.specs.Records.{onto, types_made}
use Rattle.au_accepted.specs.Accepted.{AreAcceptedAs}
use Rattle.au_accepted.specs.Programs.{program_modules}
use Rattle.au_accepted.specs.Trees.{ReadFile}
use Rattle.au_tables.specs.Tables.{types_of}
use Rattle.au_owners.specs.Owners.{owner_of}
use Rattle.au_running_judgements.specs.Shipping.{Ships}
use Rattle.au_safe_ships.specs.Frames.{Frame}
use Rattle.au_safe_ships.specs.Good.{IsIn}
use Rattle.au_safe_ships.specs.Making.{values_of}
use Rattle.au_safe_ships.specs.Orders.{Act}
use Rattle.au_judged_bodies.specs.Keys.{Key, ways}
use Rattle.au_judged_programs.specs.Entries.{IsEntryHere}
use Rattle.au_caps_lists.specs.Bodies.{Bodied}
use Rattle.au_caps_lists.specs.Holding.{Hands, Holds}
use Rattle.au_caps_laws.specs.Births.{IsRunFor}
use Rattle.au_caps_laws.specs.Reach.{IsBoundedBy}
use Rattle.au_caps_laws.specs.Watching.{Watch, watched_mean}

module _ (program : List ModuleParts) where
  -- the type of each of some values is bounded by a list of heads
  abbrev pub AreBoundedBy : Given → (Bytes → Type 0) → List Meaning → Type 0
  AreBoundedBy given Lists [] = Unit {0}
  AreBoundedBy given Lists (t ∷ ts) = IsBoundedBy program given Lists t × AreBoundedBy given Lists ts

  -- Values are of these types in a world: they are under way in it, the last on top of the others, and it is
  -- as a world should be.
  pub record AreOf (values : List Value) (ts : List Meaning) (w : World) : Type 0 where
    pub made : Made
    pub are : values_of made ≡ values
    pub have : types_made made ≡ ts
    pub acts : List Act
    pub frames : List Frame
    pub sizes : List ℕ
    pub under : Made
    pub state : IsIn (types_of program) (owner_of program) acts frames sizes (onto made under) w

module _ (program : List ModuleParts) (noted : List NotedParts) where
  -- The function or method that makes a call, if one does, hands on types: they reach only what it hands on,
  -- by the report's list, or what is given for its type parameters reaches.
  abbrev pub AreHandedBy : Option Instance → List Meaning → Type 0
  AreHandedBy None ts = Unit {0}
  AreHandedBy (Some caller) ts =
      (body : Bodied) × IsRunFor program noted caller.of body
      × AreBoundedBy program caller.given (Hands program body) ts

  -- Types of what a function or method is passed: those of its parameters in one of its ways, and they reach
  -- only what it holds, by the report's list, or what is given for its type parameters reaches.
  pub record AreHeldBy (one : Instance) (ts : List Meaning) : Type 0 where
    pub key : Key program noted
    pub called : key.one ≡ one
    pub takes : (ways program noted).parameters key ≡ ts
    pub body : Bodied
    pub runs : IsRunFor program noted one.of body
    pub listed : AreBoundedBy program one.given (Holds program body) ts

  -- Types of what a call is passed are those that it takes: where it calls a function or a method, they are
  -- held by this; where it makes a value of a case of a type, they are those of the fields of this case; and
  -- a shipped call may be called at them.
  abbrev pub AreTakenBy : views.Act Instance → List Meaning → Type 0
  AreTakenBy (invokes one) ts = AreHeldBy one ts
  AreTakenBy (makes of tag home) ts = (t : Meaning) × ((types_of program).fields t tag ≡ Some ts)
  AreTakenBy (ships call born) ts =
      (t : Meaning) × Ships (types_of program) (owner_of program) (λ k. true) call born ts t

  -- The precondition of calls, whatever they do: what a call is passed is of some types, which it takes, and
  -- which the function or method that makes the call hands on.
  pub record IsPassedWell (caller : Option Instance) (act : views.Act Instance) (args : List Value)
      (w : World) : Type 0 where
    pub kinds : List Meaning
    pub typed : AreOf program args kinds w
    pub taken : AreTakenBy act kinds
    pub handed : AreHandedBy caller kinds

  -- The postcondition: what it returns is of the type of its result in one of its ways, and this reaches only
  -- what it hands on, by the report's list, or what is given for its type parameters reaches.
  pub record IsReturnedWell (one : Instance) (value : Value) (w : World) : Type 0 where
    pub key : Key program noted
    pub called : key.one ≡ one
    pub typed : AreOf program (value ∷ []) ((ways program noted).result key ∷ []) w
    pub body : Bodied
    pub runs : IsRunFor program noted one.of body
    pub listed : IsBoundedBy program one.given (Hands program body) ((ways program noted).result key)

  -- a watch lets pass what is passed and returned so
  pub record LetsPass (watch : Watch Instance) : Type 0 where
    pub passed : (caller : Option Instance) (act : views.Act Instance) (args : List Value) (w : World)
        → IsPassedWell caller act args w → watch.passed caller act args w ≡ true
    pub returned : (one : Instance) (value : Value) (w : World) → IsReturnedWell one value w
        → watch.returned one value w ≡ true

  -- A run under such a watch is the run itself, from each function that has the form of an entry, whatever
  -- the input and however many ticks there are, and whichever numbers the first names of functions have: so
  -- in each run whatever is passed to a call, be it of a function or a method, or a shipped one, or one that
  -- makes a value, and what functions and methods return, is passed and returned so.
  abbrev pub CallsAreListed : Type 0
  CallsAreListed =
      (watch : Watch Instance) → LetsPass watch → (first : Instance → ℕ) (target : Target)
      → IsEntryHere program noted target → (input : List ℕ) (ticks : ℕ)
      → watched_mean watch (generic_functions program noted first) (record { of = target; given = [] }) input
      ticks
      ≡ mean (generic_functions program noted first) (record { of = target; given = [] }) input ticks

-- So it is in each accepted program.
abbrev pub AcceptedCallsAreListed : Type 0
AcceptedCallsAreListed =
    (files : Files) (names all : List (List ℕ)) (reads : List ReadFile)
    (a : AreAcceptedAs files names all reads)
    → CallsAreListed (program_modules reads) a.noted
