-- What names hold while an accepted program runs.
use Rattle.std.specs.Prelude.{◌≡◌, ℕ, Bool, List, [], ◌∷◌}
use Rattle.au_base.specs.Outside.{Files}
use Rattle.au_syntax.specs.Plain.{Bytes}
use Rattle.au_types.specs.Types.{Meaning}
use Rattle.au_modules.specs.Programs.{ModuleParts}
use Rattle.au_names.specs.declared.targets.Target.{Target}
use Rattle.au_typing.specs.Trees.{NotedParts}
use Rattle.au_closing.specs.Entries.{begins, entry_of}
use Rattle.au_closing.specs.Instances.{Instance}
use Rattle.au_meaning.specs.Meanings.{mean}
use Rattle.au_closed_meanings.specs.Generic.{generic_functions}
use Rattle.au_tables.specs.Tables.{types_of}
use Rattle.au_owners.specs.Owners.{owner_of}
use Rattle.au_accepted.specs.Accepted.{AreAcceptedAs}
use Rattle.au_accepted.specs.Programs.{program_modules}
use Rattle.au_accepted.specs.Trees.{ReadFile}
use Rattle.au_sound.specs.Runs.{CallsHold, HoldsWhereCut, IsEntry}
use Rattle.au_judged_bodies.specs.Held.{Permits}
use Rattle.au_judged_bodies.specs.Keys.{Key, ways}
use Rattle.au_judged_programs.specs.Sound.{run_of}
use Rattle.au_caps_lists.specs.Bodies.{Bodied}
use Rattle.au_caps_lists.specs.Holding.{Holds}
use Rattle.au_caps_laws.specs.Births.{IsRunFor}
use Rattle.au_caps_laws.specs.Reach.{IsBoundedBy}

module _ (program : List ModuleParts) (noted : List NotedParts) where
  -- Where a function or method is called in a way, values of a type may be held by the report: the type is
  -- bounded by what the function or method that is run holds.
  pub record IsListed (key : Key program noted) (t : Meaning) : Type 0 where
    pub body : Bodied
    pub runs : IsRunFor program noted key.one.of body
    pub bounded : IsBoundedBy program key.one.given (Holds program body) t

  -- a permit that says so
  pub record Permit : Type 0 where
    pub way : Key program noted
    pub type : Meaning
    pub listed : IsListed way type

  abbrev pub permits : Permits (Key program noted) Permit
  permits = record { way = λ one. one.way; type = λ one. one.type }

  -- In each run from a way in which an entry is called, whatever the input, however many ticks there are, and
  -- whichever numbers the first names of functions have, names hold what is permitted so wherever the run is
  -- cut off: each frame is of a function that was called in some way, the oldest one in that of the entry,
  -- and each of its names that holds something is of a type that is listed there.
  abbrev pub RunsAreListed : Type 0
  RunsAreListed =
      (first : Instance → ℕ) (key : Key program noted)
      → IsEntry (types_of program) (owner_of program) (ways program noted)
      (generic_functions program noted first) key
      → (input : List ℕ) (ticks : ℕ)
      → HoldsWhereCut (types_of program) (owner_of program) permits (key ∷ [])
      (mean (generic_functions program noted first) key.one input ticks)

  -- So it is in each call, from wherever its arguments are under way: wherever it is cut off, its own frame
  -- lies on those that were there, and is held in the way in which the function was called.
  abbrev pub EachCallIsListed : Type 0
  EachCallIsListed =
      (first : Instance → ℕ)
      → CallsHold (types_of program) (owner_of program) permits (ways program noted)
      (generic_functions program noted first)

  -- So it is in each run from whatever entry is found.
  abbrev pub EntriesAreListed : Type 0
  EntriesAreListed =
      (owner name : Bytes) (target : Target) (root : Bool) → entry_of program owner name ≡ begins target root
      → (input : List ℕ) (ticks : ℕ)
      → (key : Key program noted) × (key.one ≡ record { of = target; given = [] })
      × HoldsWhereCut (types_of program) (owner_of program) permits (key ∷ [])
      (run_of program noted target input ticks)

-- So it is in each accepted program.
abbrev pub AcceptedRunsAreListed : Type 0
AcceptedRunsAreListed =
    (files : Files) (names all : List (List ℕ)) (reads : List ReadFile)
    (a : AreAcceptedAs files names all reads)
    → RunsAreListed (program_modules reads) a.noted

abbrev pub AcceptedCallsAreHeld : Type 0
AcceptedCallsAreHeld =
    (files : Files) (names all : List (List ℕ)) (reads : List ReadFile)
    (a : AreAcceptedAs files names all reads)
    → EachCallIsListed (program_modules reads) a.noted

abbrev pub AcceptedEntriesAreListed : Type 0
AcceptedEntriesAreListed =
    (files : Files) (names all : List (List ℕ)) (reads : List ReadFile)
    (a : AreAcceptedAs files names all reads)
    → EntriesAreListed (program_modules reads) a.noted
