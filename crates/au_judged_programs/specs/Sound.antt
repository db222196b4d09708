-- That programs are sound.
use Rattle.std.specs.Prelude.{◌≡◌, ◌≢◌, ℕ, Bool, List, [], Option}
use Rattle.au_base.specs.Outside.{Files}
use Rattle.au_syntax.specs.Plain.{Bytes}
use Rattle.au_type_texts.specs.Types.{ClosedType}
use Rattle.au_events.specs.Events.{AllClosed, AtMostOnce, Inside, Once, OwnMade}
use Rattle.au_modules.specs.Programs.{ModuleParts}
use Rattle.au_names.specs.declared.targets.Target.{Target}
use Rattle.au_meaning.specs.Meanings.{mean}
use Rattle.au_meaning.specs.Worlds.{Event, Outcome, exit, running, stuck}
use Rattle.au_closed_meanings.specs.Numbers.{first_name}
use Rattle.au_closing_laws.specs.Accepted.{AreAcceptedAs}
use Rattle.au_closing_laws.specs.Programs.{program_modules}
use Rattle.au_closing_laws.specs.Trees.{ReadFile}
use Rattle.au_owners.specs.Owners.{owner_of}
use Rattle.au_safe_steps.specs.Exclusive.{IsExclusive}
use Rattle.au_judged_bodies.specs.Entries.{begins, entry_of}
use Rattle.au_judged_bodies.specs.Generic.{generic_functions}
use Rattle.au_judged_bodies.specs.Trees.{NotedParts}
use Rattle.au_judged_programs.specs.CheckedChecked.{IsChecked}
use Rattle.au_judged_programs.specs.Entries.{IsEntryHere}

-- In a checked program, what is found of an entry by the names of its module and its own has the form of
-- one: it is the function that its name means in the body of its module, with the body that is written
-- there.
abbrev pub EntriesAreFoundThere : List ModuleParts → List NotedParts → Type 0
EntriesAreFoundThere program noted =
    IsChecked program noted → (owner name : Bytes) (target : Target) (root : Bool)
    → entry_of program owner name ≡ begins target root → IsEntryHere program noted target

-- what is told of a run
abbrev pub told : Outcome → List Event
told seen = seen.world.store.deeds

-- A run is sound, given which module owns a type that is opaque.
pub record RunIsSound (owner : ClosedType → Option (List ℕ)) (seen : Outcome) : Type 0 where
  -- at each step the meaning has a rule
  pub goes_on : seen.ending ≢ stuck
  -- each linear value is born once, and consumed at most once, later
  pub once : AtMostOnce (told seen)
  -- each borrow is opened once and closed at most once, and each use of a reference stands after the
  -- opening of its borrow and not after its closing
  pub inside : Inside (told seen)
  -- what is born of an opaque type is born in the text of the module that declares it
  pub own : OwnMade owner (told seen)
  -- where the program exits, each linear value was consumed
  pub consumed : (well : Bool) → seen.ending ≡ exit well → Once (told seen)
  -- and each borrow was closed
  pub closed : (well : Bool) → seen.ending ≡ exit well → AllClosed (told seen)
  -- where it is cut off, before whichever of its ticks: of the references that are held for one open write
  -- borrow no two have overlapping places, and none has one that overlaps that of an open read borrow
  pub exclusive : seen.ending ≡ running → IsExclusive seen.world

-- what a program with notes does from an entry on an input, for at most so many ticks
abbrev pub run_of : List ModuleParts → List NotedParts → Target → List ℕ → ℕ → Outcome
run_of program noted entry input ticks =
    mean (generic_functions program noted (first_name program noted))
    (record { of = entry; given = [] }) input ticks

-- A program with notes is sound: so is each of its runs, from whatever entry is found, on whatever input,
-- and for however many ticks.
abbrev pub IsSound : List ModuleParts → List NotedParts → Type 0
IsSound program noted =
    (owner name : Bytes) (target : Target) (root : Bool) → entry_of program owner name ≡ begins target root
    → (input : List ℕ) (ticks : ℕ) → RunIsSound (owner_of program) (run_of program noted target input ticks)

-- Each accepted program is sound.
abbrev pub AcceptedProgramsAreSound : Type 0
AcceptedProgramsAreSound =
    (files : Files) (names all : List (List ℕ)) (reads : List ReadFile)
    (a : AreAcceptedAs files names all reads)
    → IsSound (program_modules reads) a.noted
