-- Functions that have the form of an entry, and runs from them.
use Rattle.std.specs.Prelude.{◌≡◌, ℕ, Bool, List, [], ◌∷◌, Some}
use Rattle.au_base.specs.Outside.{Files}
use Rattle.au_syntax.specs.declared.modules.Part.TheVariants.{Body}
use Rattle.au_modules.specs.Programs.{ModuleParts}
use Rattle.au_names.specs.declared.targets.Target.{Target}
use Rattle.au_names.specs.HeadsOf.{heads_of}
use Rattle.au_judged_bodies.specs.Trees.{NotedParts}
use Rattle.au_judged_bodies.specs.Written.{types_at}
use Rattle.au_judged_bodies.specs.Bodies.{BodyOf, body_of}
use Rattle.au_judged_bodies.specs.Entries.{form_of}
use Rattle.au_judged_bodies.specs.Instances.{Instance}
use Rattle.au_meaning.specs.Meanings.{mean}
use Rattle.au_judged_bodies.specs.Generic.{generic_functions}
use Rattle.au_owners.specs.Owners.{owner_of}
use Rattle.au_closing_laws.specs.Accepted.{AreAcceptedAs}
use Rattle.au_closing_laws.specs.Programs.{program_modules}
use Rattle.au_closing_laws.specs.Trees.{ReadFile}
use Rattle.au_judged_programs.specs.CheckedChecked.{IsChecked}
use Rattle.au_judged_programs.specs.Judged.{AreCovered, CallsAreAllowed, CallsRunInBodies, anything}
use Rattle.au_judged_bodies.specs.Held.{Permits}
use Rattle.au_judged_bodies.specs.Keys.{Key}
use Rattle.au_judged_bodies.specs.Known.{Calls}
use Rattle.au_judged_bodies.specs.Tables.{types_of}
use Rattle.au_judged_programs.specs.RunningBodiesBodies.{generics_of}
use Rattle.au_judged_programs.specs.Programs.{OthersAreSeen}
use Rattle.au_sound.specs.Runs.{HoldsWhereCut, IsSeenWell}

-- A function has the form of an entry: its body is there and has no type parameters, it takes nothing or the
-- root, and gives `ExitCode`.
pub record IsEntryHere (program : List ModuleParts) (noted : List NotedParts) (target : Target) : Type 0 where
  pub body : BodyOf
  pub there : body_of program noted target ≡ Some body
  pub root : Bool
  pub form : form_of (types_at program body.place Body) (heads_of program) body.generics body.header
      ≡ Some root

-- In the body of a function, in each way in which it is called, calls of shipped functions and of methods are
-- seen.
abbrev pub OthersAreSeenInBodies : List ModuleParts → List NotedParts → Type 0
OthersAreSeenInBodies program noted =
    (key : Key program noted)
    → OthersAreSeen program noted key.body.place
    (generics_of program noted key.body key.one.given) key.one.given

-- So it is in a checked program.
abbrev pub OthersOfProgramsAreSeen : List ModuleParts → List NotedParts → Type 0
OthersOfProgramsAreSeen program noted = IsChecked program noted → OthersAreSeenInBodies program noted

-- Calls run in the bodies of a checked program, where they are allowed.
abbrev pub CallsOfProgramsRun : (program : List ModuleParts) (noted : List NotedParts) {E H : Type 0}
    → Calls (Key program noted) E → Permits (Key program noted) H → Type 0
CallsOfProgramsRun program noted calls handed =
    IsChecked program noted → CallsAreAllowed program noted handed calls
    → CallsRunInBodies program noted handed calls (owner_of program)

-- Every run of a program with notes from such a function is seen well, and what is born of an opaque type is
-- born in its own module, whatever the input and however many ticks there are, and whichever numbers the
-- first names of functions have.
abbrev pub AllRunsAreSeenWell : List ModuleParts → List NotedParts → Type 0
AllRunsAreSeenWell program noted =
    (target : Target) → IsEntryHere program noted target → (first : Instance → ℕ) (input : List ℕ) (ticks : ℕ)
    → IsSeenWell (owner_of program)
    (mean (generic_functions program noted first) (record { of = target; given = [] }) input ticks)

-- So it is in a checked program.
abbrev pub EntriesRunWell : List ModuleParts → List NotedParts → Type 0
EntriesRunWell program noted = IsChecked program noted → AllRunsAreSeenWell program noted

-- Names hold what is permitted wherever such a run of a checked program is cut off, where this covers the
-- bodies of functions: the oldest frame is that of the entry, in the way in which it is called.
abbrev pub EntriesHoldWell : (program : List ModuleParts) (noted : List NotedParts) {W : Type 0}
    → Permits (Key program noted) W → Type 0
EntriesHoldWell program noted permits =
    IsChecked program noted → AreCovered program noted (anything (Key program noted)) permits
    → (target : Target)
    → IsEntryHere program noted target → (first : Instance → ℕ) (input : List ℕ) (ticks : ℕ)
    → (key : Key program noted) × (key.one ≡ record { of = target; given = [] })
    × HoldsWhereCut (types_of program) (owner_of program) permits (key ∷ [])
    (mean (generic_functions program noted first) (record { of = target; given = [] }) input ticks)

-- So it is in an accepted program.
abbrev pub AcceptedEntriesRunWell : Type 0
AcceptedEntriesRunWell =
    (files : Files) (names all : List (List ℕ)) (reads : List ReadFile)
    (a : AreAcceptedAs files names all reads) → AllRunsAreSeenWell (program_modules reads) a.noted
