-- What a call that runs a program has done, by the code that the program is lowered to, and what that shows
-- of what the program means.
use Rattle.std.specs.Prelude.{◌≡◌, ◌≢◌, ◌⊎◌, ℕ, Bool, true, false, List, [], Option, IfSome}
use Rattle.au_base.specs.declared.limits.Limit.{Limit}
use Rattle.au_base.specs.declared.places.Pos.{Pos}
use Rattle.au_modules.specs.Programs.{ModuleParts}
use Rattle.au_names.specs.declared.targets.Target.{Target}
use Rattle.au_rules.specs.Good.{AllDeclarationsAreGood}
use Rattle.au_typing.specs.Trees.{NotedParts}
use Rattle.au_closing.specs.Entries.{begins, entry_of, not_of_the_form, nowhere}
use Rattle.au_lowering.specs.ClosedPrograms.Answers.{ClosesWithin, Passes}
use Rattle.au_lowering.specs.Faults.{IsDerived}
use Rattle.au_lowering.specs.Programs.{ClosedProgram}
use Rattle.au_effects.specs.Worlds.{Deed}
use Rattle.au_low.specs.Runs.{low_run}
use Rattle.au_lowering.specs.Answers.{too_long}
use Rattle.au_lowering.specs.Closed.{code_of, is_too_long}
use Rattle.au_meaning.specs.Worlds.{stuck}
use Rattle.au_running.specs.Came.{CodeEnds}
use Rattle.au_running.specs.Meant.{means}
use Rattle.au_running.specs.Runs.{IsRunnable, Refines}
use Rattle.au_running.specs.Shown.{CallShows}
use Rattle.au_running.specs.Lines.{deed_lines}
use Rattle.au_running.specs.Tells.{EventsShow, TellsMeant, type_words}
use Rattle.au_runs.specs.Calls.{IsCut}
use Rattle.au_running.specs.declared.ran.Ran.{Ran}
use Rattle.au_running.specs.declared.ran.Ran.TheVariants as ran
use Rattle.au_syntax.specs.Plain.{Bytes}

-- Nothing was written, and nothing of the input was taken.
abbrev pub IsIdle : (told left out out' : Option (List ℕ)) → Type 0
IsIdle told left out out' = (left ≡ told) × (out' ≡ out)

-- A program is safe to run from an entry: its declarations are good, and what it means from there, with
-- whichever notes the rules of typing derive it, is never stuck, whatever input comes and for however many
-- ticks.
pub record IsSafeFrom (program : List ModuleParts) (owner name : Bytes) : Type 0 where
  pub declared : AllDeclarationsAreGood program
  pub unstuck :
      (noted : List NotedParts) → IsDerived program noted → (entry : Target) (root : Bool)
      → entry_of program owner name ≡ begins entry root → (input : List ℕ) (ticks : ℕ)
      → (means program noted entry input ticks).ending ≢ stuck

module _ (program : List ModuleParts) (noted : List NotedParts) (owner name : Bytes) where
  -- There is no entry of this name, or it hasn't the form of one.
  abbrev pub HasNoEntry : Type 0
  HasNoEntry =
      (entry_of program owner name ≡ nowhere)
      ⊎ ((at : Pos) × (entry_of program owner name ≡ not_of_the_form at))

  -- The program is over this limit: an instance that is reached from the entry passes it, or there are too
  -- many; or the code of what the program closes to is too long.
  abbrev pub IsOverLimit : Limit → Type 0
  IsOverLimit limit =
      Passes program noted owner name limit
      ⊎ ((c : ClosedProgram) × ClosesWithin program noted owner name c × (is_too_long c ≡ true)
      × (limit ≡ too_long))

  -- The program is lowered to the code of this: it closes to it from its entry within the limits, and its
  -- code isn't too long. Where its runs are spoken of, every run of that code shows what the program means
  -- from its entry, and so do its events.
  pub record IsLowered : Type 0 where
    pub c : ClosedProgram
    pub closes : ClosesWithin program noted owner name c
    pub short : is_too_long c ≡ false
    pub meant : IsRunnable program noted
        → Refines (code_of c) (means program noted closes.closes.entry)
    pub tells : IsRunnable program noted
        → TellsMeant (type_words c.types) (code_of c) (means program noted closes.closes.entry)

  -- The program ran as code, and its run was cut off: a front of what the code writes within so many steps
  -- was written.
  abbrev pub ProgramIsCut : ℕ → (told out out' : Option (List ℕ)) → Type 0
  ProgramIsCut steps told out out' =
      (it : IsLowered) × IsCut (low_run false (code_of it.c)) steps told out out'

  -- This is answered of a run of the program for at most so many steps, and shows what the program means
  -- from its entry.
  pub record RunsAsMeant (ran : Ran) (steps : ℕ) (told left out out' : Option (List ℕ)) : Type 0 where
    pub entry : Target
    pub root : Bool
    pub begins_there : entry_of program owner name ≡ begins entry root
    pub shows : CallShows (means program noted entry) ran steps told left out out'

  -- These are the lines of the events of a run of the program on an input, of which this is answered: the
  -- events are those of what the program means on it, if the run has ended, and lie between those of that, if
  -- its steps were spent. A type is told by its text.
  pub record LivesAsMeant (ran : Ran) (lines : Bytes) (steps : ℕ) (told : Option (List ℕ)) : Type 0 where
    pub it : IsLowered
    pub input : List ℕ
    pub given : IfSome told (λ bytes. bytes ≡ input)
    pub deeds : List (Deed Bytes)
    pub are_lines : lines ≡ deed_lines deeds
    pub shows :
        EventsShow (type_words it.c.types) ran (means program noted it.closes.closes.entry input) steps deeds

  -- What an answer says, and these lines, of a call that was to run the program for at most so many steps:
  -- there is no such entry, or a limit is passed, and nothing was done; or the program ran as code, and its
  -- run ended so.
  abbrev pub ProgramEnds : Bool → Ran → Bytes → ℕ → (told left out out' : Option (List ℕ)) → Type 0
  ProgramEnds life ran.NoEntry lines steps told left out out' =
      HasNoEntry × IsIdle told left out out' × (lines ≡ [])
  ProgramEnds life (ran.Limit limit) lines steps told left out out' =
      IsOverLimit limit × IsIdle told left out out' × (lines ≡ [])
  ProgramEnds life other lines steps told left out out' =
      (it : IsLowered) × CodeEnds (code_of it.c) life other lines steps told left out out'

-- whether a call of the source failed, and whether one of the sink did
abbrev pub is_read_fault : Ran → Bool
is_read_fault ran.NoEntry = false
is_read_fault (ran.Limit limit) = false
is_read_fault (ran.Exit success) = false
is_read_fault (ran.Abort words) = false
is_read_fault ran.Steps = false
is_read_fault ran.ReadFault = true
is_read_fault ran.WriteFault = false

abbrev pub is_write_fault : Ran → Bool
is_write_fault ran.NoEntry = false
is_write_fault (ran.Limit limit) = false
is_write_fault (ran.Exit success) = false
is_write_fault (ran.Abort words) = false
is_write_fault ran.Steps = false
is_write_fault ran.ReadFault = false
is_write_fault ran.WriteFault = true
