-- That runs of the code of a program do what the program means, with its events and in step with it.
use Rattle.std.specs.Prelude.{◌≡◌, ◌≢◌, ℕ, ◌+◌, ◌*◌, ◌≤◌, true, false, List}
use Rattle.au_modules.specs.Programs.{ModuleParts}
use Rattle.au_typing.specs.Trees.{NotedParts}
use Rattle.au_lowering.specs.Programs.{ClosedProgram, Closes}
use Rattle.au_closed_meanings.specs.Numbers.{numbers_of}
use Rattle.au_low.specs.Runs.{low_run}
use Rattle.au_low.specs.declared.code.Code.{Code}
use Rattle.au_low.specs.declared.endings.Ending.TheVariants as ending
use Rattle.au_lowering.specs.Closed.{code_of, functions_numbered, told_in}
use Rattle.au_meaning.specs.Laws.{is_over}
use Rattle.au_meaning.specs.Worlds.{Outcome, stuck}
use Rattle.au_lowered.specs.FollowLaws.{Follows}
use Rattle.au_running.specs.Meant.{means}
use Rattle.au_running.specs.Runs.{IsRunnable}
use Rattle.au_syntax.specs.Plain.{Bytes}

-- A run of the code that a program is lowered to, `code_of c`, does what the program means from its entry for
-- any number of ticks for which that isn't stuck: it ends in the same way, with the same output, input left
-- and events, after as many steps as ticks or more and at most eight times as many.
abbrev pub LoweredProgramsFollow : Type 0
LoweredProgramsFollow =
    (program : List ModuleParts) (noted : List NotedParts) (owner name : Bytes) (c : ClosedProgram)
    → (closes : Closes program noted owner name c) → IsRunnable program noted
    → (input : List ℕ) (ticks : ℕ)
    → ((means program noted closes.entry input ticks).ending ≡ stuck → ⊥)
    → Follows (told_in c.types) (functions_numbered (numbers_of program noted closes.functions.instances) c)
    input
    (means program noted closes.entry input ticks)

-- A run of code ends in step with what is meant on an input, which has ended within so many ticks, after t of
-- them: it ends after s steps, however many more it may make, and t <= s <= 8 t.
pub record EndsInStep (code : Code) (meant : ℕ → Outcome) (input : List ℕ) (ticks : ℕ) : Type 0 where
  pub steps : ℕ
  pub least : (meant ticks).made ≤ steps
  pub most : steps ≤ 8 * (meant ticks).made
  pub made : (more : ℕ) → (low_run false code input (steps + more)).made ≡ steps
  pub ended : (more : ℕ) → (low_run false code input (steps + more)).ending ≢ ending.Steps

-- So it does on whatever input, where what is meant has ended.
abbrev pub KeepsStep : Code → (List ℕ → ℕ → Outcome) → Type 0
KeepsStep code meant =
    (input : List ℕ) (ticks : ℕ) → is_over (meant input ticks).ending ≡ true
    → EndsInStep code (meant input) input ticks

-- So does the code that a program is lowered to, where what the program means from its entry is never stuck.
abbrev pub LoweredProgramsKeepStep : Type 0
LoweredProgramsKeepStep =
    (program : List ModuleParts) (noted : List NotedParts) (owner name : Bytes) (c : ClosedProgram)
    → (closes : Closes program noted owner name c) → IsRunnable program noted
    → ((input : List ℕ) (ticks : ℕ) → (means program noted closes.entry input ticks).ending ≡ stuck → ⊥)
    → KeepsStep (code_of c) (means program noted closes.entry)
