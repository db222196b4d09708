-- What is known of a program that comes to be run: what holds of each of its runs.
use Rattle.std.specs.Prelude.{List}
use Rattle.au_modules.specs.Programs.{ModuleParts}
use Rattle.au_typing.specs.Trees.{NotedParts}
use Rattle.au_rules.specs.Good.{AllDeclarationsAreGood}
use Rattle.au_outcomes.specs.NotingPrograms.Faults.{IsDerived}
use Rattle.au_outcomes.specs.declared.outcomes.Outcome.{Outcome}
use Rattle.au_judged_programs.specs.Sound.{IsSound}
use Rattle.au_top.specs.Ends.{IfRuns}

-- With whichever notes the rules of typing derive a program, it is sound: so is each of its runs, from
-- whatever entry is found, on whatever input and for however many ticks.
abbrev pub AllRunsAreSound : List ModuleParts → Type 0
AllRunsAreSound program = (noted : List NotedParts) → IsDerived program noted → IsSound program noted

-- A program is safe to run: its declarations are good, and all its runs are sound.
pub record IsSafe (program : List ModuleParts) : Type 0 where
  pub declared : AllDeclarationsAreGood program
  pub sound : AllRunsAreSound program

-- An outcome that is a program to run is one that is safe.
abbrev pub RunsSafely : Outcome → Type 0
RunsSafely arisen = IfRuns arisen IsSafe
