-- Calls of shipped functions, as the meaning of a checked program sees them.
use Rattle.std.specs.Prelude.{ℕ, Bool, List}
use Rattle.au_syntax.specs.Plain.{Bytes}
use Rattle.au_types.specs.declared.parameters.Parameter.{Parameter}
use Rattle.au_matching.specs.Bindings.{Bindings}
use Rattle.au_type_texts.specs.Given.{Given}
use Rattle.au_modules.specs.Programs.{ModuleParts}
use Rattle.au_judged_bodies.specs.Trees.{NotedParts}
use Rattle.au_judged_bodies.specs.Functions.{BodyRuns}
use Rattle.au_judged_programs.specs.CheckedChecked.{IsChecked}
use Rattle.au_judged_programs.specs.Programs.{ShippedAreSeen}

-- In the bodies of a checked program calls of shipped functions are seen, wherever they run.
abbrev pub ShippedOfProgramsAreSeen : List ModuleParts → List NotedParts → Type 0
ShippedOfProgramsAreSeen program noted =
    IsChecked program noted → (place : ℕ) (params : List Parameter) (regions : List Bytes) (given : Given)
    (s : Bindings) (z : ℕ) (active : ℕ → Bool) → BodyRuns program params regions given s z active
    → ShippedAreSeen program noted place params regions given s z active
