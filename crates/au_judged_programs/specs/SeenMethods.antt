-- Calls of methods of classes, in the bodies of a checked program.
use Rattle.std.specs.Prelude.{ℕ, Bool, List}
use Rattle.au_syntax.specs.Plain.{Bytes}
use Rattle.au_matching.specs.Bindings.{Bindings}
use Rattle.au_judged_types.specs.Bounds.{Bounded, parameters}
use Rattle.au_type_texts.specs.Given.{Given}
use Rattle.au_modules.specs.Programs.{ModuleParts}
use Rattle.au_judged_bodies.specs.Trees.{NotedParts}
use Rattle.au_judged_bodies.specs.Functions.{BodyRuns}
use Rattle.au_judged_bodies.specs.Keys.{ConstraintsHold}
use Rattle.au_judged_programs.specs.CheckedChecked.{IsChecked}
use Rattle.au_judged_programs.specs.Programs.{MethodsAreSeen}

-- Calls of methods are seen wherever a body runs, with what stands for its type parameters, where the
-- constraints of these hold: the class has an instance at the running type that is put for its parameter, and
-- what the head of its row matches there stands for the type parameters of the instance.
abbrev pub MethodsOfProgramsAreSeen : List ModuleParts → List NotedParts → Type 0
MethodsOfProgramsAreSeen program noted =
    IsChecked program noted → (place : ℕ) (generics : List Bounded) (given : Given) (regions : List Bytes)
    (s : Bindings) (z : ℕ)
    (active : ℕ → Bool) → BodyRuns program (parameters generics) regions given s z active
    → ConstraintsHold program generics s → MethodsAreSeen program noted place generics given regions s z
    active
