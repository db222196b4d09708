-- Constants of checked programs stand.
use Rattle.std.specs.Prelude.{ℕ, List}
use Rattle.au_judged_types.specs.Bounds.{Bounded}
use Rattle.au_type_texts.specs.Given.{Given}
use Rattle.au_modules.specs.Programs.{ModuleParts}
use Rattle.au_judged_bodies.specs.Trees.{NotedParts}
use Rattle.au_judged_programs.specs.CheckedChecked.{IsChecked}
use Rattle.au_judged_programs.specs.RoundProgramsBodies.{ConstantsStand}

-- In a checked program the constants stand that are seen in the body of the module at a place, whatever is
-- given for type parameters there.
abbrev pub ConstantsOfProgramsStand : Type 0
ConstantsOfProgramsStand =
    (program : List ModuleParts) (noted : List NotedParts) → IsChecked program noted
    → (place : ℕ) (generics : List Bounded) (given : Given)
    → ConstantsStand program noted place generics given
