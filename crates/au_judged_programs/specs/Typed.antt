-- The types of a checked program are as the memory of its runs asks.
use Rattle.std.specs.Prelude.{List}
use Rattle.au_modules.specs.Programs.{ModuleParts}
use Rattle.au_judged_bodies.specs.Trees.{NotedParts}
use Rattle.au_judged_bodies.specs.Tables.{BirthsAreShipped, types_of}
use Rattle.au_sound_calls.specs.Sound.{AreTyped}
use Rattle.au_judged_programs.specs.CheckedChecked.{IsChecked}

-- In a checked program the types whose values have births are the shipped ones: Linear, and without a
-- definition.
abbrev pub CheckedBirthsAreShipped : Type 0
CheckedBirthsAreShipped =
    (program : List ModuleParts) (noted : List NotedParts) → IsChecked program noted
    → BirthsAreShipped program

-- The types of a checked program have their forms, and each form is its own; fields of Free types are Free,
-- and what has births isn't.
abbrev pub CheckedTypesAreTyped : Type 0
CheckedTypesAreTyped =
    (program : List ModuleParts) (noted : List NotedParts) → IsChecked program noted
    → AreTyped (types_of program)
