-- What a program means from an entry.
use Rattle.std.specs.Prelude.{ℕ, List}
use Rattle.au_modules.specs.Programs.{ModuleParts}
use Rattle.au_names.specs.declared.targets.Target.{Target}
use Rattle.au_typing.specs.Trees.{NotedParts}
use Rattle.au_lowering.specs.Programs.{plain_instance}
use Rattle.au_closed_meanings.specs.Generic.{generic_functions}
use Rattle.au_closed_meanings.specs.Numbers.{first_name}
use Rattle.au_meaning.specs.Meanings.{mean}
use Rattle.au_meaning.specs.Worlds.{Outcome}

-- what a program with notes does from an entry on an input, for at most so many ticks: each function and
-- method is run from its own tree, and each name has the number of its declaration in the program's text
abbrev pub means : List ModuleParts → List NotedParts → Target → List ℕ → ℕ → Outcome
means program noted entry input ticks =
    mean (generic_functions program noted (first_name program noted)) (plain_instance entry) input ticks
