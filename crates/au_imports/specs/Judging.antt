-- A module whose names are judged.
use Rattle.std.specs.Prelude.{List}
use Rattle.au_modules.specs.Programs.{ModuleParts}
use Rattle.au_modules.specs.Slots as slots
use Rattle.au_syntax.specs.declared.modules.Part.{Part}
use Rattle.au_imports.specs.Gathered.{AreBroughtTo}
use Rattle.au_imports.specs.Written.{IsAt}
use Rattle.au_imports.specs.declared.brought.Brought.{Brought}
use Rattle.au_imports.specs.declared.judged.Judged.{Judged}

-- the modules of its program
abbrev pub program_of : Judged → List ModuleParts
program_of judged = slots.modules judged.resolved.now

-- It is this one.
abbrev pub IsJudged : Judged → ModuleParts → Type 0
IsJudged judged m = IsAt judged.resolved.now judged.place m

-- These are the tables of what the imports of a part of it bring.
abbrev pub AreBroughtBy : Judged → Part → Brought → Type 0
AreBroughtBy judged part brought = AreBroughtTo judged.resolved.now judged.place part brought
