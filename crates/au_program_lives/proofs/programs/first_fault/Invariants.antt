use Rattle.std.proofs.Common.{◌≡◌, drop}
use Rattle.au_formed.specs.Said.{spots_said}
use Rattle.au_modules.specs.Slots as slots
use Rattle.au_imports.specs.Choices.{first_of}
use Rattle.au_program_lives.specs.LinearFaults.{declaration_fault}
use Rattle.au_program_lives.proofs.programs.first_fault.Given as goal

-- what is left decides
abbrev pub invariant-loop-one : goal.invariant-loop-one
invariant-loop-one l =
    first_of (declaration_fault (slots.modules l.resolved)) (spots_said (drop l.one-index l.one-items))
    ≡ first_of (declaration_fault (slots.modules l.resolved)) (spots_said l.one-items)
