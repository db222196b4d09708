use Rattle.std.proofs.Common.{◌≡◌, drop}
use Rattle.au_promises.specs.Said.{methods_said}
use Rattle.au_imports.specs.Choices.{first_of}
use Rattle.au_program_lives.specs.LinearFaults.{method_fault}
use Rattle.au_program_lives.specs.ProgramSaid.{scope_of}
use Rattle.au_program_lives.proofs.functions.methods_fault.Given as goal

-- what is left decides
abbrev pub invariant-loop-one : goal.invariant-loop-one
invariant-loop-one l =
    first_of (method_fault (scope_of l.params l.visible)) (methods_said (drop l.one-index l.one-items))
    ≡ first_of (method_fault (scope_of l.params l.visible)) (methods_said l.one-items)
