use Rattle.std.proofs.Common.{◌≡◌, drop}
use Rattle.au_formed.specs.Said.{spots_said}
use Rattle.au_modules.specs.Slots as slots
use Rattle.au_imports.specs.Choices.{first_of}
use Rattle.au_rules.specs.DeclFaults.{fault_by}
use Rattle.au_rules.specs.Tests.{is_this}
use Rattle.au_rules.proofs.declarations.first_fault.Given as goal

-- what is left decides
abbrev pub invariant-loop-one : goal.invariant-loop-one
invariant-loop-one l =
    first_of (fault_by (is_this l.first) (slots.modules l.resolved))
    (spots_said (drop l.one-index l.one-items))
    ≡ first_of (fault_by (is_this l.first) (slots.modules l.resolved)) (spots_said l.one-items)
