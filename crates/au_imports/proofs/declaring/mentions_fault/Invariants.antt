use Rattle.std.proofs.Common.{◌≡◌, drop}
use Rattle.au_imports.specs.Choices.{first_of}
use Rattle.au_imports.specs.Declaring.{mention_fault_at}
use Rattle.au_imports.proofs.declaring.mentions_fault.Given as goal

-- what the names that are left are refused for is what all are refused for
abbrev pub invariant-loop-one : goal.invariant-loop-one
invariant-loop-one l = first_of (mention_fault_at l.site l.params) (drop l.one-index l.one-items)
    ≡ first_of (mention_fault_at l.site l.params) l.one-items
