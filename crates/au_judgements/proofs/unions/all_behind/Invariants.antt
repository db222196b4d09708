use Rattle.std.proofs.Common.{◌≡◌, map, take}
use Rattle.au_typing.specs.Parts.{case_behind}
use Rattle.au_judgements.specs.Said.{cases_said}
use Rattle.au_judgements.proofs.unions.all_behind.Given as goal

-- the cases so far
abbrev pub invariant-loop-one : goal.invariant-loop-one
invariant-loop-one l = cases_said l.made.items
    ≡ map (case_behind l.access l.region) (cases_said (take l.one-index l.one-items))
