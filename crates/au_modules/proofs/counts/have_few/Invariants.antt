use Rattle.std.proofs.Common.{◌≡◌, drop, map}
use Rattle.std.specs.List.{list_all}
use Rattle.au_modules.specs.Counts as spec
use Rattle.au_modules.specs.Programs.{entry}
use Rattle.au_modules.proofs.counts.have_few.Given as goal

-- what is left to visit decides
abbrev pub invariant-loop-one : goal.invariant-loop-one
invariant-loop-one l =
    list_all spec.has_few (map entry (drop l.one-index l.one-items))
    ≡ list_all spec.has_few (map entry l.one-items)
