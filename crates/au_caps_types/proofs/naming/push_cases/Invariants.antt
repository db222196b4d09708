use Rattle.std.proofs.Common.{◌≡◌, ◌++◌, take}
use Rattle.std.specs.List.{flat_map}
use Rattle.au_caps_types.specs.Naming.{no_holder}
use Rattle.au_formed.specs.Naming.{case_names}
use Rattle.au_promises.specs.Said.{cases_said}
use Rattle.au_types.specs.WrittenViews.{sense_in}
use Rattle.au_caps_types.proofs.naming.push_cases.Given as goal

-- what the cases name that are visited
abbrev pub invariant-loop-one : goal.invariant-loop-one
invariant-loop-one l = l.list.items
    ≡ l.fn.list.items ++ flat_map (case_names (sense_in l.scope) no_holder)
    (cases_said (take l.one-index l.one-items))
