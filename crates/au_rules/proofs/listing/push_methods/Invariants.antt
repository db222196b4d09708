use Rattle.std.proofs.Common.{◌≡◌, ◌++◌, take}
use Rattle.std.specs.List.{flat_map}
use Rattle.au_promises.specs.Said.{headers_said}
use Rattle.au_rules.specs.Marks.{method_marks}
use Rattle.au_rules.proofs.listing.push_methods.Given as goal

-- the marks of the items that are visited
abbrev pub invariant-loop-one : goal.invariant-loop-one
invariant-loop-one l = l.list.items ≡ l.fn.list.items
    ++ flat_map method_marks (headers_said (take l.one-index l.one-items))
