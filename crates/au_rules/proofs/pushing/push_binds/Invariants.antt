use Rattle.std.proofs.Common.{◌≡◌, ◌++◌, map, take}
use Rattle.au_rules.specs.Said.{binds_said}
use Rattle.au_rules.specs.Marks.{bound_mark}
use Rattle.au_rules.proofs.pushing.push_binds.Given as goal

-- the marks of the items that are visited
abbrev pub invariant-loop-one : goal.invariant-loop-one
invariant-loop-one l = l.list.items ≡ l.fn.list.items
    ++ map bound_mark (binds_said (take l.one-index l.one-items))
