use Rattle.std.proofs.Common.{◌≡◌, ◌++◌, map, take}
use Rattle.au_promises.specs.Said.{generics_said}
use Rattle.au_rules.specs.Marks.{generic_mark}
use Rattle.au_rules.proofs.pushing.push_generics.Given as goal

-- the marks of the items that are visited
abbrev pub invariant-loop-one : goal.invariant-loop-one
invariant-loop-one l = l.list.items ≡ l.fn.list.items
    ++ map generic_mark (generics_said (take l.one-index l.one-items))
