use Rattle.std.proofs.Common.{◌≡◌, ◌++◌, map, take}
use Rattle.au_promises.specs.Said.{fields_said}
use Rattle.au_rules.specs.Marks.{labelled_mark}
use Rattle.au_rules.proofs.pushing.push_fields.Given as goal

-- the marks of the items that are visited
abbrev pub invariant-loop-one : goal.invariant-loop-one
invariant-loop-one l = l.list.items ≡ l.fn.list.items
    ++ map (labelled_mark l.fn.kind) (fields_said (take l.one-index l.one-items))
