use Rattle.std.proofs.Common.{◌≡◌, ◌++◌, take}
use Rattle.std.specs.List.{flat_map}
use Rattle.au_promises.specs.Mentions.{labelled_mentions}
use Rattle.au_promises.specs.Said.{fields_said}
use Rattle.au_promises.proofs.pushing.push_fields.Given as goal

-- the names of the items that are visited
abbrev pub invariant-loop-one : goal.invariant-loop-one
invariant-loop-one l = l.list.items
    ≡ l.fn.list.items ++ flat_map labelled_mentions (fields_said (take l.one-index l.one-items))
