use Rattle.std.proofs.Common.{◌≡◌, ◌++◌, take}
use Rattle.au_formed.specs.Said.{writings_said}
use Rattle.au_formed.specs.Writings.{field_writings}
use Rattle.au_promises.specs.Said.{fields_said}
use Rattle.au_formed.proofs.pushing.push_fields.Given as goal

-- what the items say that are visited
abbrev pub invariant-loop-one : goal.invariant-loop-one
invariant-loop-one l = writings_said l.list.items
    ≡ writings_said l.fn.list.items ++ field_writings (fields_said (take l.one-index l.one-items))
