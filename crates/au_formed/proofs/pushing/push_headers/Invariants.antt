use Rattle.std.proofs.Common.{◌≡◌, ◌++◌, take}
use Rattle.std.specs.List.{flat_map}
use Rattle.au_formed.specs.Said.{writings_said}
use Rattle.au_formed.specs.Writings.{header_writings}
use Rattle.au_promises.specs.Said.{headers_said}
use Rattle.au_formed.proofs.pushing.push_headers.Given as goal

-- what the items say that are visited
abbrev pub invariant-loop-one : goal.invariant-loop-one
invariant-loop-one l = writings_said l.list.items
    ≡ writings_said l.fn.list.items ++ flat_map header_writings (headers_said (take l.one-index l.one-items))
