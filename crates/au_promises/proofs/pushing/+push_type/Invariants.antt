use Rattle.std.proofs.Common.{◌≡◌, ◌++◌, take}
use Rattle.au_promises.specs.Mentions.{argument_mentions}
use Rattle.au_syntax.specs.Views.{written_all}
use Rattle.au_promises.proofs.pushing.+push_type.Given as goal

-- the names of the types that are visited
abbrev pub invariant-push_types-loop-one : goal.invariant-push_types-loop-one
invariant-push_types-loop-one l = l.list.items ≡ l.fn.list.items
    ++ argument_mentions (written_all (take l.one-index l.one-items))
