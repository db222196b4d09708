use Rattle.std.proofs.Common.{◌≡◌, ◌++◌, drop}
use Rattle.au_syntax.specs.Views.{written_all}
use Rattle.au_promises.specs.Keys.{wordings_key}
use Rattle.au_promises.proofs.keys.+wording.Given as goal

-- the key so far and that of what is left are the whole
abbrev pub invariant-push_wordings-loop-one : goal.invariant-push_wordings-loop-one
invariant-push_wordings-loop-one l =
    l.key.items ++ wordings_key l.params l.names l.heads (written_all (drop l.one-index l.one-items))
    ≡ l.fn.key.items ++ wordings_key l.params l.names l.heads (written_all l.one-items)
