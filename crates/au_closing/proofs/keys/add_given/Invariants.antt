use Rattle.std.proofs.Common.{◌≡◌, ◌++◌, drop}
use Rattle.au_type_texts.specs.GivenViews.{given_said}
use Rattle.au_closing.specs.Keys.{given_key}
use Rattle.au_closing.proofs.keys.add_given.Given as goal

-- the key so far and the keys of what is left
abbrev pub invariant-loop-one : goal.invariant-loop-one
invariant-loop-one l =
    l.key.items ++ given_key (given_said (drop l.one-index l.given)) ≡ l.fn.key.items ++ given_key (given_said l.given)
