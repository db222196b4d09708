use Rattle.std.proofs.Common.{◌≡◌, ◌++◌, drop}
use Rattle.au_type_texts.specs.Views.{closed_meanings}
use Rattle.au_type_texts.specs.Keys.{list_key}
use Rattle.au_type_texts.proofs.keys.+add_key.Given as goal

-- the key so far and what is left
abbrev pub invariant-add_list-loop-one : goal.invariant-add_list-loop-one
invariant-add_list-loop-one l =
    l.key.items ++ list_key (closed_meanings (drop l.one-index l.one-items)) ≡ l.fn.key.items
    ++ list_key (closed_meanings l.one-items)
