use Rattle.std.proofs.Common.{◌≡◌, drop}
use Rattle.au_typing.specs.Lookups.{type_of_name}
use Rattle.au_noting.specs.Said.{all_typed}
use Rattle.au_noting.proofs.lookups.type_of_name.Given as goal

-- none so far has the name, so those that are left decide
abbrev pub invariant-loop-one : goal.invariant-loop-one
invariant-loop-one l = type_of_name l.name (all_typed l.all) ≡ type_of_name l.name (all_typed (drop l.one-index l.all))
