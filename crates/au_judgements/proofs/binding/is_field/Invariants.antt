use Rattle.std.proofs.Common.{◌≡◌, drop}
use Rattle.std.specs.List.{list_any}
use Rattle.std.specs.Str.{bytes_eq}
use Rattle.au_judgements.specs.Said.{fields_named}
use Rattle.au_noting.specs.Said.{all_typed}
use Rattle.au_judgements.proofs.binding.is_field.Given as goal

-- no field so far has the name, so those that are left decide
abbrev pub invariant-loop-one : goal.invariant-loop-one
invariant-loop-one l =
    list_any (bytes_eq l.name) (fields_named (all_typed l.fields))
    ≡ list_any (bytes_eq l.name) (fields_named (all_typed (drop l.one-index l.fields)))
