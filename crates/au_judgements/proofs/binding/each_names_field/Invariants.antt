use Rattle.std.proofs.Common.{◌≡◌, drop}
use Rattle.std.specs.List.{list_all, list_any}
use Rattle.std.specs.Str.{bytes_eq}
use Rattle.au_judgements.specs.Said.{binds_said, fields_bound, fields_named}
use Rattle.au_noting.specs.Said.{all_typed}
use Rattle.au_judgements.proofs.binding.each_names_field.Given as goal

-- each label so far is that of a field, so those that are left decide
abbrev pub invariant-loop-bind : goal.invariant-loop-bind
invariant-loop-bind l =
    list_all (λ other. list_any (bytes_eq other) (fields_named (all_typed l.fields)))
    (fields_bound (binds_said l.binds))
    ≡ list_all (λ other. list_any (bytes_eq other) (fields_named (all_typed l.fields)))
    (fields_bound (binds_said (drop l.bind-index l.binds)))
