use Rattle.std.proofs.Common.{◌≡◌, ◌==◌, drop}
use Rattle.std.specs.List.{count_by, list_all}
use Rattle.std.specs.Str.{bytes_eq}
use Rattle.au_judgements.specs.Said.{binds_said, fields_bound, fields_named}
use Rattle.au_noting.specs.Said.{all_typed}
use Rattle.au_judgements.proofs.binding.each_is_bound_once.Given as goal

-- each field so far is bound once, so those that are left decide
abbrev pub invariant-loop-one : goal.invariant-loop-one
invariant-loop-one l =
    list_all (λ name. count_by (bytes_eq name) (fields_bound (binds_said l.binds)) == 1)
    (fields_named (all_typed l.fields))
    ≡ list_all (λ name. count_by (bytes_eq name) (fields_bound (binds_said l.binds)) == 1)
    (fields_named (all_typed (drop l.one-index l.fields)))
