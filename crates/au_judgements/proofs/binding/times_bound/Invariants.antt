use Rattle.std.proofs.Common.{◌≡◌, ◌≤◌, ◌+◌, drop}
use Rattle.std.specs.List.{count_by}
use Rattle.std.specs.Str.{bytes_eq}
use Rattle.au_judgements.specs.Said.{binds_said, fields_bound}
use Rattle.au_judgements.proofs.binding.times_bound.Given as goal

-- as many of the labels so far are the name, and the others are counted next
abbrev pub invariant-loop-bind : goal.invariant-loop-bind
invariant-loop-bind l = record {
  few : l.count ≤ l.bind-index;
  rest : l.count + count_by (bytes_eq l.name) (fields_bound (binds_said (drop l.bind-index l.binds)))
      ≡ count_by (bytes_eq l.name) (fields_bound (binds_said l.binds));
}
