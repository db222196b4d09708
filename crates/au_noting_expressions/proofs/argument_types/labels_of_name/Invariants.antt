use Rattle.std.proofs.Common.{◌≡◌, ◌≤◌, ◌+◌, drop}
use Rattle.std.specs.List.{count_by}
use Rattle.std.specs.Str.{bytes_eq}
use Rattle.au_noting.specs.Said.{labels_said}
use Rattle.au_noting_expressions.proofs.argument_types.labels_of_name.Given as goal

-- as many of the labels so far are the name, and the others are counted next
abbrev pub invariant-loop-one : goal.invariant-loop-one
invariant-loop-one l = record {
  few : l.count ≤ l.one-index;
  rest : l.count + count_by (bytes_eq l.name) (labels_said (drop l.one-index l.args))
      ≡ count_by (bytes_eq l.name) (labels_said l.args);
}
