use Rattle.std.proofs.Common.{◌≡◌, ◌+◌, ◌≤◌, drop, length}
use Rattle.au_types.specs.Views.{argument_all}
use Rattle.au_instances.specs.ClosedInstances.{types_in}
use Rattle.au_instances.proofs.closed.type_count.Given as goal

-- the types so far are counted, and those that are left aren't
abbrev pub invariant-loop-one : goal.invariant-loop-one
invariant-loop-one l = record {
  few : l.count ≤ l.one-index;
  rest : length (types_in (argument_all l.args)) ≡ l.count + length (types_in (argument_all (drop l.one-index l.args)));
}
