use Rattle.std.proofs.Common.{◌≡◌, drop, length}
use Rattle.au_types.specs.Views.{argument_all}
use Rattle.au_type_texts.specs.Views.{closed_meanings}
use Rattle.au_instances.specs.ClosedInstances.{all_close_to, types_in}
use Rattle.au_instances.proofs.closed.+closes_to.Given as goal

-- the types so far close to the closed types in their places, so those that are left decide
abbrev pub invariant-all_close_to-loop-index : goal.invariant-all_close_to-loop-index
invariant-all_close_to-loop-index l = record {
  lengths : length (types_in (argument_all l.args)) ≡ length l.targets.items;
  rest : all_close_to (types_in (argument_all l.args)) (closed_meanings l.targets.items)
      ≡ all_close_to (drop l.index (types_in (argument_all l.args)))
      (closed_meanings (drop l.index l.targets.items));
}
