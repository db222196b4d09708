use Rattle.std.proofs.Common.{◌≡◌, drop, length}
use Rattle.au_types.specs.Views.{argument_all}
use Rattle.au_instances.specs.Becoming.{all_stand_for}
use Rattle.au_instances.proofs.becoming.all_stand_for.Given as goal

-- the arguments so far may stand for the names, so those that are left decide
abbrev pub invariant-loop-index : goal.invariant-loop-index
invariant-loop-index l = record {
  lengths : length l.names.items ≡ length l.args.items;
  rest : all_stand_for l.heads l.scope l.params (argument_all l.names.items) (argument_all l.args.items)
      ≡ all_stand_for l.heads l.scope l.params (argument_all (drop l.index l.names.items))
      (argument_all (drop l.index l.args.items));
}
