use Rattle.std.proofs.Common.{◌≡◌, drop, length}
use Rattle.au_types.specs.Same.{same_all}
use Rattle.au_types.specs.Views.{argument_all}
use Rattle.au_types.proofs.comparing.+same_type.Given as goal

-- the arguments so far are the same, so those that are left decide
abbrev pub invariant-same_arguments-loop-index : goal.invariant-same_arguments-loop-index
invariant-same_arguments-loop-index l = record {
  lengths : length l.args.items ≡ length l.others.items;
  rest : same_all (argument_all l.args.items) (argument_all l.others.items)
      ≡ same_all (argument_all (drop l.index l.args.items)) (argument_all (drop l.index l.others.items));
}
