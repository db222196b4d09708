use Rattle.std.proofs.Common.{◌≡◌, drop, length}
use Rattle.au_types.specs.Views.{argument_all}
use Rattle.au_matching.specs.Matched.{all_matched}
use Rattle.au_matching.proofs.matching.+type_matched.Given as goal

-- the arguments so far are matched, so those that are left decide
abbrev pub invariant-arguments_matched-loop-index : goal.invariant-arguments_matched-loop-index
invariant-arguments_matched-loop-index l = record {
  lengths : length l.args.items ≡ length l.others.items;
  rest : all_matched (argument_all l.args.items) (argument_all l.others.items) l.fn.s
      ≡ all_matched (argument_all (drop l.index l.args.items)) (argument_all (drop l.index l.others.items)) l.s;
}
