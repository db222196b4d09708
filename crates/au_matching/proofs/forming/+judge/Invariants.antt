use Rattle.std.proofs.Common.{◌≡◌, drop, length, Some}
use Rattle.au_types.specs.Views.{argument_all}
use Rattle.au_matching.specs.Fits.{asked, formed_arguments}
use Rattle.au_matching.proofs.FormedLemmas.{beside}
use Rattle.au_matching.proofs.forming.+judge.Given as goal

-- the arguments so far fit and come to what was found, so those that are left decide
abbrev pub invariant-judge_arguments-loop-index : goal.invariant-judge_arguments-loop-index
invariant-judge_arguments-loop-index l = record {
  lengths : length l.args.items ≡ length l.expected;
  rest : formed_arguments (asked l.fit l.heads l.scope) l.heads l.scope l.expected (argument_all l.args.items)
      ≡ beside (Some l.so_far) (formed_arguments (asked l.fit l.heads l.scope) l.heads l.scope
      (drop l.index l.expected) (argument_all (drop l.index l.args.items)));
}
