use Rattle.std.proofs.Common.{◌≡◌, drop, length, map}
use Rattle.au_types.specs.Views.{argument_all}
use Rattle.au_types.proofs.MeantLemmas.{joined}
use Rattle.au_judged_types.specs.Judging.{arguments_judged}
use Rattle.au_judged_types.specs.Reasons.{kept}
use Rattle.au_judged_types.specs.Views.{given_in}
use Rattle.au_judged_types.proofs.judging.+judge_type.Given as goal

-- the arguments so far mean what was found, so those that are left decide
abbrev pub invariant-judge_arguments-loop-index : goal.invariant-judge_arguments-loop-index
invariant-judge_arguments-loop-index l = record {
  lengths : length l.args.items ≡ length l.expected;
  rest : arguments_judged l.expected (map (given_in l.scope) l.args.items)
      ≡ kept (joined (argument_all l.found.items))
      (arguments_judged (drop l.index l.expected) (map (given_in l.scope) (drop l.index l.args.items)));
}
