use Rattle.std.proofs.Common.{◌≡◌, drop, length}
use Rattle.au_types.specs.Views.{argument_all}
use Rattle.au_judged_types.specs.Judging.{first_unfit}
use Rattle.au_judged_types.specs.Standing.{StandFor}
use Rattle.au_judged_types.proofs.fitting.first_unfit.Given as goal

-- the arguments that are left stand for the type parameters that are left, and decide
abbrev pub invariant-loop-index : goal.invariant-loop-index
invariant-loop-index l = record {
  lengths : length l.args.items ≡ length l.expected;
  stand : StandFor l.scope.heads.now l.scope.params.now (drop l.index l.expected)
      (argument_all (drop l.index l.args.items));
  rest : first_unfit l.scope.heads.now l.scope.params.now l.expected (argument_all l.args.items)
      ≡ first_unfit l.scope.heads.now l.scope.params.now (drop l.index l.expected)
      (argument_all (drop l.index l.args.items));
}
