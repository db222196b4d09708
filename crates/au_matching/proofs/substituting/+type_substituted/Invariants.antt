use Rattle.std.proofs.Common.{◌≡◌, take}
use Rattle.au_types.specs.Views.{argument_all}
use Rattle.au_matching.specs.Substituted.{all_substituted}
use Rattle.au_matching.proofs.substituting.+type_substituted.Given as goal

-- what the arguments so far have become
abbrev pub invariant-arguments_substituted-loop-one : goal.invariant-arguments_substituted-loop-one
invariant-arguments_substituted-loop-one l = argument_all l.outcome.items ≡ all_substituted l.s
    (argument_all (take l.one-index l.one-items))
