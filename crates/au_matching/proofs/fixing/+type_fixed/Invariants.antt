use Rattle.std.proofs.Common.{◌≡◌, drop}
use Rattle.au_types.specs.Views.{argument_all}
use Rattle.au_matching.specs.Fixed.{all_fixed}
use Rattle.au_matching.proofs.fixing.+type_fixed.Given as goal

-- the arguments so far are fixed, so those that are left decide
abbrev pub invariant-arguments_fixed-loop-one : goal.invariant-arguments_fixed-loop-one
invariant-arguments_fixed-loop-one l = all_fixed l.s (argument_all l.one-items)
    ≡ all_fixed l.s (argument_all (drop l.one-index l.one-items))
