use Rattle.std.proofs.Common.{take}
use Rattle.std.specs.List.{AllByRecursion}
use Rattle.au_cprint.specs.Told.{IsToldFunction}
use Rattle.au_told.specs.Names.{IsPlainFunction}
use Rattle.au_told.proofs.codes.functions_are_told.Given as goal

-- those so far
abbrev pub invariant-loop-one : goal.invariant-loop-one
invariant-loop-one l =
    AllByRecursion IsPlainFunction l.all → AllByRecursion IsToldFunction (take l.one-index l.all)
