use Rattle.std.proofs.Common.{take}
use Rattle.std.specs.List.{AllByRecursion}
use Rattle.au_cprint.specs.Told.{IsToldInstruction}
use Rattle.au_told.specs.Names.{IsPlainInstruction}
use Rattle.au_told.proofs.codes.instructions_are_told.Given as goal

-- those so far
abbrev pub invariant-loop-one : goal.invariant-loop-one
invariant-loop-one l =
    AllByRecursion IsPlainInstruction l.all → AllByRecursion IsToldInstruction (take l.one-index l.all)
