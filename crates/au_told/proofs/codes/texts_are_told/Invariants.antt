use Rattle.std.proofs.Common.{take}
use Rattle.std.specs.List.{AllByRecursion}
use Rattle.au_cprint.specs.Told.{IsToldText}
use Rattle.au_told.proofs.codes.texts_are_told.Given as goal

-- those so far
abbrev pub invariant-loop-one : goal.invariant-loop-one
invariant-loop-one l = AllByRecursion IsToldText (take l.one-index l.all)
