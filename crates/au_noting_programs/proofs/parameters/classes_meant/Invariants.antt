use Rattle.std.proofs.Common.{◌≡◌, map, take}
use Rattle.au_judged_types.specs.Meanings.{classes_meant}
use Rattle.au_judged_types.specs.GenericViews.{class_within}
use Rattle.au_syntax.specs.contracts.parsed.ParsedPhase.TheImpl.{ghosts as parsed}
use Rattle.au_syntax.specs.Views.{placed}
use Rattle.au_noting_programs.proofs.parameters.classes_meant.Given as goal

-- the classes of the names that are visited
abbrev pub invariant-loop-one : goal.invariant-loop-one
invariant-loop-one l = l.classes ≡ classes_meant (class_within l.scope)
    (map (placed parsed) (take l.one-index l.one-items))
