use Rattle.std.proofs.Common.{◌≡◌, map, take}
use Rattle.au_judged_types.specs.Meanings.{constraints}
use Rattle.au_judged_types.specs.GenericViews.{class_within}
use Rattle.au_syntax.specs.contracts.parsed.ParsedPhase.TheImpl.{ghosts as parsed}
use Rattle.au_syntax.specs.Views.{constrained}
use Rattle.au_noting_programs.proofs.parameters.all_classes.Given as goal

-- the classes of the type parameters that are visited
abbrev pub invariant-loop-one : goal.invariant-loop-one
invariant-loop-one l = l.all.items ≡ map (constraints (class_within l.scope))
    (map (constrained parsed) (take l.one-index l.one-items))
