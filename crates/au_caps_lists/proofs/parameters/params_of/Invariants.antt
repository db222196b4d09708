use Rattle.std.proofs.Common.{◌≡◌, map, take}
use Rattle.au_sights.specs.contracts.noted.NotedPhase.TheImpl.{ghosts as noted}
use Rattle.au_judged_types.specs.Meanings.{written_params}
use Rattle.au_syntax.specs.Views.{constrained}
use Rattle.au_caps_lists.proofs.parameters.params_of.Given as goal

-- the type parameters so far
abbrev pub invariant-loop-one : goal.invariant-loop-one
invariant-loop-one l = l.params ≡ written_params (map (constrained noted) (take l.one-index l.one-items))
