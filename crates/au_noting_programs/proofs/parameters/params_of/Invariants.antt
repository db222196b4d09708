use Rattle.std.proofs.Common.{◌≡◌, map, take}
use Rattle.au_judged_types.specs.Meanings.{written_params}
use Rattle.au_syntax.specs.contracts.parsed.ParsedPhase.TheImpl.{ghosts as parsed}
use Rattle.au_syntax.specs.Views.{constrained}
use Rattle.au_noting_programs.proofs.parameters.params_of.Given as goal

-- the type parameters that are visited
abbrev pub invariant-loop-one : goal.invariant-loop-one
invariant-loop-one l = l.params ≡ written_params (map (constrained parsed) (take l.one-index l.one-items))
