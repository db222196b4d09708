use Rattle.std.proofs.Common.{drop, map}
use Rattle.au_lives.specs.Scopes.{scope}
use Rattle.au_paths.specs.Seen.{seen_parameters, seen_block}
use Rattle.au_linear.proofs.TellingLemmas.{Settles}
use Rattle.au_linear.proofs.checking.check_parameters.Given as goal

-- what is left decides
abbrev pub invariant-loop-one : goal.invariant-loop-one
invariant-loop-one g l =
    Settles
    (map (λ parameter. scope parameter.name (seen_block g.P.Phase l.block))
    (seen_parameters g.P.Phase (drop l.one-index l.one-items)))
    (map (λ parameter. scope parameter.name (seen_block g.P.Phase l.block)) (seen_parameters g.P.Phase l.one-items))
    l.tasks l.at 0
