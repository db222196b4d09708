use Rattle.std.proofs.Common.{◌≤◌, length, drop, map}
use Rattle.au_syntax.specs.Plain.{PlainStatements}
use Rattle.au_lives.specs.Scopes.{scope}
use Rattle.au_clearing.specs.Seen.{seen_parameters}
use Rattle.au_clearing.specs.Deals.{SumsBlock, Piles}
use Rattle.au_clearing.proofs.clearing.pile_parameters.Given as goal

-- those behind lie on the pile
abbrev pub invariant-loop-left : goal.invariant-loop-left
invariant-loop-left g l = record {
  within : l.left ≤ length l.parameters.items;
  piles : (b : PlainStatements) → SumsBlock l.deals b →
      Piles
      (map (λ parameter. scope parameter.name b) (seen_parameters g.P.Phase (drop l.left l.parameters.items)))
      l.initial.pile_of.items l.pile_of.items;
}

abbrev pub decreases-loop-left : goal.decreases-loop-left
decreases-loop-left g l = l.left
