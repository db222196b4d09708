use Rattle.std.proofs.Common.{◌≤◌, length, drop}
use Rattle.au_syntax.specs.Plain.{PlainStatements}
use Rattle.au_lives.specs.Scopes.{bound_over}
use Rattle.au_clearing.specs.Seen.{seen_binds}
use Rattle.au_clearing.specs.Deals.{SumsBlock, Piles}
use Rattle.au_clearing.proofs.declaring.pile_binds.Given as goal

-- those behind lie on the pile
abbrev pub invariant-loop-left : goal.invariant-loop-left
invariant-loop-left g l = record {
  within : l.left ≤ length l.binds.items;
  piles : (b : PlainStatements) → SumsBlock l.deals b →
      Piles (bound_over (seen_binds g.P.Phase (drop l.left l.binds.items)) b) l.initial.pile_of.items
      l.pile_of.items;
}

abbrev pub decreases-loop-left : goal.decreases-loop-left
decreases-loop-left g l = l.left
