use Rattle.std.proofs.Common.{◌≤◌, length, drop}
use Rattle.au_lives.specs.Scopes.{scopes, scopes_of_branches, scopes_of_arms}
use Rattle.au_clearing.specs.Seen.{seen_statements, seen_branches, seen_arms}
use Rattle.au_clearing.specs.Dealings.{deal_branches, deal_arms, returns_in_branches, returns_in_arms}
use Rattle.au_clearing.specs.Deals.{seen_at, Sums, SumsBlock, Piles}
use Rattle.au_clearing.proofs.statements.+deals.Given as goal

-- what is summed up, and lies on the pile, are those behind
abbrev pub invariant-deals_of_block-loop-left : goal.invariant-deals_of_block-loop-left
invariant-deals_of_block-loop-left g l = record {
  within : l.left ≤ length l.block.statements.items;
  seen : SumsBlock l.behind (seen_statements g.P.Phase (drop l.left l.block.statements.items));
  piles : Piles (scopes (seen_statements g.P.Phase (drop l.left l.block.statements.items)))
      l.initial.pile_of.items l.pile_of.items;
}

abbrev pub decreases-deals_of_block-loop-left : goal.decreases-deals_of_block-loop-left
decreases-deals_of_block-loop-left g l = l.left

abbrev pub invariant-deals_of_branches-loop-left : goal.invariant-deals_of_branches-loop-left
invariant-deals_of_branches-loop-left g l = record {
  within : l.left ≤ length l.branches.items;
  seen : Sums l.behind
      (λ x free h. deal_branches x free (seen_branches g.P.Phase (drop l.left l.branches.items))
      (seen_at l.initial.behind x free h) l.initial.behind.returns h)
      (returns_in_branches (seen_branches g.P.Phase (drop l.left l.branches.items)) l.initial.behind.returns);
  piles : Piles (scopes_of_branches (seen_branches g.P.Phase (drop l.left l.branches.items)))
      l.initial.pile_of.items l.pile_of.items;
}

abbrev pub decreases-deals_of_branches-loop-left : goal.decreases-deals_of_branches-loop-left
decreases-deals_of_branches-loop-left g l = l.left

abbrev pub invariant-deals_of_arms-loop-left : goal.invariant-deals_of_arms-loop-left
invariant-deals_of_arms-loop-left g l = record {
  within : l.left ≤ length l.arms.items;
  seen : Sums l.behind (λ x free h. deal_arms x free (seen_arms g.P.Phase (drop l.left l.arms.items)) h)
      (returns_in_arms (seen_arms g.P.Phase (drop l.left l.arms.items)));
  piles : Piles (scopes_of_arms (seen_arms g.P.Phase (drop l.left l.arms.items)))
      l.initial.pile_of.items l.pile_of.items;
}

abbrev pub decreases-deals_of_arms-loop-left : goal.decreases-deals_of_arms-loop-left
decreases-deals_of_arms-loop-left g l = l.left
