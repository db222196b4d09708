use Rattle.std.proofs.Common.{◌≡◌, ◌++◌, drop}
use Rattle.au_program_lives.specs.Scopes.{scope_said}
use Rattle.au_program_lives.specs.Said.{statements_said, branches_said, arms_said}
use Rattle.au_program_lives.specs.Sorts.{sorts, sorts_of_branches, sorts_of_arms}
use Rattle.au_program_lives.proofs.pushing.+pushing.Given as goal

-- what is put and what is left are all, and the scope is as it was
abbrev pub invariant-push_block-loop-one : goal.invariant-push_block-loop-one
invariant-push_block-loop-one g l = record {
  put : l.made.items ++ sorts (statements_said g.P.Phase (drop l.one-index l.one-items)) (scope_said l.fn.scope)
      ≡ l.fn.made.items ++ sorts (statements_said g.P.Phase l.one-items) (scope_said l.fn.scope);
  kept : scope_said l.scope ≡ scope_said l.fn.scope;
}

abbrev pub invariant-push_branches-loop-one : goal.invariant-push_branches-loop-one
invariant-push_branches-loop-one g l = record {
  put : l.made.items ++ sorts_of_branches (branches_said g.P.Phase (drop l.one-index l.one-items))
      (scope_said l.fn.scope)
      ≡ l.fn.made.items ++ sorts_of_branches (branches_said g.P.Phase l.one-items) (scope_said l.fn.scope);
  kept : scope_said l.scope ≡ scope_said l.fn.scope;
}

abbrev pub invariant-push_arms-loop-one : goal.invariant-push_arms-loop-one
invariant-push_arms-loop-one g l = record {
  put : l.made.items ++ sorts_of_arms (arms_said g.P.Phase (drop l.one-index l.one-items)) (scope_said l.fn.scope)
      ≡ l.fn.made.items ++ sorts_of_arms (arms_said g.P.Phase l.one-items) (scope_said l.fn.scope);
  kept : scope_said l.scope ≡ scope_said l.fn.scope;
}
