-- What is put and what is left are all; behind a block the scope has grown by variables alone.
use Rattle.std.proofs.Common.{◌≡◌, ◌++◌, drop}
use Rattle.au_judgements.specs.Leaving.{IsGrown}
use Rattle.au_explain.specs.Said.{arms_said, branches_said, statements_said}
use Rattle.au_explain.specs.Variables.{listed_in, listed_in_arms, listed_in_branches}
use Rattle.au_noting.specs.Scopes.{scope_said}
use Rattle.au_explain.proofs.listing.+listing.Given as goal

abbrev pub invariant-push_block-loop-index : goal.invariant-push_block-loop-index
invariant-push_block-loop-index l = record {
  put : l.made.items ++ listed_in (statements_said (drop l.index l.stmt-items)) (scope_said l.scope)
      ≡ l.fn.made.items ++ listed_in (statements_said l.stmt-items) (scope_said l.fn.scope);
  grown : IsGrown (scope_said l.fn.scope) (scope_said l.scope);
}

abbrev pub invariant-push_branches-loop-one : goal.invariant-push_branches-loop-one
invariant-push_branches-loop-one l = record {
  put : l.made.items ++ listed_in_branches (branches_said (drop l.one-index l.one-items)) (scope_said l.fn.scope)
      ≡ l.fn.made.items ++ listed_in_branches (branches_said l.one-items) (scope_said l.fn.scope);
  kept : scope_said l.scope ≡ scope_said l.fn.scope;
}

abbrev pub invariant-push_arms-loop-one : goal.invariant-push_arms-loop-one
invariant-push_arms-loop-one l = record {
  put : l.made.items ++ listed_in_arms (arms_said (drop l.one-index l.one-items)) (scope_said l.fn.scope)
      ≡ l.fn.made.items ++ listed_in_arms (arms_said l.one-items) (scope_said l.fn.scope);
  kept : scope_said l.scope ≡ scope_said l.fn.scope;
}
