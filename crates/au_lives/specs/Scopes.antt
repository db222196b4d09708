-- The variables of a body, each with the block over which its life is judged, in text order.
use Rattle.std.specs.Prelude.{List, [], ◌∷◌, ◌++◌, map}
use Rattle.au_syntax.specs.Names.{Placed}
use Rattle.au_syntax.specs.Types.{Bound, Labelled}
use Rattle.au_syntax.specs.Statements.{skip, declare, destructure, assign, assign_through, conditional}
use Rattle.au_syntax.specs.Statements.{conditional_else, case_of, while_loop, for_loop, borrow_in}
use Rattle.au_syntax.specs.Statements.{borrow_typed, discard, return_of, no_statements, statements}
use Rattle.au_syntax.specs.Statements.{no_branches, branches, no_arms, arms}
use Rattle.au_syntax.specs.Plain.{Bytes, PlainStatement, PlainStatements, PlainBranches, PlainArms}
use Rattle.au_lives.specs.Paths.{bound_name}

-- a variable, and the block over which its life is judged
pub record Scope : Type 0 where
  pub name : Placed Bytes
  pub block : PlainStatements

abbrev pub scope : Placed Bytes → PlainStatements → Scope
scope name block = record { name = name; block = block }

-- names that are bound, over the same block
abbrev pub bound_over : List (Bound Bytes) → PlainStatements → List Scope
bound_over binds b = map (λ bind. scope (bound_name bind) b) binds

-- what a statement declares for the rest of its block
abbrev pub scopes_after : PlainStatement → PlainStatements → List Scope
scopes_after (declare at binding name t e) more = scope name more ∷ []
scopes_after (destructure at binds e) more = bound_over binds more
scopes_after s more = []

abbrev mutual
  -- The variables that are declared in a block. One of `let`, `var` and a `let` of fields has the rest of its
  -- block after the declaration; one of an arm, of a `for` and of a borrow statement has the block there.
  pub scopes : PlainStatements → List Scope
  scopes no_statements = []
  scopes (statements s more) = scopes_after s more ++ (scopes_inside s ++ scopes more)

  pub scopes_inside : PlainStatement → List Scope
  scopes_inside (skip at) = []
  scopes_inside (declare at binding name t e) = []
  scopes_inside (destructure at binds e) = []
  scopes_inside (assign at name fields e) = []
  scopes_inside (assign_through at name fields e) = []
  scopes_inside (conditional at bs) = scopes_of_branches bs
  scopes_inside (conditional_else at bs b) = scopes_of_branches bs ++ scopes b
  scopes_inside (case_of at e rest) = scopes_of_arms rest
  scopes_inside (while_loop at e b) = scopes b
  scopes_inside (for_loop at name a z b) = scope name b ∷ scopes b
  scopes_inside (borrow_in at access x r region b stop) = scope r b ∷ scopes b
  scopes_inside (borrow_typed at r t mode x b stop) = scope r b ∷ scopes b
  scopes_inside (discard at e) = []
  scopes_inside (return_of at e) = []

  pub scopes_of_branches : PlainBranches → List Scope
  scopes_of_branches no_branches = []
  scopes_of_branches (branches e b more) = scopes b ++ scopes_of_branches more

  pub scopes_of_arms : PlainArms → List Scope
  scopes_of_arms no_arms = []
  scopes_of_arms (arms when' name binds b more) = bound_over binds b ++ (scopes b ++ scopes_of_arms more)

-- the variables of a function: its parameters over its whole body, and those that the body declares
abbrev pub scopes_of : List (Labelled Bytes) → PlainStatements → List Scope
scopes_of parameters body = map (λ parameter. scope parameter.name body) parameters ++ scopes body
