-- How many places of a block read a number.
use Rattle.std.specs.Prelude.{ℕ, ◌+◌, min}
use Rattle.au_syntax.specs.Statements.{skip, declare, destructure, assign, assign_through, conditional}
use Rattle.au_syntax.specs.Statements.{conditional_else, case_of, while_loop, for_loop, borrow_in}
use Rattle.au_syntax.specs.Statements.{borrow_typed, discard, return_of, no_statements, statements}
use Rattle.au_syntax.specs.Statements.{no_branches, branches, no_arms, arms}
use Rattle.au_syntax.specs.Plain.{PlainStatement, PlainStatements, PlainBranches, PlainArms}

abbrev mutual
  -- each conditional, each case and each loop reads a number
  pub places : PlainStatement → ℕ
  places (skip at) = 0
  places (declare at binding name t e) = 0
  places (destructure at binds e) = 0
  places (assign at name fields e) = 0
  places (assign_through at name fields e) = 0
  places (conditional at bs) = 1 + places_of_branches bs
  places (conditional_else at bs b) = 1 + (places_of_branches bs + places_of_block b)
  places (case_of at e rest) = 1 + places_of_arms rest
  places (while_loop at e b) = 1 + places_of_block b
  places (for_loop at name a z b) = 1 + places_of_block b
  places (borrow_in at access x r region b stop) = places_of_block b
  places (borrow_typed at r t mode x b stop) = places_of_block b
  places (discard at e) = 0
  places (return_of at e) = 0

  pub places_of_block : PlainStatements → ℕ
  places_of_block no_statements = 0
  places_of_block (statements s more) = places s + places_of_block more

  pub places_of_branches : PlainBranches → ℕ
  places_of_branches no_branches = 0
  places_of_branches (branches e b more) = places_of_block b + places_of_branches more

  pub places_of_arms : PlainArms → ℕ
  places_of_arms no_arms = 0
  places_of_arms (arms when' name binds b more) = places_of_block b + places_of_arms more

-- what can be counted of a number
abbrev pub counted : ℕ → ℕ
counted n = min n 18446744073709551615
