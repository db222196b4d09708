-- The types that are written for the variables in the text of a body.
use Rattle.std.specs.Prelude.{List, [], ◌∷◌, ◌++◌, map}
use Rattle.au_syntax.specs.Plain.{Bytes}
use Rattle.au_syntax.specs.Statements.{declare, destructure, conditional, conditional_else, case_of}
use Rattle.au_syntax.specs.Statements.{while_loop, for_loop, borrow_in, borrow_typed, no_statements}
use Rattle.au_syntax.specs.Statements.{statements}
use Rattle.au_syntax.specs.Statements.{no_branches, branches, no_arms, arms}
use Rattle.au_syntax.specs.Types.{Bound, WrittenType}
use Rattle.au_typing.specs.Trees.{NotedArms, NotedBranches, NotedStatement, NotedStatements}

-- the types that are written for bound names
abbrev pub types_bound : List (Bound Bytes) → List WrittenType
types_bound binds = map (λ (one : Bound Bytes). one.of) binds

abbrev mutual
  -- the types that are written for the variables of a statement, and of what is inside of it
  pub types_written : NotedStatement → List WrittenType
  types_written (declare at binding name t e) = t ∷ []
  types_written (destructure at binds e) = types_bound binds
  types_written (conditional at tests) = types_in_branches tests
  types_written (conditional_else at tests b) = types_in_branches tests ++ types_in_block b
  types_written (case_of at e all) = types_in_arms all
  types_written (while_loop at e b) = types_in_block b
  types_written (for_loop at name a z b) = types_in_block b
  types_written (borrow_in at access x r region b stop) = types_in_block b
  types_written (borrow_typed at r t mode x b stop) = t ∷ types_in_block b
  types_written other = []

  -- in a block
  pub types_in_block : NotedStatements → List WrittenType
  types_in_block no_statements = []
  types_in_block (statements s rest) = types_written s ++ types_in_block rest

  -- in the branches of a conditional
  pub types_in_branches : NotedBranches → List WrittenType
  types_in_branches no_branches = []
  types_in_branches (branches e b rest) = types_in_block b ++ types_in_branches rest

  -- in the arms of a case
  pub types_in_arms : NotedArms → List WrittenType
  types_in_arms no_arms = []
  types_in_arms (arms at name binds b rest) = (types_bound binds ++ types_in_block b) ++ types_in_arms rest
