-- Which statements and blocks return on every path. A loop never counts, nor does a conditional without
-- `else`, and a block returns where one of its statements does.
use Rattle.std.specs.Prelude.{Bool, true, false, ◌&&◌, ◌||◌, not}
use Rattle.au_syntax.specs.Statements.{Statement, Statements, Branches, Arms, conditional_else, case_of}
use Rattle.au_syntax.specs.Statements.{borrow_in, borrow_typed, return_of, no_statements, statements}
use Rattle.au_syntax.specs.Statements.{no_branches, branches, no_arms, arms}

module _ {N T C : Type 0} where
  abbrev mutual
    -- a statement returns on every path
    pub returns : Statement N T C → Bool
    returns (return_of at e) = true
    returns (conditional_else at tests block) = branches_return tests && block_returns block
    returns (case_of at e all) = arms_return all
    returns (borrow_in at access x r region block stop) = block_returns block
    returns (borrow_typed at r t mode x block stop) = block_returns block
    returns other = false

    -- so does a block
    pub block_returns : Statements N T C → Bool
    block_returns no_statements = false
    block_returns (statements s rest) = returns s || block_returns rest

    -- so does the block behind each test
    pub branches_return : Branches N T C → Bool
    branches_return no_branches = true
    branches_return (branches e block rest) = block_returns block && branches_return rest

    -- so does that of each arm
    pub arms_return : Arms N T C → Bool
    arms_return no_arms = true
    arms_return (arms at n binds block rest) = block_returns block && arms_return rest

  -- what may follow a statement: nothing, where it returns on every path
  abbrev pub may_follow : Bool → Statements N T C → Bool
  may_follow has_returned no_statements = true
  may_follow has_returned (statements s rest) = not has_returned
