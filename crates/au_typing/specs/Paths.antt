-- Which statements some path leaves behind it, and which blocks some path passes through to their end. A loop
-- may not be entered, and of a conditional without `else` no test may hold.
use Rattle.std.specs.Prelude.{◌⊎◌}
use Rattle.au_syntax.specs.Statements.{Statement, Statements, Branches, Arms, conditional_else, case_of}
use Rattle.au_syntax.specs.Statements.{borrow_in, borrow_typed, return_of, no_statements, statements}
use Rattle.au_syntax.specs.Statements.{no_branches, branches, no_arms, arms}

module _ {N T C : Type 0} where
  abbrev mutual
    -- some path goes on behind a statement
    pub GoesOn : Statement N T C → Type 0
    GoesOn (return_of at e) = ⊥
    GoesOn (conditional_else at tests block) = SomeBranchEnds tests ⊎ ReachesEnd block
    GoesOn (case_of at e all) = SomeArmEnds all
    GoesOn (borrow_in at access x r region block stop) = ReachesEnd block
    GoesOn (borrow_typed at r t mode x block stop) = ReachesEnd block
    GoesOn other = Unit {0}

    -- some path reaches the end of a block: it goes on behind each of its statements
    pub ReachesEnd : Statements N T C → Type 0
    ReachesEnd no_statements = Unit {0}
    ReachesEnd (statements s rest) = GoesOn s × ReachesEnd rest

    -- that of the block behind one of some tests
    pub SomeBranchEnds : Branches N T C → Type 0
    SomeBranchEnds no_branches = ⊥
    SomeBranchEnds (branches e block rest) = ReachesEnd block ⊎ SomeBranchEnds rest

    -- that of one of some arms
    pub SomeArmEnds : Arms N T C → Type 0
    SomeArmEnds no_arms = ⊥
    SomeArmEnds (arms at n binds block rest) = ReachesEnd block ⊎ SomeArmEnds rest
