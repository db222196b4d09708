-- Trees in which each field is bound once.
use Rattle.au_syntax.specs.Plain.{Bytes}
use Rattle.au_syntax.specs.Statements.{Statement, Statements, Branches, Arms, destructure, conditional}
use Rattle.au_syntax.specs.Statements.{conditional_else, case_of, while_loop, for_loop, borrow_in}
use Rattle.au_syntax.specs.Statements.{borrow_typed, no_statements, statements, no_branches, branches}
use Rattle.au_syntax.specs.Statements.{no_arms, arms}
use Rattle.au_lowered.specs.Binds.{fields_bound}
use Rattle.au_lowered.specs.Premises.{Once}

module _ {T C : Type 0} where
  abbrev mutual
    -- in a statement
    pub BindsOnce : Statement Bytes T C → Type 0
    BindsOnce (destructure at binds e) = Once (fields_bound binds)
    BindsOnce (case_of at e all) = ArmsBindOnce all
    BindsOnce (conditional at tests) = TestsBindOnce tests
    BindsOnce (conditional_else at tests block) = TestsBindOnce tests × BlockBindsOnce block
    BindsOnce (while_loop at e block) = BlockBindsOnce block
    BindsOnce (for_loop at name first last block) = BlockBindsOnce block
    BindsOnce (borrow_in at access x r region block stop) = BlockBindsOnce block
    BindsOnce (borrow_typed at r t mode x block stop) = BlockBindsOnce block
    BindsOnce other = Unit {0}

    -- in a block
    pub BlockBindsOnce : Statements Bytes T C → Type 0
    BlockBindsOnce no_statements = Unit {0}
    BlockBindsOnce (statements s rest) = BindsOnce s × BlockBindsOnce rest

    -- in the branches of a conditional
    pub TestsBindOnce : Branches Bytes T C → Type 0
    TestsBindOnce no_branches = Unit {0}
    TestsBindOnce (branches e block rest) = BlockBindsOnce block × TestsBindOnce rest

    -- in the arms of a case
    pub ArmsBindOnce : Arms Bytes T C → Type 0
    ArmsBindOnce no_arms = Unit {0}
    ArmsBindOnce (arms at name binds block rest) =
        Once (fields_bound binds) × BlockBindsOnce block × ArmsBindOnce rest
