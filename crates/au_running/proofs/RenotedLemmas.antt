-- Other notes in a tree change nothing of its form.
use Rattle.std.proofs.Common.{◌≡◌, refl, ◌∙◌, ◌&&◌, ◌||◌, not}
use Rattle.au_syntax.specs.Plain.{Bytes}
use Rattle.au_syntax.specs.Statements.{Statement, Statements, Branches, Arms, skip, declare, destructure}
use Rattle.au_syntax.specs.Statements.{assign, assign_through, conditional, conditional_else, case_of}
use Rattle.au_syntax.specs.Statements.{while_loop, for_loop, borrow_in, borrow_typed, discard, return_of}
use Rattle.au_syntax.specs.Statements.{no_statements, statements, no_branches, branches, no_arms, arms}
use Rattle.au_typing.specs.Returns.{returns, block_returns, branches_return, arms_return, may_follow}
use Rattle.au_closed_trees.specs.Changes.{Change}
use Rattle.au_closed_trees.specs.Renoted.{statement_renoted, block_renoted, branches_renoted, arms_renoted}
use Rattle.au_lowered.specs.Laws.{Tidy, BlockTidy, TestsTidy, ArmsTidy}
use Rattle.au_lowered.specs.Trees.{BindsOnce, BlockBindsOnce, TestsBindOnce, ArmsBindOnce}
use Rattle.au_running.specs.Formed.{OtherNotesKeepForms}

module _ {T C U D : Type 0} (change : Change Bytes T C U D) where
  -- ---- what returns on every path

  mutual
    returns_same : (s : Statement Bytes T C) → returns (statement_renoted change s) ≡ returns s
    returns_same (skip at) = refl
    returns_same (declare at b n t e) = refl
    returns_same (destructure at binds e) = refl
    returns_same (assign at n fields e) = refl
    returns_same (assign_through at n fields e) = refl
    returns_same (conditional at tests) = refl
    returns_same (conditional_else at tests b) = λ i. branches_same tests i && block_same b i
    returns_same (case_of at e all) = arms_same all
    returns_same (while_loop at e b) = refl
    returns_same (for_loop at n a z b) = refl
    returns_same (borrow_in at access x r region b stop) = block_same b
    returns_same (borrow_typed at r t mode x b stop) = block_same b
    returns_same (discard at e) = refl
    returns_same (return_of at e) = refl

    block_same : (b : Statements Bytes T C) → block_returns (block_renoted change b) ≡ block_returns b
    block_same no_statements = refl
    block_same (statements s rest) = λ i. returns_same s i || block_same rest i

    branches_same : (tests : Branches Bytes T C)
        → branches_return (branches_renoted change tests) ≡ branches_return tests
    branches_same no_branches = refl
    branches_same (branches e b rest) = λ i. block_same b i && branches_same rest i

    arms_same : (all : Arms Bytes T C) → arms_return (arms_renoted change all) ≡ arms_return all
    arms_same no_arms = refl
    arms_same (arms at n binds b rest) = λ i. block_same b i && arms_same rest i

  -- ---- what follows a return

  follow_same : (s : Statement Bytes T C) (rest : Statements Bytes T C)
      → may_follow (returns (statement_renoted change s)) (block_renoted change rest)
      ≡ may_follow (returns s) rest
  follow_same s no_statements = refl
  follow_same s (statements next rest) = λ i. not (returns_same s i)

  mutual
    tidy_kept : (s : Statement Bytes T C) → Tidy s → Tidy (statement_renoted change s)
    tidy_kept (skip at) t = tt
    tidy_kept (declare at b n of e) t = tt
    tidy_kept (destructure at binds e) t = tt
    tidy_kept (assign at n fields e) t = tt
    tidy_kept (assign_through at n fields e) t = tt
    tidy_kept (conditional at tests) t = tests_tidy_kept tests t
    tidy_kept (conditional_else at tests b) t = (tests_tidy_kept tests t.0, block_tidy_kept b t.1)
    tidy_kept (case_of at e all) t = arms_tidy_kept all t
    tidy_kept (while_loop at e b) t = block_tidy_kept b t
    tidy_kept (for_loop at n a z b) t = block_tidy_kept b t
    tidy_kept (borrow_in at access x r region b stop) t = block_tidy_kept b t
    tidy_kept (borrow_typed at r of mode x b stop) t = block_tidy_kept b t
    tidy_kept (discard at e) t = tt
    tidy_kept (return_of at e) t = tt

    block_tidy_kept : (b : Statements Bytes T C) → BlockTidy b → BlockTidy (block_renoted change b)
    block_tidy_kept no_statements t = tt
    block_tidy_kept (statements s rest) t =
        (tidy_kept s t.0, follow_same s rest ∙ t.1, block_tidy_kept rest t.2)

    tests_tidy_kept : (tests : Branches Bytes T C) → TestsTidy tests
        → TestsTidy (branches_renoted change tests)
    tests_tidy_kept no_branches t = tt
    tests_tidy_kept (branches e b rest) t = (block_tidy_kept b t.0, tests_tidy_kept rest t.1)

    arms_tidy_kept : (all : Arms Bytes T C) → ArmsTidy all → ArmsTidy (arms_renoted change all)
    arms_tidy_kept no_arms t = tt
    arms_tidy_kept (arms at n binds b rest) t = (block_tidy_kept b t.0, arms_tidy_kept rest t.1)

  -- ---- fields that are bound

  mutual
    binds_kept : (s : Statement Bytes T C) → BindsOnce s → BindsOnce (statement_renoted change s)
    binds_kept (skip at) o = tt
    binds_kept (declare at b n of e) o = tt
    binds_kept (destructure at binds e) o = o
    binds_kept (assign at n fields e) o = tt
    binds_kept (assign_through at n fields e) o = tt
    binds_kept (conditional at tests) o = tests_binds_kept tests o
    binds_kept (conditional_else at tests b) o = (tests_binds_kept tests o.0, block_binds_kept b o.1)
    binds_kept (case_of at e all) o = arms_binds_kept all o
    binds_kept (while_loop at e b) o = block_binds_kept b o
    binds_kept (for_loop at n a z b) o = block_binds_kept b o
    binds_kept (borrow_in at access x r region b stop) o = block_binds_kept b o
    binds_kept (borrow_typed at r of mode x b stop) o = block_binds_kept b o
    binds_kept (discard at e) o = tt
    binds_kept (return_of at e) o = tt

    block_binds_kept : (b : Statements Bytes T C) → BlockBindsOnce b → BlockBindsOnce (block_renoted change b)
    block_binds_kept no_statements o = tt
    block_binds_kept (statements s rest) o = (binds_kept s o.0, block_binds_kept rest o.1)

    tests_binds_kept : (tests : Branches Bytes T C) → TestsBindOnce tests
        → TestsBindOnce (branches_renoted change tests)
    tests_binds_kept no_branches o = tt
    tests_binds_kept (branches e b rest) o = (block_binds_kept b o.0, tests_binds_kept rest o.1)

    arms_binds_kept : (all : Arms Bytes T C) → ArmsBindOnce all → ArmsBindOnce (arms_renoted change all)
    arms_binds_kept no_arms o = tt
    arms_binds_kept (arms at n binds b rest) o = (o.0, block_binds_kept b o.1, arms_binds_kept rest o.2)

-- the form of a block is kept
pub form_kept : (T C U D : Type 0) → OtherNotesKeepForms T C U D
form_kept T C U D change block formed = record {
  returns = block_same change block ∙ formed.returns;
  tidy = block_tidy_kept change block formed.tidy;
  whole = block_binds_kept change block formed.whole;
}
