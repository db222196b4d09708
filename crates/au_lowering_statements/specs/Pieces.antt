-- Pieces of the code of statements: a block, and what stands behind it.
use Rattle.std.specs.Prelude.{◌≡◌, ℕ, ◌+◌, Bool, List, Option, length}
use Rattle.au_low.specs.declared.instructions.Instr.TheVariants.{ForStep, Jump, Store}
use Rattle.au_lowered.specs.Drafts.{Draft, Written, ◌>>◌, does, nothing, unless}
use Rattle.au_lowered.specs.Expressions.{whole}
use Rattle.au_lowered.specs.Statements as spec
use Rattle.au_lowering_expressions.specs.Wrote.{wrote}
use Rattle.au_lowering_statements.specs.Ends.{AllBelow, branch_upto, with_jumps}
use Rattle.au_meaning.specs.Names.{Scope}
use Rattle.au_meaning.specs.Views.{View}
use Rattle.au_syntax.specs.Expressions.{Expression}
use Rattle.au_syntax.specs.Plain.{Bytes}
use Rattle.au_syntax.specs.Statements.{Statement, conditional, conditional_else, case_of, while_loop}
use Rattle.au_syntax.specs.Statements.{for_loop, borrow_in, borrow_typed}

-- what a loop does where its test is true: the block, and a jump to the test
abbrev pub turn_from : Bool → ℕ → Written → Written
turn_from returns start block = block >> unless returns (Jump start)

-- the block of `for`, and the step to the next turn
abbrev pub counted : Bool → ℕ → ℕ → Written → Written
counted returns slot start block = block >> unless returns (ForStep slot (slot + 1) start)

-- a test of a conditional that ends at a place, and its branch
abbrev pub test_upto : Bool → Bool → Written → Written → ℕ → Written
test_upto followed returns test block m = test >> branch_upto followed returns m block

-- an arm of a case that ends at a place
abbrev pub arm_to : Bool → Written → ℕ → Written
arm_to unneeded block m = block >> unless unneeded (Jump m)

-- where arms begin, if the jumps so far are instructions
abbrev pub Begun : List ℕ → List Draft → List (Option ℕ × ℕ) → List (Option ℕ × ℕ) → Type 0
Begun jumps before starts all = AllBelow jumps (length before) → starts ≡ all

-- code whose jumps at these places lead to its end
abbrev pub ended : List ℕ → List Draft → List Draft
ended jumps code = with_jumps (length code) jumps code

module _ {T C : Type 0} (see : View ℕ T C) (around slot : ℕ) (scope : Scope) where
  -- the code of a statement that holds no block, and nothing for one that holds a block
  abbrev pub simple : Statement Bytes T C → Written
  simple (conditional at tests) = nothing
  simple (conditional_else at tests other) = nothing
  simple (case_of at e all) = nothing
  simple (while_loop at e body) = nothing
  simple (for_loop at name first last body) = nothing
  simple (borrow_in at access x r region body stop) = nothing
  simple (borrow_typed at r t mode x body stop) = nothing
  simple s = spec.statement see around slot scope s

  -- the bounds of `for` behind other code, which go into two slots
  abbrev pub with_bounds : Expression Bytes T C → Expression Bytes T C → List Draft → List Draft
  with_bounds first last before =
      wrote (does (Store (slot + 1)))
      (wrote (whole see around scope last)
      (wrote (does (Store slot)) (wrote (whole see around scope first) before)))
