-- One step of each walk over statements, branches and arms that asks whether they return.
use Rattle.std.proofs.Common.{◌≡◌, ◌&&◌, ◌||◌, ◌<◌, get_or, ℕ, ◌+◌, drop, length, List, ap, sym, ◌∙◌}
use Rattle.std.proofs.lemmas.List.{at_drop_more}
use Rattle.au_typing.specs.Returns.{arms_return, block_returns, branches_return, returns}
use Rattle.au_syntax.specs.declared.phases.Phase.{Ghosts}
use Rattle.au_syntax.specs.declared.statements.Arm.{Arm}
use Rattle.au_syntax.specs.declared.statements.Branch.{Branch}
use Rattle.au_syntax.specs.declared.statements.Stmt.{Stmt}
use Rattle.au_syntax.specs.Views.{arm_all, block, branch_all, statement, statement_all}

module _ {X N T C : Type 0} (g : Ghosts X N T C) where
  -- of the statements from one on, it returns or those behind it do
  pub statement_step : (xs : List (Stmt X N T C)) (i : ℕ) (x : Stmt X N T C) → i < length xs → x ≡ get_or xs i x →
      block_returns (statement_all g (drop i xs))
      ≡ (returns (statement g x) || block_returns (statement_all g (drop (i + 1) xs)))
  statement_step xs i x within is =
      at_drop_more (λ rest. block_returns (statement_all g rest)) xs i x within
      ∙ ap (λ (y : Stmt X N T C). returns (statement g y) || block_returns (statement_all g (drop (i + 1) xs))) (sym is)

  -- of the branches from one on, it returns and those behind it do
  pub branch_step : (xs : List (Branch X N T C)) (i : ℕ) (x : Branch X N T C) → i < length xs → x ≡ get_or xs i x →
      branches_return (branch_all g (drop i xs))
      ≡ (block_returns (block g x.block) && branches_return (branch_all g (drop (i + 1) xs)))
  branch_step xs i x within is =
      at_drop_more (λ rest. branches_return (branch_all g rest)) xs i x within
      ∙ ap (λ (y : Branch X N T C). block_returns (block g y.block) && branches_return
      (branch_all g (drop (i + 1) xs))) (sym is)

  -- of the arms from one on, it returns and those behind it do
  pub arm_step : (xs : List (Arm X N T C)) (i : ℕ) (x : Arm X N T C) → i < length xs → x ≡ get_or xs i x →
      arms_return (arm_all g (drop i xs))
      ≡ (block_returns (block g x.block) && arms_return (arm_all g (drop (i + 1) xs)))
  arm_step xs i x within is =
      at_drop_more (λ rest. arms_return (arm_all g rest)) xs i x within
      ∙ ap (λ (y : Arm X N T C). block_returns (block g y.block) && arms_return (arm_all g (drop (i + 1) xs))) (sym is)
