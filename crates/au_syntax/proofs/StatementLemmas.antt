-- What the trees of the code say, variant by variant. The views are opaque; these equations stand for
-- them, and `tree_steps` names them all.
use Rattle.std.proofs.Common.{◌≡◌, ℕ, ◌+◌, ◌<◌, List, [], ◌∷◌, ◌++◌, length, take, map, Vec, ap, ◌∙◌, sym, refl, get_or}
use Rattle.std.specs.Global.{Global}
use mathlib.Core.Former.{Count}
use Rattle.std.proofs.lemmas.List.{take_more}
use Rattle.au_base.specs.declared.places.Pos.{Pos}
use Rattle.std.specs.declared.boxed.Box.{Box}
use Rattle.au_syntax.specs.declared.phases.Phase.{Ghosts}
use Rattle.au_syntax.specs.declared.types.TypeText.{TypeText}
use Rattle.au_syntax.specs.declared.types.Access.{Access}
use Rattle.au_syntax.specs.declared.names.BorrowNames.{BorrowNames}
use Rattle.au_syntax.specs.declared.names.Ident.{Ident}
use Rattle.au_syntax.specs.declared.names.Bind.{Bind}
use Rattle.au_syntax.specs.declared.expressions.BorrowMode.{BorrowMode}
use Rattle.au_syntax.specs.declared.expressions.Expr.{Expr}
use Rattle.au_syntax.specs.declared.statements.Binding.{Binding}
use Rattle.au_syntax.specs.declared.statements.Block.{Block}
use Rattle.au_syntax.specs.declared.statements.Branch.{Branch}
use Rattle.au_syntax.specs.declared.statements.Arm.{Arm}
use Rattle.au_syntax.specs.declared.statements.Stmt.{Stmt, Row_of-Stmt, end_of-Stmt, more_of-Stmt}
use Rattle.au_syntax.specs.declared.statements.Stmt.{items-the_row-Stmt, items_hidden-the_row-Stmt-0}
use Rattle.au_syntax.specs.declared.statements.Stmt.{items_shown-the_row-Stmt-0, Row_of-Branch, end_of-Branch}
use Rattle.au_syntax.specs.declared.statements.Stmt.{more_of-Branch, items-the_row-Branch}
use Rattle.au_syntax.specs.declared.statements.Stmt.{items_hidden-the_row-Branch-1, Row_of-Arm, end_of-Arm}
use Rattle.au_syntax.specs.declared.statements.Stmt.{more_of-Arm, items-the_row-Arm}
use Rattle.au_syntax.specs.declared.statements.Stmt.{items_hidden-the_row-Arm-2}
use Rattle.au_syntax.specs.declared.statements.Stmt as code
use Rattle.au_syntax.specs.declared.statements.Stmt.TheBlock.{hidden-the_row-Stmt-0, hidden-the_row-Branch-1}
use Rattle.au_syntax.specs.declared.statements.Stmt.TheBlock.{hidden-the_row-Arm-2}
use Rattle.au_syntax.specs.Statements.{Statement, Statements, Branches, Arms, skip, declare, destructure}
use Rattle.au_syntax.specs.Statements.{assign, assign_through, conditional, conditional_else, case_of}
use Rattle.au_syntax.specs.Statements.{while_loop, for_loop, borrow_in, borrow_typed, discard, return_of}
use Rattle.au_syntax.specs.Statements.{no_statements, statements, no_branches, branches, no_arms, arms}
use Rattle.au_syntax.specs.Views.{written, placed, bound, expression, statement, row_statements, row_branches}
use Rattle.au_syntax.specs.Views.{row_arms, statement_all, block, branch_all, arm_all}

module _ {X N T C : Type 0} (g : Ghosts X N T C) where
  pub row_statements_is : (n : Count) (row : Row_of-Stmt X N T C n) → row_statements g row
      ≡ statement_all g (items-the_row-Stmt X N T C n row)
  unfolding row_statements
  row_statements_is n end_of-Stmt = refl
  row_statements_is n (more_of-Stmt s rest) = ap (statements (statement g s)) (row_statements_is _ rest)

  pub row_branches_is : (n : Count) (row : Row_of-Branch X N T C n) → row_branches g row
      ≡ branch_all g (items-the_row-Branch X N T C n row)
  unfolding row_branches
  row_branches_is n end_of-Branch = refl
  row_branches_is n (more_of-Branch e shape ss rest) =
      ap (branches (expression g e.value) (row_statements g ss)) (row_branches_is _ rest)
      ∙ ap (λ b. branches (expression g e.value) b (branch_all g (items-the_row-Branch X N T C _ rest)))
      (row_statements_is _ ss ∙ ap (statement_all g) (sym (items_shown-the_row-Stmt-0 X N T C shape ss)))

  pub row_arms_is : (n : Count) (row : Row_of-Arm X N T C n) →
      row_arms g row ≡ arm_all g (items-the_row-Arm X N T C n row)
  unfolding row_arms
  row_arms_is n end_of-Arm = refl
  row_arms_is n (more_of-Arm at name binds shape ss rest) =
      ap (arms at (placed g name) (map (bound g) binds.items) (row_statements g ss)) (row_arms_is _ rest)
      ∙ ap (λ b. arms at (placed g name) (map (bound g) binds.items) b
      (arm_all g (items-the_row-Arm X N T C _ rest)))
      (row_statements_is _ ss ∙ ap (statement_all g) (sym (items_shown-the_row-Stmt-0 X N T C shape ss)))

  -- a block by its row
  pub block_is : (b : Block X N T C) → row_statements g (hidden-the_row-Stmt-0 X N T C b.statements) ≡ block g b
  block_is b = row_statements_is _ (hidden-the_row-Stmt-0 X N T C b.statements)
      ∙ ap (statement_all g) (items_hidden-the_row-Stmt-0 X N T C b.statements)

  pub skip_says : (at : Pos) → statement g (code.Skip at) ≡ skip at
  unfolding statement
  skip_says at = refl

  pub let_says : (at : Pos) (b : Binding) (n : Ident X N T C) (t : TypeText) (e : Box (Expr X N T C) Global) →
      statement g (code.Let at b n t e) ≡ declare at b (placed g n) (written t) (expression g e.value)
  unfolding statement
  let_says at b n t e = refl

  pub destructure_says : (at : Pos) (binds : Vec (Bind X N T C) Global) (e : Box (Expr X N T C) Global) →
      statement g (code.Destructure at binds e) ≡ destructure at (map (bound g) binds.items)
      (expression g e.value)
  unfolding statement
  destructure_says at binds e = refl

  pub assign_says : (at : Pos) (n : Ident X N T C) (fields : Vec (Ident X N T C) Global)
      (e : Box (Expr X N T C) Global) → statement g (code.Assign at n fields e) ≡ assign at (placed g n)
      (map (placed g) fields.items) (expression g e.value)
  unfolding statement
  assign_says at n fields e = refl

  pub assign_through_says : (at : Pos) (n : Ident X N T C) (fields : Vec (Ident X N T C) Global)
      (e : Box (Expr X N T C) Global) → statement g (code.AssignThrough at n fields e) ≡ assign_through at
      (placed g n) (map (placed g) fields.items) (expression g e.value)
  unfolding statement
  assign_through_says at n fields e = refl

  pub if_says : (at : Pos) (bs : Vec (Branch X N T C) Global) → statement g (code.If at bs)
      ≡ conditional at (branch_all g bs.items)
  unfolding statement
  if_says at bs = ap (conditional at) (row_branches_is _ (hidden-the_row-Branch-1 X N T C bs)
      ∙ ap (branch_all g) (items_hidden-the_row-Branch-1 X N T C bs))

  pub if_else_says : (at : Pos) (bs : Vec (Branch X N T C) Global) (b : Block X N T C) →
      statement g (code.IfElse at bs b) ≡ conditional_else at (branch_all g bs.items) (block g b)
  unfolding statement
  if_else_says at bs b = ap (λ rest. conditional_else at rest
      (row_statements g (hidden-the_row-Stmt-0 X N T C b.statements)))
      (row_branches_is _ (hidden-the_row-Branch-1 X N T C bs)
      ∙ ap (branch_all g) (items_hidden-the_row-Branch-1 X N T C bs))
      ∙ ap (conditional_else at (branch_all g bs.items)) (block_is b)

  pub case_says : (at : Pos) (e : Box (Expr X N T C) Global) (rest : Vec (Arm X N T C) Global) →
      statement g (code.Case at e rest) ≡ case_of at (expression g e.value) (arm_all g rest.items)
  unfolding statement
  case_says at e rest = ap (case_of at (expression g e.value))
      (row_arms_is _ (hidden-the_row-Arm-2 X N T C rest)
      ∙ ap (arm_all g) (items_hidden-the_row-Arm-2 X N T C rest))

  pub while_says : (at : Pos) (e : Box (Expr X N T C) Global) (b : Block X N T C) →
      statement g (code.While at e b) ≡ while_loop at (expression g e.value) (block g b)
  unfolding statement
  while_says at e b = ap (while_loop at (expression g e.value)) (block_is b)

  pub for_says : (at : Pos) (n : Ident X N T C) (a : Box (Expr X N T C) Global)
      (z : Box (Expr X N T C) Global) (b : Block X N T C) → statement g (code.For at n a z b)
      ≡ for_loop at (placed g n) (expression g a.value) (expression g z.value) (block g b)
  unfolding statement
  for_says at n a z b = ap (for_loop at (placed g n) (expression g a.value) (expression g z.value)) (block_is b)

  pub borrow_says : (at : Pos) (access : Access) (ns : BorrowNames X N T C) (b : Block X N T C) (stop : Pos) →
      statement g (code.Borrow at access ns b stop)
      ≡ borrow_in at access (placed g ns.variable) (placed g ns.reference) (placed g ns.region) (block g b) stop
  unfolding statement
  borrow_says at access ns b stop =
      ap
      (λ ss. borrow_in at access (placed g ns.variable) (placed g ns.reference) (placed g ns.region) ss stop)
      (block_is b)

  pub borrow_typed_says : (at : Pos) (r : Ident X N T C) (t : TypeText) (mode : BorrowMode)
      (x : Ident X N T C) (b : Block X N T C) (stop : Pos) → statement g (code.BorrowTyped at r t mode x b stop)
      ≡ borrow_typed at (placed g r) (written t) mode (placed g x) (block g b) stop
  unfolding statement
  borrow_typed_says at r t mode x b stop =
      ap (λ ss. borrow_typed at (placed g r) (written t) mode (placed g x) ss stop) (block_is b)

  pub call_says : (at : Pos) (e : Box (Expr X N T C) Global) → statement g (code.Call at e)
      ≡ discard at (expression g e.value)
  unfolding statement
  call_says at e = refl

  pub return_says : (at : Pos) (e : Box (Expr X N T C) Global) → statement g (code.Return at e)
      ≡ return_of at (expression g e.value)
  unfolding statement
  return_says at e = refl

-- one more behind the others
module _ {N T C : Type 0} where
  pub snoc_statements : Statements N T C → Statement N T C → Statements N T C
  snoc_statements no_statements s = statements s no_statements
  snoc_statements (statements one rest) s = statements one (snoc_statements rest s)

  pub snoc_branches : Branches N T C → Branches N T C → Branches N T C
  snoc_branches no_branches last = last
  snoc_branches (branches e b rest) last = branches e b (snoc_branches rest last)

  pub snoc_arms : Arms N T C → Arms N T C → Arms N T C
  snoc_arms no_arms last = last
  snoc_arms (arms at name binds b rest) last = arms at name binds b (snoc_arms rest last)

module _ {X N T C : Type 0} (g : Ghosts X N T C) where
  pub statements_push : (xs : List (Stmt X N T C)) (x : Stmt X N T C) → statement_all g (xs ++ x ∷ [])
      ≡ snoc_statements (statement_all g xs) (statement g x)
  unfolding snoc_statements
  statements_push [] x = refl
  statements_push (y ∷ ys) x = ap (statements (statement g y)) (statements_push ys x)

  pub statements_more : (xs : List (Stmt X N T C)) (i : ℕ) (d : Stmt X N T C) → i < length xs →
      statement_all g (take (i + 1) xs) ≡ snoc_statements (statement_all g (take i xs))
      (statement g (get_or xs i d))
  statements_more xs i d h = ap (statement_all g) (take_more xs i d h) ∙ statements_push (take i xs) (get_or xs i d)

  -- a branch alone
  abbrev pub one_branch : Branch X N T C → Branches g.SeenName g.SeenType g.SeenCall
  one_branch b = branches (expression g b.test.value) (block g b.block) no_branches

  pub branches_push : (xs : List (Branch X N T C)) (x : Branch X N T C) → branch_all g (xs ++ x ∷ [])
      ≡ snoc_branches (branch_all g xs) (one_branch x)
  unfolding snoc_branches
  branches_push [] x = refl
  branches_push (y ∷ ys) x = ap (branches (expression g y.test.value) (block g y.block)) (branches_push ys x)

  pub branches_more : (xs : List (Branch X N T C)) (i : ℕ) (d : Branch X N T C) → i < length xs →
      branch_all g (take (i + 1) xs) ≡ snoc_branches (branch_all g (take i xs)) (one_branch (get_or xs i d))
  branches_more xs i d h = ap (branch_all g) (take_more xs i d h) ∙ branches_push (take i xs) (get_or xs i d)

  -- an arm alone
  abbrev pub one_arm : Arm X N T C → Arms g.SeenName g.SeenType g.SeenCall
  one_arm a = arms a.at (placed g a.case) (map (bound g) a.binds.items) (block g a.block) no_arms

  pub arms_push : (xs : List (Arm X N T C)) (x : Arm X N T C) → arm_all g (xs ++ x ∷ [])
      ≡ snoc_arms (arm_all g xs) (one_arm x)
  unfolding snoc_arms
  arms_push [] x = refl
  arms_push (y ∷ ys) x = ap (arms y.at (placed g y.case) (map (bound g) y.binds.items) (block g y.block))
      (arms_push ys x)

  pub arms_more : (xs : List (Arm X N T C)) (i : ℕ) (d : Arm X N T C) → i < length xs →
      arm_all g (take (i + 1) xs) ≡ snoc_arms (arm_all g (take i xs)) (one_arm (get_or xs i d))
  arms_more xs i d h = ap (arm_all g) (take_more xs i d h) ∙ arms_push (take i xs) (get_or xs i d)

pub ruleset statement_steps = (
  skip_says,
  let_says,
  destructure_says,
  assign_says,
  assign_through_says,
  if_says,
  if_else_says,
  case_says,
  while_says,
  for_says,
  borrow_says,
  borrow_typed_says,
  call_says,
  return_says,
  statements_push,
  statements_more,
  branches_push,
  branches_more,
  arms_push,
  arms_more,
)
