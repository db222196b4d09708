-- Lists of a tree with one more behind the others.
use Rattle.std.proofs.Common.{◌≡◌, List, [], ◌∷◌, ◌++◌, map, ap, refl}
use Rattle.au_syntax.specs.declared.expressions.Argument.{Argument}
use Rattle.au_syntax.specs.declared.expressions.Expr.{Expr}
use Rattle.au_syntax.specs.declared.phases.Phase.{Ghosts}
use Rattle.au_syntax.specs.declared.statements.Arm.{Arm}
use Rattle.au_syntax.specs.declared.statements.Branch.{Branch}
use Rattle.au_syntax.specs.declared.statements.Stmt.{Stmt}
use Rattle.au_syntax.specs.Expressions.{Expression, Expressions, Arguments, expressions, arguments}
use Rattle.au_syntax.specs.Expressions.{no_expressions, no_arguments}
use Rattle.au_syntax.specs.Statements.{Statement, Statements, Branches, Arms, statements, no_statements}
use Rattle.au_syntax.specs.Statements.{branches, no_branches, arms, no_arms}
use Rattle.au_syntax.specs.Views.{argument_all, arm_all, block, bound, branch_all, expression, expression_all}
use Rattle.au_syntax.specs.Views.{placed, statement, statement_all}

module _ {N T C : Type 0} where
  abbrev pub snoc_expressions : Expressions N T C → Expression N T C → Expressions N T C
  snoc_expressions no_expressions e = expressions e no_expressions
  snoc_expressions (expressions one rest) e = expressions one (snoc_expressions rest e)

  abbrev pub snoc_arguments : Arguments N T C → Arguments N T C → Arguments N T C
  snoc_arguments no_arguments last = last
  snoc_arguments (arguments label one rest) last = arguments label one (snoc_arguments rest last)

  abbrev pub snoc_statements : Statements N T C → Statement N T C → Statements N T C
  snoc_statements no_statements s = statements s no_statements
  snoc_statements (statements one rest) s = statements one (snoc_statements rest s)

  abbrev pub snoc_branches : Branches N T C → Branches N T C → Branches N T C
  snoc_branches no_branches last = last
  snoc_branches (branches e b rest) last = branches e b (snoc_branches rest last)

  abbrev pub snoc_arms : Arms N T C → Arms N T C → Arms N T C
  snoc_arms no_arms last = last
  snoc_arms (arms at name binds b rest) last = arms at name binds b (snoc_arms rest last)

module _ {X N T C : Type 0} (g : Ghosts X N T C) where
  -- a named argument, a branch and an arm alone
  abbrev pub one_argument : Argument X N T C → Arguments g.SeenName g.SeenType g.SeenCall
  one_argument a = arguments (placed g a.label) (expression g a.value) no_arguments

  abbrev pub one_branch : Branch X N T C → Branches g.SeenName g.SeenType g.SeenCall
  one_branch b = branches (expression g b.test.value) (block g b.block) no_branches

  abbrev pub one_arm : Arm X N T C → Arms g.SeenName g.SeenType g.SeenCall
  one_arm a = arms a.at (placed g a.case) (map (bound g) a.binds.items) (block g a.block) no_arms

  pub expressions_push : (xs : List (Expr X N T C)) (x : Expr X N T C)
      → expression_all g (xs ++ x ∷ []) ≡ snoc_expressions (expression_all g xs) (expression g x)
  expressions_push [] x = refl
  expressions_push (y ∷ ys) x = ap (expressions (expression g y)) (expressions_push ys x)

  pub arguments_push : (xs : List (Argument X N T C)) (x : Argument X N T C)
      → argument_all g (xs ++ x ∷ []) ≡ snoc_arguments (argument_all g xs) (one_argument x)
  arguments_push [] x = refl
  arguments_push (y ∷ ys) x =
      ap (arguments (placed g y.label) (expression g y.value)) (arguments_push ys x)

  pub statements_push : (xs : List (Stmt X N T C)) (x : Stmt X N T C)
      → statement_all g (xs ++ x ∷ []) ≡ snoc_statements (statement_all g xs) (statement g x)
  statements_push [] x = refl
  statements_push (y ∷ ys) x = ap (statements (statement g y)) (statements_push ys x)

  pub branches_push : (xs : List (Branch X N T C)) (x : Branch X N T C)
      → branch_all g (xs ++ x ∷ []) ≡ snoc_branches (branch_all g xs) (one_branch x)
  branches_push [] x = refl
  branches_push (y ∷ ys) x =
      ap (branches (expression g y.test.value) (block g y.block)) (branches_push ys x)

  pub arms_push : (xs : List (Arm X N T C)) (x : Arm X N T C)
      → arm_all g (xs ++ x ∷ []) ≡ snoc_arms (arm_all g xs) (one_arm x)
  arms_push [] x = refl
  arms_push (y ∷ ys) x =
      ap (arms y.at (placed g y.case) (map (bound g) y.binds.items) (block g y.block)) (arms_push ys x)
