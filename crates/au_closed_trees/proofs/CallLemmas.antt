-- What the calls in lists of a tree lead to, where one more stands behind the others.
use Rattle.std.proofs.Common.{◌≡◌, ℕ, Bool, List, [], ◌++◌, Vec, ap, refl}
use Rattle.std.specs.Global.{Global}
use Rattle.std.proofs.lemmas.List.{append-nil}
use Rattle.au_base.specs.declared.places.Pos.{Pos}
use Rattle.au_base.proofs.ListLemmas.{added_behind}
use Rattle.au_sights.specs.contracts.noted.NotedPhase.TheImpl.{ghosts as noted}
use Rattle.au_syntax.specs.declared.expressions.BinaryOperator.{BinaryOperator}
use Rattle.au_syntax.specs.declared.expressions.BorrowMode.{BorrowMode}
use Rattle.au_syntax.specs.declared.expressions.Expr as expr
use Rattle.au_syntax.specs.declared.expressions.Literal.{Literal}
use Rattle.au_syntax.specs.declared.statements.Binding.{Binding}
use Rattle.au_syntax.specs.declared.statements.Stmt as stmt
use Rattle.au_syntax.specs.declared.types.Access.{Access}
use Rattle.au_syntax.specs.declared.types.TypeText.{TypeText}
use Rattle.au_syntax.specs.Plain.{Bytes}
use Rattle.au_syntax.specs.Views.{argument_all, arm_all, block, branch_all, expression, expression_all, node}
use Rattle.au_syntax.specs.Views.{placed, statement}
use Rattle.au_syntax.proofs.ExpressionLemmas as exprs
use Rattle.au_syntax.proofs.StatementLemmas as stmts
use Rattle.au_sights.specs.Notes.{Note}
use Rattle.au_closed_trees.proofs.SnocLemmas.{snoc_arguments, snoc_arms, snoc_branches, snoc_expressions}
use Rattle.au_closed_trees.proofs.SnocLemmas.{snoc_statements}
use Rattle.au_closed_trees.proofs.ClosingLemmas.{OldArgument, OldArm, OldBind, OldBlock, OldBox, OldBranch}
use Rattle.au_closed_trees.proofs.ClosingLemmas.{OldExpr, OldIdent, OldNames, OldSite}
use Rattle.au_syntax.specs.Expressions.{Expression, Expressions, Arguments, expressions, arguments}
use Rattle.au_syntax.specs.Expressions.{no_expressions, no_arguments}
use Rattle.au_syntax.specs.Statements.{Statement, Statements, Branches, Arms, statements, no_statements}
use Rattle.au_syntax.specs.Statements.{branches, no_branches, arms, no_arms}
use Rattle.au_closed_trees.specs.Calls.{calls_in, calls_in_all, calls_in_arguments, calls_in_arms}
use Rattle.au_closed_trees.specs.Calls.{calls_in_block, calls_in_branches, calls_in_statement}

module _ {N T C A : Type 0} (leads : T → C → N → List A) where
  pub expressions_lead : (es : Expressions N T C) (e : Expression N T C)
      → calls_in_all leads (snoc_expressions es e) ≡ calls_in_all leads es ++ calls_in leads e
  expressions_lead no_expressions e = append-nil (calls_in leads e)
  expressions_lead (expressions one rest) e =
      added_behind (calls_in leads one) (calls_in_all leads rest) (calls_in leads e) _
      (expressions_lead rest e)

  pub arguments_lead : (es last : Arguments N T C)
      → calls_in_arguments leads (snoc_arguments es last)
      ≡ calls_in_arguments leads es ++ calls_in_arguments leads last
  arguments_lead no_arguments last = refl
  arguments_lead (arguments label one rest) last =
      added_behind (calls_in leads one) (calls_in_arguments leads rest) (calls_in_arguments leads last) _
      (arguments_lead rest last)

  pub statements_lead : (b : Statements N T C) (s : Statement N T C)
      → calls_in_block leads (snoc_statements b s) ≡ calls_in_block leads b ++ calls_in_statement leads s
  statements_lead no_statements s = append-nil (calls_in_statement leads s)
  statements_lead (statements one rest) s =
      added_behind (calls_in_statement leads one) (calls_in_block leads rest) (calls_in_statement leads s) _
      (statements_lead rest s)

  pub branches_lead : (all last : Branches N T C)
      → calls_in_branches leads (snoc_branches all last)
      ≡ calls_in_branches leads all ++ calls_in_branches leads last
  branches_lead no_branches last = refl
  branches_lead (branches e b rest) last =
      added_behind (calls_in leads e ++ calls_in_block leads b) (calls_in_branches leads rest)
      (calls_in_branches leads last) _ (branches_lead rest last)

  pub arms_lead : (all last : Arms N T C)
      → calls_in_arms leads (snoc_arms all last) ≡ calls_in_arms leads all ++ calls_in_arms leads last
  arms_lead no_arms last = refl
  arms_lead (arms at name binds b rest) last =
      added_behind (calls_in_block leads b) (calls_in_arms leads rest) (calls_in_arms leads last) _
      (arms_lead rest last)

-- ---- what each variant leads to

module _ {A : Type 0} (leads : Note → Unit {0} → Bytes → List A) where
  pub number_calls : (s : OldSite) (l : Literal)
      → calls_in leads (expression noted (expr.Number s l))
      ≡ []
  number_calls s l = ap (calls_in leads) (exprs.number_says noted s l)

  pub negative_calls : (s : OldSite) (l : Literal)
      → calls_in leads (expression noted (expr.Negative s l))
      ≡ []
  negative_calls s l = ap (calls_in leads) (exprs.negative_says noted s l)

  pub text_calls : (s : OldSite) (t : List ℕ)
      → calls_in leads (expression noted (expr.Text s t))
      ≡ []
  text_calls s t = ap (calls_in leads) (exprs.text_says noted s t)

  pub bool_calls : (s : OldSite) (b : Bool)
      → calls_in leads (expression noted (expr.Bool s b))
      ≡ []
  bool_calls s b = ap (calls_in leads) (exprs.bool_says noted s b)

  pub nil_calls : (s : OldSite)
      → calls_in leads (expression noted (expr.Nil s))
      ≡ []
  nil_calls s = ap (calls_in leads) (exprs.nil_says noted s)

  pub path_calls : (s : OldSite) (n : OldIdent) (fields : Vec OldIdent Global)
      → calls_in leads (expression noted (expr.Path s n fields))
      ≡ []
  path_calls s n fields = ap (calls_in leads) (exprs.path_says noted s n fields)

  pub arrow_calls : (s : OldSite) (n : OldIdent) (fields : Vec OldIdent Global)
      → calls_in leads (expression noted (expr.Arrow s n fields))
      ≡ []
  arrow_calls s n fields = ap (calls_in leads) (exprs.arrow_says noted s n fields)

  pub call_calls : (s : OldSite) (n : OldIdent) (args : Vec OldExpr Global) (note : Unit {0})
      → calls_in leads (expression noted (expr.Call s n args note))
      ≡ leads (node noted s).note tt (placed noted n).name
      ++ calls_in_all leads (expression_all noted args.items)
  call_calls s n args note = ap (calls_in leads) (exprs.call_says noted s n args note)

  pub named_call_calls : (s : OldSite) (n : OldIdent) (args : Vec OldArgument Global) (note : Unit {0})
      → calls_in leads (expression noted (expr.NamedCall s n args note))
      ≡ leads (node noted s).note tt (placed noted n).name
      ++ calls_in_arguments leads (argument_all noted args.items)
  named_call_calls s n args note = ap (calls_in leads) (exprs.named_call_says noted s n args note)

  pub parenthesized_calls : (s : OldSite) (e : OldBox)
      → calls_in leads (expression noted (expr.Parenthesized s e))
      ≡ calls_in leads (expression noted e.value)
  parenthesized_calls s e = ap (calls_in leads) (exprs.parenthesized_says noted s e)

  pub dereference_calls : (s : OldSite) (e : OldBox)
      → calls_in leads (expression noted (expr.Dereference s e))
      ≡ calls_in leads (expression noted e.value)
  dereference_calls s e = ap (calls_in leads) (exprs.dereference_says noted s e)

  pub borrow_calls : (s : OldSite) (m : BorrowMode) (n : OldIdent)
      → calls_in leads (expression noted (expr.Borrow s m n))
      ≡ []
  borrow_calls s m n = ap (calls_in leads) (exprs.borrow_says noted s m n)

  pub borrow_part_calls : (s : OldSite) (n : OldIdent) (fields : Vec OldIdent Global)
      → calls_in leads (expression noted (expr.BorrowPart s n fields))
      ≡ []
  borrow_part_calls s n fields = ap (calls_in leads) (exprs.borrow_part_says noted s n fields)

  pub binary_calls : (s : OldSite) (op : BinaryOperator) (a b : OldBox)
      → calls_in leads (expression noted (expr.Binary s op a b))
      ≡ calls_in leads (expression noted a.value) ++ calls_in leads (expression noted b.value)
  binary_calls s op a b = ap (calls_in leads) (exprs.binary_says noted s op a b)

  pub not_calls : (s : OldSite) (e : OldBox)
      → calls_in leads (expression noted (expr.Not s e))
      ≡ calls_in leads (expression noted e.value)
  not_calls s e = ap (calls_in leads) (exprs.not_says noted s e)

  pub typed_calls : (s : OldSite) (e : OldBox) (t : TypeText)
      → calls_in leads (expression noted (expr.Typed s e t))
      ≡ calls_in leads (expression noted e.value)
  typed_calls s e t = ap (calls_in leads) (exprs.typed_says noted s e t)

  pub if_calls : (s : OldSite) (c a b : OldBox)
      → calls_in leads (expression noted (expr.If s c a b))
      ≡ calls_in leads (expression noted c.value) ++ calls_in leads (expression noted a.value)
      ++ calls_in leads (expression noted b.value)
  if_calls s c a b = ap (calls_in leads) (exprs.if_says noted s c a b)

  pub skip_statement_calls : (at : Pos)
      → calls_in_statement leads (statement noted (stmt.Skip at))
      ≡ []
  skip_statement_calls at = ap (calls_in_statement leads) (stmts.skip_says noted at)

  pub let_statement_calls : (at : Pos) (b : Binding) (n : OldIdent) (t : TypeText) (e : OldBox)
      → calls_in_statement leads (statement noted (stmt.Let at b n t e))
      ≡ calls_in leads (expression noted e.value)
  let_statement_calls at b n t e = ap (calls_in_statement leads) (stmts.let_says noted at b n t e)

  pub destructure_statement_calls : (at : Pos) (binds : Vec OldBind Global) (e : OldBox)
      → calls_in_statement leads (statement noted (stmt.Destructure at binds e))
      ≡ calls_in leads (expression noted e.value)
  destructure_statement_calls at binds e =
      ap (calls_in_statement leads) (stmts.destructure_says noted at binds e)

  pub assign_statement_calls : (at : Pos) (n : OldIdent) (fields : Vec OldIdent Global) (e : OldBox)
      → calls_in_statement leads (statement noted (stmt.Assign at n fields e))
      ≡ calls_in leads (expression noted e.value)
  assign_statement_calls at n fields e = ap (calls_in_statement leads) (stmts.assign_says noted at n fields e)

  pub assign_through_statement_calls : (at : Pos) (n : OldIdent) (fields : Vec OldIdent Global) (e : OldBox)
      → calls_in_statement leads (statement noted (stmt.AssignThrough at n fields e))
      ≡ calls_in leads (expression noted e.value)
  assign_through_statement_calls at n fields e =
      ap (calls_in_statement leads) (stmts.assign_through_says noted at n fields e)

  pub if_statement_calls : (at : Pos) (bs : Vec OldBranch Global)
      → calls_in_statement leads (statement noted (stmt.If at bs))
      ≡ calls_in_branches leads (branch_all noted bs.items)
  if_statement_calls at bs = ap (calls_in_statement leads) (stmts.if_says noted at bs)

  pub if_else_statement_calls : (at : Pos) (bs : Vec OldBranch Global) (b : OldBlock)
      → calls_in_statement leads (statement noted (stmt.IfElse at bs b))
      ≡ calls_in_branches leads (branch_all noted bs.items) ++ calls_in_block leads (block noted b)
  if_else_statement_calls at bs b = ap (calls_in_statement leads) (stmts.if_else_says noted at bs b)

  pub case_statement_calls : (at : Pos) (e : OldBox) (all : Vec OldArm Global)
      → calls_in_statement leads (statement noted (stmt.Case at e all))
      ≡ calls_in leads (expression noted e.value) ++ calls_in_arms leads (arm_all noted all.items)
  case_statement_calls at e all = ap (calls_in_statement leads) (stmts.case_says noted at e all)

  pub while_statement_calls : (at : Pos) (e : OldBox) (b : OldBlock)
      → calls_in_statement leads (statement noted (stmt.While at e b))
      ≡ calls_in leads (expression noted e.value) ++ calls_in_block leads (block noted b)
  while_statement_calls at e b = ap (calls_in_statement leads) (stmts.while_says noted at e b)

  pub for_statement_calls : (at : Pos) (n : OldIdent) (a z : OldBox) (b : OldBlock)
      → calls_in_statement leads (statement noted (stmt.For at n a z b))
      ≡ calls_in leads (expression noted a.value) ++ calls_in leads (expression noted z.value)
      ++ calls_in_block leads (block noted b)
  for_statement_calls at n a z b = ap (calls_in_statement leads) (stmts.for_says noted at n a z b)

  pub borrow_statement_calls : (at : Pos) (access : Access) (ns : OldNames) (b : OldBlock) (stop : Pos)
      → calls_in_statement leads (statement noted (stmt.Borrow at access ns b stop))
      ≡ calls_in_block leads (block noted b)
  borrow_statement_calls at access ns b stop =
      ap (calls_in_statement leads) (stmts.borrow_says noted at access ns b stop)

  pub borrow_typed_statement_calls : (at : Pos) (r : OldIdent) (t : TypeText) (mode : BorrowMode)
      (x : OldIdent) (b : OldBlock) (stop : Pos)
      → calls_in_statement leads (statement noted (stmt.BorrowTyped at r t mode x b stop))
      ≡ calls_in_block leads (block noted b)
  borrow_typed_statement_calls at r t mode x b stop =
      ap (calls_in_statement leads) (stmts.borrow_typed_says noted at r t mode x b stop)

  pub call_statement_calls : (at : Pos) (e : OldBox)
      → calls_in_statement leads (statement noted (stmt.Call at e))
      ≡ calls_in leads (expression noted e.value)
  call_statement_calls at e = ap (calls_in_statement leads) (stmts.call_says noted at e)

  pub return_statement_calls : (at : Pos) (e : OldBox)
      → calls_in_statement leads (statement noted (stmt.Return at e))
      ≡ calls_in leads (expression noted e.value)
  return_statement_calls at e = ap (calls_in_statement leads) (stmts.return_says noted at e)
