-- What is said of the notes in lists of a tree, where one more stands behind the others.
use Rattle.std.proofs.Common.{◌≡◌, ℕ, Bool, List, [], ◌++◌, Vec, ap, refl}
use Rattle.std.specs.Global.{Global}
use Rattle.std.proofs.lemmas.List.{append-nil}
use Rattle.au_base.specs.declared.places.Pos.{Pos}
use Rattle.au_base.proofs.ListLemmas.{added_behind}
use Rattle.au_closed_trees.specs.contracts.phase.ClosedTreesPhase.TheImpl.{ghosts as closed}
use Rattle.au_closed_trees.specs.declared.notes.Callee.{Callee}
use Rattle.au_closed_trees.specs.declared.notes.ClosedNote as found
use Rattle.au_closed_trees.specs.declared.phase.ClosedTrees.{ClosedTrees}
use Rattle.au_closed_trees.specs.ClosedNotes.{ClosedNote}
use Rattle.au_syntax.specs.declared.expressions.BinaryOperator.{BinaryOperator}
use Rattle.au_syntax.specs.declared.expressions.BorrowMode.{BorrowMode}
use Rattle.au_syntax.specs.declared.expressions.Expr as expr
use Rattle.au_syntax.specs.declared.expressions.Literal.{Literal}
use Rattle.au_syntax.specs.declared.statements.Binding.{Binding}
use Rattle.au_syntax.specs.declared.statements.Stmt as stmt
use Rattle.au_syntax.specs.declared.types.Access.{Access}
use Rattle.au_syntax.specs.declared.types.TypeText.{TypeText}
use Rattle.au_syntax.specs.Plain.{Bytes}
use Rattle.au_syntax.specs.Views.{argument_all, arm_all, block, branch_all, expression, expression_all, node, statement}
use Rattle.au_syntax.proofs.ExpressionLemmas as exprs
use Rattle.au_syntax.proofs.StatementLemmas as stmts
use Rattle.au_closed_trees.proofs.SnocLemmas.{snoc_arguments, snoc_arms, snoc_branches, snoc_expressions}
use Rattle.au_closed_trees.proofs.SnocLemmas.{snoc_statements}
use Rattle.std.specs.declared.boxed.Box.{Box}
use Rattle.au_syntax.specs.declared.expressions.Argument.{Argument}
use Rattle.au_syntax.specs.declared.expressions.Expr.{Expr}
use Rattle.au_syntax.specs.declared.expressions.Site.{Site}
use Rattle.au_syntax.specs.declared.names.Bind.{Bind}
use Rattle.au_syntax.specs.declared.names.BorrowNames.{BorrowNames}
use Rattle.au_syntax.specs.declared.names.Ident.{Ident}
use Rattle.au_syntax.specs.declared.statements.Arm.{Arm}
use Rattle.au_syntax.specs.declared.statements.Block.{Block}
use Rattle.au_syntax.specs.declared.statements.Branch.{Branch}
use Rattle.au_syntax.specs.Expressions.{Expression, Expressions, Arguments, expressions, arguments}
use Rattle.au_syntax.specs.Expressions.{no_expressions, no_arguments}
use Rattle.au_syntax.specs.Statements.{Statement, Statements, Branches, Arms, statements, no_statements}
use Rattle.au_syntax.specs.Statements.{branches, no_branches, arms, no_arms}
use Rattle.au_closed_trees.specs.Notes.{said_in, said_in_all, said_in_arguments, said_in_arms, said_in_block}
use Rattle.au_closed_trees.specs.Notes.{said_in_branches, said_in_statement}

module _ {N T C A : Type 0} (said : T → List A) where
  pub expressions_told : (es : Expressions N T C) (e : Expression N T C)
      → said_in_all said (snoc_expressions es e) ≡ said_in_all said es ++ said_in said e
  expressions_told no_expressions e = append-nil (said_in said e)
  expressions_told (expressions one rest) e =
      added_behind (said_in said one) (said_in_all said rest) (said_in said e) _ (expressions_told rest e)

  pub arguments_told : (es last : Arguments N T C)
      → said_in_arguments said (snoc_arguments es last)
      ≡ said_in_arguments said es ++ said_in_arguments said last
  arguments_told no_arguments last = refl
  arguments_told (arguments label one rest) last =
      added_behind (said_in said one) (said_in_arguments said rest) (said_in_arguments said last) _
      (arguments_told rest last)

  pub statements_told : (b : Statements N T C) (s : Statement N T C)
      → said_in_block said (snoc_statements b s) ≡ said_in_block said b ++ said_in_statement said s
  statements_told no_statements s = append-nil (said_in_statement said s)
  statements_told (statements one rest) s =
      added_behind (said_in_statement said one) (said_in_block said rest) (said_in_statement said s) _
      (statements_told rest s)

  pub branches_told : (all last : Branches N T C)
      → said_in_branches said (snoc_branches all last)
      ≡ said_in_branches said all ++ said_in_branches said last
  branches_told no_branches last = refl
  branches_told (branches e b rest) last =
      added_behind (said_in said e ++ said_in_block said b) (said_in_branches said rest)
      (said_in_branches said last) _ (branches_told rest last)

  pub arms_told : (all last : Arms N T C)
      → said_in_arms said (snoc_arms all last) ≡ said_in_arms said all ++ said_in_arms said last
  arms_told no_arms last = refl
  arms_told (arms at name binds b rest) last =
      added_behind (said_in_block said b) (said_in_arms said rest) (said_in_arms said last) _
      (arms_told rest last)

-- ---- items of a tree

abbrev TheSite : Type 0
TheSite = Site ClosedTrees Bytes found.ClosedNote Callee

abbrev TheIdent : Type 0
TheIdent = Ident ClosedTrees Bytes found.ClosedNote Callee

abbrev TheExpr : Type 0
TheExpr = Expr ClosedTrees Bytes found.ClosedNote Callee

abbrev TheArgument : Type 0
TheArgument = Argument ClosedTrees Bytes found.ClosedNote Callee

abbrev TheBind : Type 0
TheBind = Bind ClosedTrees Bytes found.ClosedNote Callee

abbrev TheNames : Type 0
TheNames = BorrowNames ClosedTrees Bytes found.ClosedNote Callee

abbrev TheBlock : Type 0
TheBlock = Block ClosedTrees Bytes found.ClosedNote Callee

abbrev TheBranch : Type 0
TheBranch = Branch ClosedTrees Bytes found.ClosedNote Callee

abbrev TheArm : Type 0
TheArm = Arm ClosedTrees Bytes found.ClosedNote Callee

abbrev TheBox : Type 0
TheBox = Box TheExpr Global

-- ---- what is said of each form

module _ {A : Type 0} (said : ClosedNote → List A) where
  pub number_said : (s : TheSite) (l : Literal)
      → said_in said (expression closed (expr.Number s l))
      ≡ said (node closed s).note
  number_said s l = ap (said_in said) (exprs.number_says closed s l)

  pub negative_said : (s : TheSite) (l : Literal)
      → said_in said (expression closed (expr.Negative s l))
      ≡ said (node closed s).note
  negative_said s l = ap (said_in said) (exprs.negative_says closed s l)

  pub text_said : (s : TheSite) (t : List ℕ)
      → said_in said (expression closed (expr.Text s t))
      ≡ said (node closed s).note
  text_said s t = ap (said_in said) (exprs.text_says closed s t)

  pub bool_said : (s : TheSite) (b : Bool)
      → said_in said (expression closed (expr.Bool s b))
      ≡ said (node closed s).note
  bool_said s b = ap (said_in said) (exprs.bool_says closed s b)

  pub nil_said : (s : TheSite)
      → said_in said (expression closed (expr.Nil s))
      ≡ said (node closed s).note
  nil_said s = ap (said_in said) (exprs.nil_says closed s)

  pub path_said : (s : TheSite) (n : TheIdent) (fields : Vec TheIdent Global)
      → said_in said (expression closed (expr.Path s n fields))
      ≡ said (node closed s).note
  path_said s n fields = ap (said_in said) (exprs.path_says closed s n fields)

  pub arrow_said : (s : TheSite) (n : TheIdent) (fields : Vec TheIdent Global)
      → said_in said (expression closed (expr.Arrow s n fields))
      ≡ said (node closed s).note
  arrow_said s n fields = ap (said_in said) (exprs.arrow_says closed s n fields)

  pub call_said : (s : TheSite) (n : TheIdent) (args : Vec TheExpr Global) (note : Callee)
      → said_in said (expression closed (expr.Call s n args note))
      ≡ said (node closed s).note
      ++ said_in_all said (expression_all closed args.items)
  call_said s n args note = ap (said_in said) (exprs.call_says closed s n args note)

  pub named_call_said : (s : TheSite) (n : TheIdent) (args : Vec TheArgument Global) (note : Callee)
      → said_in said (expression closed (expr.NamedCall s n args note))
      ≡ said (node closed s).note
      ++ said_in_arguments said (argument_all closed args.items)
  named_call_said s n args note = ap (said_in said) (exprs.named_call_says closed s n args note)

  pub parenthesized_said : (s : TheSite) (e : TheBox)
      → said_in said (expression closed (expr.Parenthesized s e))
      ≡ said (node closed s).note ++ said_in said (expression closed e.value)
  parenthesized_said s e = ap (said_in said) (exprs.parenthesized_says closed s e)

  pub dereference_said : (s : TheSite) (e : TheBox)
      → said_in said (expression closed (expr.Dereference s e))
      ≡ said (node closed s).note ++ said_in said (expression closed e.value)
  dereference_said s e = ap (said_in said) (exprs.dereference_says closed s e)

  pub borrow_said : (s : TheSite) (m : BorrowMode) (n : TheIdent)
      → said_in said (expression closed (expr.Borrow s m n))
      ≡ said (node closed s).note
  borrow_said s m n = ap (said_in said) (exprs.borrow_says closed s m n)

  pub borrow_part_said : (s : TheSite) (n : TheIdent) (fields : Vec TheIdent Global)
      → said_in said (expression closed (expr.BorrowPart s n fields))
      ≡ said (node closed s).note
  borrow_part_said s n fields = ap (said_in said) (exprs.borrow_part_says closed s n fields)

  pub binary_said : (s : TheSite) (op : BinaryOperator) (a b : TheBox)
      → said_in said (expression closed (expr.Binary s op a b))
      ≡ said (node closed s).note ++ said_in said (expression closed a.value)
      ++ said_in said (expression closed b.value)
  binary_said s op a b = ap (said_in said) (exprs.binary_says closed s op a b)

  pub not_said : (s : TheSite) (e : TheBox)
      → said_in said (expression closed (expr.Not s e))
      ≡ said (node closed s).note ++ said_in said (expression closed e.value)
  not_said s e = ap (said_in said) (exprs.not_says closed s e)

  pub typed_said : (s : TheSite) (e : TheBox) (t : TypeText)
      → said_in said (expression closed (expr.Typed s e t))
      ≡ said (node closed s).note ++ said_in said (expression closed e.value)
  typed_said s e t = ap (said_in said) (exprs.typed_says closed s e t)

  pub if_said : (s : TheSite) (c a b : TheBox)
      → said_in said (expression closed (expr.If s c a b))
      ≡ said (node closed s).note ++ said_in said (expression closed c.value)
      ++ said_in said (expression closed a.value)
      ++ said_in said (expression closed b.value)
  if_said s c a b = ap (said_in said) (exprs.if_says closed s c a b)

  pub skip_statement_said : (at : Pos)
      → said_in_statement said (statement closed (stmt.Skip at))
      ≡ []
  skip_statement_said at = ap (said_in_statement said) (stmts.skip_says closed at)

  pub let_statement_said : (at : Pos) (b : Binding) (n : TheIdent) (t : TypeText) (e : TheBox)
      → said_in_statement said (statement closed (stmt.Let at b n t e))
      ≡ said_in said (expression closed e.value)
  let_statement_said at b n t e = ap (said_in_statement said) (stmts.let_says closed at b n t e)

  pub destructure_statement_said : (at : Pos) (binds : Vec TheBind Global) (e : TheBox)
      → said_in_statement said (statement closed (stmt.Destructure at binds e))
      ≡ said_in said (expression closed e.value)
  destructure_statement_said at binds e =
      ap (said_in_statement said) (stmts.destructure_says closed at binds e)

  pub assign_statement_said : (at : Pos) (n : TheIdent) (fields : Vec TheIdent Global) (e : TheBox)
      → said_in_statement said (statement closed (stmt.Assign at n fields e))
      ≡ said_in said (expression closed e.value)
  assign_statement_said at n fields e = ap (said_in_statement said) (stmts.assign_says closed at n fields e)

  pub assign_through_statement_said : (at : Pos) (n : TheIdent) (fields : Vec TheIdent Global) (e : TheBox)
      → said_in_statement said (statement closed (stmt.AssignThrough at n fields e))
      ≡ said_in said (expression closed e.value)
  assign_through_statement_said at n fields e =
      ap (said_in_statement said) (stmts.assign_through_says closed at n fields e)

  pub if_statement_said : (at : Pos) (bs : Vec TheBranch Global)
      → said_in_statement said (statement closed (stmt.If at bs))
      ≡ said_in_branches said (branch_all closed bs.items)
  if_statement_said at bs = ap (said_in_statement said) (stmts.if_says closed at bs)

  pub if_else_statement_said : (at : Pos) (bs : Vec TheBranch Global) (b : TheBlock)
      → said_in_statement said (statement closed (stmt.IfElse at bs b))
      ≡ said_in_branches said (branch_all closed bs.items) ++ said_in_block said (block closed b)
  if_else_statement_said at bs b = ap (said_in_statement said) (stmts.if_else_says closed at bs b)

  pub case_statement_said : (at : Pos) (e : TheBox) (all : Vec TheArm Global)
      → said_in_statement said (statement closed (stmt.Case at e all))
      ≡ said_in said (expression closed e.value) ++ said_in_arms said (arm_all closed all.items)
  case_statement_said at e all = ap (said_in_statement said) (stmts.case_says closed at e all)

  pub while_statement_said : (at : Pos) (e : TheBox) (b : TheBlock)
      → said_in_statement said (statement closed (stmt.While at e b))
      ≡ said_in said (expression closed e.value) ++ said_in_block said (block closed b)
  while_statement_said at e b = ap (said_in_statement said) (stmts.while_says closed at e b)

  pub for_statement_said : (at : Pos) (n : TheIdent) (a z : TheBox) (b : TheBlock)
      → said_in_statement said (statement closed (stmt.For at n a z b))
      ≡ said_in said (expression closed a.value) ++ said_in said (expression closed z.value)
      ++ said_in_block said (block closed b)
  for_statement_said at n a z b = ap (said_in_statement said) (stmts.for_says closed at n a z b)

  pub borrow_statement_said : (at : Pos) (access : Access) (ns : TheNames) (b : TheBlock) (stop : Pos)
      → said_in_statement said (statement closed (stmt.Borrow at access ns b stop))
      ≡ said_in_block said (block closed b)
  borrow_statement_said at access ns b stop =
      ap (said_in_statement said) (stmts.borrow_says closed at access ns b stop)

  pub borrow_typed_statement_said : (at : Pos) (r : TheIdent) (t : TypeText) (mode : BorrowMode)
      (x : TheIdent) (b : TheBlock) (stop : Pos)
      → said_in_statement said (statement closed (stmt.BorrowTyped at r t mode x b stop))
      ≡ said_in_block said (block closed b)
  borrow_typed_statement_said at r t mode x b stop =
      ap (said_in_statement said) (stmts.borrow_typed_says closed at r t mode x b stop)

  pub call_statement_said : (at : Pos) (e : TheBox)
      → said_in_statement said (statement closed (stmt.Call at e))
      ≡ said_in said (expression closed e.value)
  call_statement_said at e = ap (said_in_statement said) (stmts.call_says closed at e)

  pub return_statement_said : (at : Pos) (e : TheBox)
      → said_in_statement said (statement closed (stmt.Return at e))
      ≡ said_in said (expression closed e.value)
  return_statement_said at e = ap (said_in_statement said) (stmts.return_says closed at e)
