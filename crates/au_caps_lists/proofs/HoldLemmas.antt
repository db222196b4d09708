-- What the lists and each variant of statements hold.
use Rattle.std.proofs.Common.{◌≡◌, [], ◌++◌, Option, Vec, ap, map, refl}
use Rattle.std.specs.Global.{Global}
use Rattle.std.proofs.lemmas.List.{append-nil}
use Rattle.au_base.specs.declared.places.Pos.{Pos}
use Rattle.au_base.proofs.ListLemmas.{added_behind}
use Rattle.au_sights.specs.contracts.noted.NotedPhase.TheImpl.{ghosts as noted}
use Rattle.au_syntax.specs.declared.expressions.BorrowMode.{BorrowMode}
use Rattle.au_syntax.specs.declared.statements.Binding.{Binding}
use Rattle.au_syntax.specs.declared.statements.Stmt as stmt
use Rattle.au_syntax.specs.declared.types.Access.{Access}
use Rattle.au_syntax.specs.declared.types.TypeText.{TypeText}
use Rattle.au_syntax.specs.Plain.{Bytes}
use Rattle.au_syntax.specs.Statements.{no_statements, statements, no_branches, branches, no_arms, arms}
use Rattle.au_syntax.specs.Views.{arm_all, block, bound, branch_all, statement, written}
use Rattle.au_syntax.proofs.StatementLemmas as stmts
use Rattle.au_types.specs.Senses.{Sense}
use Rattle.au_typing.specs.Trees.{NotedArms, NotedBranches, NotedStatement, NotedStatements}
use Rattle.au_closed_trees.proofs.SnocLemmas.{snoc_arms, snoc_branches, snoc_statements}
use Rattle.au_caps_lists.specs.Holding.{held_in, held_in_arms, held_in_block, held_in_branches}
use Rattle.au_caps_lists.specs.Mentions.{bind_mentions, written_mentions}
use Rattle.au_caps_lists.proofs.TreeLemmas.{CodeArm, CodeBind, CodeBlock, CodeBox, CodeBranch, CodeIdent}
use Rattle.au_caps_lists.proofs.TreeLemmas.{CodeNames}

module _ (sense : Bytes → Option Sense) where
  pub statements_hold : (b : NotedStatements) (s : NotedStatement)
      → held_in_block sense (snoc_statements b s) ≡ held_in_block sense b ++ held_in sense s
  statements_hold no_statements s = append-nil (held_in sense s)
  statements_hold (statements one rest) s =
      added_behind (held_in sense one) (held_in_block sense rest) (held_in sense s) _ (statements_hold rest s)

  pub branches_hold : (all last : NotedBranches)
      → held_in_branches sense (snoc_branches all last)
      ≡ held_in_branches sense all ++ held_in_branches sense last
  branches_hold no_branches last = refl
  branches_hold (branches e b rest) last =
      added_behind (held_in_block sense b) (held_in_branches sense rest) (held_in_branches sense last) _
      (branches_hold rest last)

  pub arms_hold : (all last : NotedArms)
      → held_in_arms sense (snoc_arms all last) ≡ held_in_arms sense all ++ held_in_arms sense last
  arms_hold no_arms last = refl
  arms_hold (arms at name binds b rest) last =
      added_behind (bind_mentions sense binds ++ held_in_block sense b) (held_in_arms sense rest)
      (held_in_arms sense last) _ (arms_hold rest last)

  pub skip_holds : (at : Pos)
      → held_in sense (statement noted (stmt.Skip at))
      ≡ []
  skip_holds at = ap (held_in sense) (stmts.skip_says noted at)

  pub let_holds : (at : Pos) (b : Binding) (n : CodeIdent) (t : TypeText) (e : CodeBox)
      → held_in sense (statement noted (stmt.Let at b n t e))
      ≡ written_mentions sense (written t)
  let_holds at b n t e = ap (held_in sense) (stmts.let_says noted at b n t e)

  pub destructure_holds : (at : Pos) (binds : Vec CodeBind Global) (e : CodeBox)
      → held_in sense (statement noted (stmt.Destructure at binds e))
      ≡ bind_mentions sense (map (bound noted) binds.items)
  destructure_holds at binds e =
      ap (held_in sense) (stmts.destructure_says noted at binds e)

  pub assign_holds : (at : Pos) (n : CodeIdent) (fields : Vec CodeIdent Global) (e : CodeBox)
      → held_in sense (statement noted (stmt.Assign at n fields e))
      ≡ []
  assign_holds at n fields e = ap (held_in sense) (stmts.assign_says noted at n fields e)

  pub assign_through_holds : (at : Pos) (n : CodeIdent) (fields : Vec CodeIdent Global) (e : CodeBox)
      → held_in sense (statement noted (stmt.AssignThrough at n fields e))
      ≡ []
  assign_through_holds at n fields e =
      ap (held_in sense) (stmts.assign_through_says noted at n fields e)

  pub if_holds : (at : Pos) (bs : Vec CodeBranch Global)
      → held_in sense (statement noted (stmt.If at bs))
      ≡ held_in_branches sense (branch_all noted bs.items)
  if_holds at bs = ap (held_in sense) (stmts.if_says noted at bs)

  pub if_else_holds : (at : Pos) (bs : Vec CodeBranch Global) (b : CodeBlock)
      → held_in sense (statement noted (stmt.IfElse at bs b))
      ≡ held_in_branches sense (branch_all noted bs.items) ++ held_in_block sense (block noted b)
  if_else_holds at bs b = ap (held_in sense) (stmts.if_else_says noted at bs b)

  pub case_holds : (at : Pos) (e : CodeBox) (all : Vec CodeArm Global)
      → held_in sense (statement noted (stmt.Case at e all))
      ≡ held_in_arms sense (arm_all noted all.items)
  case_holds at e all = ap (held_in sense) (stmts.case_says noted at e all)

  pub while_holds : (at : Pos) (e : CodeBox) (b : CodeBlock)
      → held_in sense (statement noted (stmt.While at e b))
      ≡ held_in_block sense (block noted b)
  while_holds at e b = ap (held_in sense) (stmts.while_says noted at e b)

  pub for_holds : (at : Pos) (n : CodeIdent) (a z : CodeBox) (b : CodeBlock)
      → held_in sense (statement noted (stmt.For at n a z b))
      ≡ held_in_block sense (block noted b)
  for_holds at n a z b = ap (held_in sense) (stmts.for_says noted at n a z b)

  pub borrow_holds : (at : Pos) (access : Access) (ns : CodeNames) (b : CodeBlock) (stop : Pos)
      → held_in sense (statement noted (stmt.Borrow at access ns b stop))
      ≡ held_in_block sense (block noted b)
  borrow_holds at access ns b stop =
      ap (held_in sense) (stmts.borrow_says noted at access ns b stop)

  pub borrow_typed_holds : (at : Pos) (r : CodeIdent) (t : TypeText) (mode : BorrowMode)
      (x : CodeIdent) (b : CodeBlock) (stop : Pos)
      → held_in sense (statement noted (stmt.BorrowTyped at r t mode x b stop))
      ≡ written_mentions sense (written t) ++ held_in_block sense (block noted b)
  borrow_typed_holds at r t mode x b stop =
      ap (held_in sense) (stmts.borrow_typed_says noted at r t mode x b stop)

  pub call_holds : (at : Pos) (e : CodeBox)
      → held_in sense (statement noted (stmt.Call at e))
      ≡ []
  call_holds at e = ap (held_in sense) (stmts.call_says noted at e)

  pub return_holds : (at : Pos) (e : CodeBox)
      → held_in sense (statement noted (stmt.Return at e))
      ≡ []
  return_holds at e = ap (held_in sense) (stmts.return_says noted at e)
