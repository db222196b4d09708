-- What becomes of the lists and of the statements of a tree.
use Rattle.std.proofs.Common.{◌≡◌, ℕ, Bool, List, map, Vec, ap, ◌∙◌, sym, refl}
use Rattle.std.specs.Global.{Global}
use Rattle.std.specs.declared.boxed.Box.{Box}
use Rattle.au_base.specs.declared.places.Pos.{Pos}
use Rattle.au_sights.specs.contracts.noted.NotedPhase.TheImpl.{ghosts as noted}
use Rattle.au_sights.specs.declared.noted.Noted.{Noted}
use Rattle.au_sights.specs.declared.notes.Notes.{Notes}
use Rattle.au_syntax.specs.declared.expressions.Argument.{Argument}
use Rattle.au_syntax.specs.declared.expressions.BinaryOperator.{BinaryOperator}
use Rattle.au_syntax.specs.declared.expressions.BorrowMode.{BorrowMode}
use Rattle.au_syntax.specs.declared.expressions.Expr.{Expr}
use Rattle.au_syntax.specs.declared.expressions.Expr as expr
use Rattle.au_syntax.specs.declared.expressions.Literal.{Literal}
use Rattle.au_syntax.specs.declared.expressions.Site.{Site}
use Rattle.au_syntax.specs.declared.names.Bind.{Bind}
use Rattle.au_syntax.specs.declared.names.BorrowNames.{BorrowNames}
use Rattle.au_syntax.specs.declared.names.Ident.{Ident}
use Rattle.au_syntax.specs.declared.statements.Arm.{Arm}
use Rattle.au_syntax.specs.declared.statements.Binding.{Binding}
use Rattle.au_syntax.specs.declared.statements.Block.{Block}
use Rattle.au_syntax.specs.declared.statements.Branch.{Branch}
use Rattle.au_syntax.specs.declared.statements.Stmt.{Stmt}
use Rattle.au_syntax.specs.declared.statements.Stmt as code
use Rattle.au_syntax.specs.declared.types.Access.{Access}
use Rattle.au_syntax.specs.declared.types.TypeText.{TypeText}
use Rattle.au_syntax.specs.Expressions.{Expression, Expressions, Arguments, expressions, arguments}
use Rattle.au_syntax.specs.Expressions.{no_expressions, no_arguments, number, negative, text, truth, nil}
use Rattle.au_syntax.specs.Expressions.{path, arrow, call, named_call, parenthesized, dereference, borrow}
use Rattle.au_syntax.specs.Expressions.{borrow_part, binary, negation, typed, choice}
use Rattle.au_syntax.specs.Plain.{Bytes}
use Rattle.au_syntax.specs.Statements.{Statement, Statements, Branches, Arms, skip, declare, destructure}
use Rattle.au_syntax.specs.Statements.{assign, assign_through, conditional, case_of, discard, return_of}
use Rattle.au_syntax.specs.Statements.{conditional_else, while_loop, for_loop, borrow_in, borrow_typed}
use Rattle.au_syntax.specs.Statements.{statements, no_statements, branches, no_branches, arms, no_arms}
use Rattle.au_syntax.specs.Views.{argument_all, arm_all, block, bound, branch_all, expression, expression_all}
use Rattle.au_syntax.specs.Views.{node, placed, statement, written}
use Rattle.au_syntax.proofs.ExpressionLemmas as exprs
use Rattle.au_syntax.proofs.StatementLemmas as stmts
use Rattle.au_syntax.proofs.StatementLemmas.{if_else_says, while_says, for_says, borrow_says, borrow_typed_says}
use Rattle.au_sights.specs.Notes.{Note}
use Rattle.au_closed_trees.specs.contracts.phase.ClosedTreesPhase.TheImpl.{ghosts as closed}
use Rattle.au_closed_trees.specs.declared.notes.Callee as found_callee
use Rattle.au_closed_trees.specs.declared.notes.ClosedNote as found
use Rattle.au_closed_trees.specs.declared.phase.ClosedTrees.{ClosedTrees}
use Rattle.au_closed_trees.specs.Changes.{Change}
use Rattle.au_closed_trees.specs.ClosedNotes.{Callee, ClosedNote}
use Rattle.au_closed_trees.proofs.SnocLemmas.{one_argument, one_arm, one_branch, snoc_arguments, snoc_arms}
use Rattle.au_closed_trees.proofs.SnocLemmas.{snoc_branches, snoc_expressions, snoc_statements}
use Rattle.au_closed_trees.specs.Renoted.{arguments_renoted, arm_named, arms_renoted, block_renoted}
use Rattle.au_closed_trees.specs.Renoted.{branches_renoted, called, expression_renoted, expressions_renoted}
use Rattle.au_closed_trees.specs.Renoted.{mentioned, renoted, statement_renoted}

-- ---- one more behind others

module _ {N T C U D : Type 0} (change : Change N T C U D) where
  pub expressions_turn : (es : Expressions N T C) (e : Expression N T C)
      → expressions_renoted change (snoc_expressions es e)
      ≡ snoc_expressions (expressions_renoted change es) (expression_renoted change e)
  expressions_turn no_expressions e = refl
  expressions_turn (expressions one rest) e =
      ap (expressions (expression_renoted change one)) (expressions_turn rest e)

  pub arguments_turn : (es last : Arguments N T C)
      → arguments_renoted change (snoc_arguments es last)
      ≡ snoc_arguments (arguments_renoted change es) (arguments_renoted change last)
  arguments_turn no_arguments last = refl
  arguments_turn (arguments label one rest) last =
      ap (arguments label (expression_renoted change one)) (arguments_turn rest last)

  pub statements_turn : (b : Statements N T C) (s : Statement N T C)
      → block_renoted change (snoc_statements b s)
      ≡ snoc_statements (block_renoted change b) (statement_renoted change s)
  statements_turn no_statements s = refl
  statements_turn (statements one rest) s =
      ap (statements (statement_renoted change one)) (statements_turn rest s)

  pub branches_turn : (all last : Branches N T C)
      → branches_renoted change (snoc_branches all last)
      ≡ snoc_branches (branches_renoted change all) (branches_renoted change last)
  branches_turn no_branches last = refl
  branches_turn (branches e b rest) last =
      ap (branches (expression_renoted change e) (block_renoted change b)) (branches_turn rest last)

  pub arms_turn : (all last : Arms N T C)
      → arms_renoted change (snoc_arms all last)
      ≡ snoc_arms (arms_renoted change all) (arms_renoted change last)
  arms_turn no_arms last = refl
  arms_turn (arms at name binds b rest) last =
      ap (arms at (arm_named change name) binds (block_renoted change b)) (arms_turn rest last)

-- ---- items of a tree

abbrev pub Old : Type 0
Old = Stmt Noted Bytes Notes (Unit {0})

abbrev pub OldBox : Type 0
OldBox = Box (Expr Noted Bytes Notes (Unit {0})) Global

abbrev pub OldBlock : Type 0
OldBlock = Block Noted Bytes Notes (Unit {0})

abbrev pub OldSite : Type 0
OldSite = Site Noted Bytes Notes (Unit {0})

abbrev pub OldExpr : Type 0
OldExpr = Expr Noted Bytes Notes (Unit {0})

abbrev pub OldArgument : Type 0
OldArgument = Argument Noted Bytes Notes (Unit {0})

abbrev pub OldBranch : Type 0
OldBranch = Branch Noted Bytes Notes (Unit {0})

abbrev pub OldArm : Type 0
OldArm = Arm Noted Bytes Notes (Unit {0})

abbrev pub OldBind : Type 0
OldBind = Bind Noted Bytes Notes (Unit {0})

abbrev pub OldIdent : Type 0
OldIdent = Ident Noted Bytes Notes (Unit {0})

abbrev pub OldNames : Type 0
OldNames = BorrowNames Noted Bytes Notes (Unit {0})

abbrev pub NewBox : Type 0
NewBox = Box (Expr ClosedTrees Bytes found.ClosedNote found_callee.Callee) Global

abbrev pub NewBlock : Type 0
NewBlock = Block ClosedTrees Bytes found.ClosedNote found_callee.Callee

abbrev pub NewIdent : Type 0
NewIdent = Ident ClosedTrees Bytes found.ClosedNote found_callee.Callee

module _ (change : Change Bytes Note (Unit {0}) ClosedNote (Callee ℕ)) where
  -- a named argument, a branch and an arm are closed where their parts are
  pub argument_closed : (new : Argument ClosedTrees Bytes found.ClosedNote found_callee.Callee)
      (old : Argument Noted Bytes Notes (Unit {0}))
      → placed closed new.label ≡ placed noted old.label
      → expression closed new.value ≡ expression_renoted change (expression noted old.value)
      → one_argument closed new ≡ arguments_renoted change (one_argument noted old)
  argument_closed new old label value =
      ap (λ l. arguments l (expression closed new.value) no_arguments) label
      ∙ ap (λ e. arguments (placed noted old.label) e no_arguments) value

  pub branch_closed : (new : Branch ClosedTrees Bytes found.ClosedNote found_callee.Callee)
      (old : Branch Noted Bytes Notes (Unit {0}))
      → expression closed new.test.value ≡ expression_renoted change (expression noted old.test.value)
      → block closed new.block ≡ block_renoted change (block noted old.block)
      → one_branch closed new ≡ branches_renoted change (one_branch noted old)
  branch_closed new old test same =
      ap (λ e. branches e (block closed new.block) no_branches) test
      ∙ ap (λ b. branches (expression_renoted change (expression noted old.test.value)) b no_branches) same

  pub arm_closed : (new : Arm ClosedTrees Bytes found.ClosedNote found_callee.Callee)
      (old : Arm Noted Bytes Notes (Unit {0}))
      → new.at ≡ old.at
      → placed closed new.case ≡ arm_named change (placed noted old.case)
      → map (bound closed) new.binds.items ≡ map (bound noted) old.binds.items
      → block closed new.block ≡ block_renoted change (block noted old.block)
      → one_arm closed new ≡ arms_renoted change (one_arm noted old)
  arm_closed new old at name binds same =
      ap
      (λ a. arms a (placed closed new.case) (map (bound closed) new.binds.items) (block closed new.block)
      no_arms)
      at
      ∙ ap (λ n. arms old.at n (map (bound closed) new.binds.items) (block closed new.block) no_arms) name
      ∙ ap (λ bs. arms old.at (arm_named change (placed noted old.case)) bs (block closed new.block) no_arms)
      binds
      ∙ ap
      (λ b. arms old.at (arm_named change (placed noted old.case)) (map (bound noted) old.binds.items) b no_arms)
      same

  -- what becomes of what an expression or a statement says, variant by variant
  pub number_becomes : (s : OldSite) (l : Literal)
      → expression_renoted change (expression noted (expr.Number s l))
      ≡ number (renoted change (node noted s)) l
  number_becomes s l = ap (expression_renoted change) (exprs.number_says noted s l)

  pub negative_becomes : (s : OldSite) (l : Literal)
      → expression_renoted change (expression noted (expr.Negative s l))
      ≡ negative (renoted change (node noted s)) l
  negative_becomes s l = ap (expression_renoted change) (exprs.negative_says noted s l)

  pub text_becomes : (s : OldSite) (t : List ℕ)
      → expression_renoted change (expression noted (expr.Text s t))
      ≡ text (renoted change (node noted s)) t
  text_becomes s t = ap (expression_renoted change) (exprs.text_says noted s t)

  pub bool_becomes : (s : OldSite) (b : Bool)
      → expression_renoted change (expression noted (expr.Bool s b))
      ≡ truth (renoted change (node noted s)) b
  bool_becomes s b = ap (expression_renoted change) (exprs.bool_says noted s b)

  pub nil_becomes : (s : OldSite)
      → expression_renoted change (expression noted (expr.Nil s))
      ≡ nil (renoted change (node noted s))
  nil_becomes s = ap (expression_renoted change) (exprs.nil_says noted s)

  pub path_becomes : (s : OldSite) (n : OldIdent) (fields : Vec OldIdent Global)
      → expression_renoted change (expression noted (expr.Path s n fields))
      ≡ path (mentioned change (node noted s) (placed noted n)) (placed noted n)
      (map (placed noted) fields.items)
  path_becomes s n fields = ap (expression_renoted change) (exprs.path_says noted s n fields)

  pub arrow_becomes : (s : OldSite) (n : OldIdent) (fields : Vec OldIdent Global)
      → expression_renoted change (expression noted (expr.Arrow s n fields))
      ≡ arrow (renoted change (node noted s)) (placed noted n) (map (placed noted) fields.items)
  arrow_becomes s n fields = ap (expression_renoted change) (exprs.arrow_says noted s n fields)

  pub call_becomes : (s : OldSite) (n : OldIdent) (args : Vec OldExpr Global) (note : Unit {0})
      → expression_renoted change (expression noted (expr.Call s n args note))
      ≡ call (renoted change (node noted s)) (placed noted n)
      (expressions_renoted change (expression_all noted args.items))
      (called change (node noted s) (placed noted n) tt)
  call_becomes s n args note = ap (expression_renoted change) (exprs.call_says noted s n args note)

  pub named_call_becomes : (s : OldSite) (n : OldIdent) (args : Vec OldArgument Global) (note : Unit {0})
      → expression_renoted change (expression noted (expr.NamedCall s n args note))
      ≡ named_call (renoted change (node noted s)) (placed noted n)
      (arguments_renoted change (argument_all noted args.items))
      (called change (node noted s) (placed noted n) tt)
  named_call_becomes s n args note =
      ap (expression_renoted change) (exprs.named_call_says noted s n args note)

  pub parenthesized_becomes : (s : OldSite) (e : OldBox)
      → expression_renoted change (expression noted (expr.Parenthesized s e))
      ≡ parenthesized (renoted change (node noted s)) (expression_renoted change (expression noted e.value))
  parenthesized_becomes s e = ap (expression_renoted change) (exprs.parenthesized_says noted s e)

  pub dereference_becomes : (s : OldSite) (e : OldBox)
      → expression_renoted change (expression noted (expr.Dereference s e))
      ≡ dereference (renoted change (node noted s)) (expression_renoted change (expression noted e.value))
  dereference_becomes s e = ap (expression_renoted change) (exprs.dereference_says noted s e)

  pub borrow_becomes : (s : OldSite) (m : BorrowMode) (n : OldIdent)
      → expression_renoted change (expression noted (expr.Borrow s m n))
      ≡ borrow (renoted change (node noted s)) m (placed noted n)
  borrow_becomes s m n = ap (expression_renoted change) (exprs.borrow_says noted s m n)

  pub borrow_part_becomes : (s : OldSite) (n : OldIdent) (fields : Vec OldIdent Global)
      → expression_renoted change (expression noted (expr.BorrowPart s n fields))
      ≡ borrow_part (renoted change (node noted s)) (placed noted n) (map (placed noted) fields.items)
  borrow_part_becomes s n fields = ap (expression_renoted change) (exprs.borrow_part_says noted s n fields)

  pub binary_becomes : (s : OldSite) (op : BinaryOperator) (a b : OldBox)
      → expression_renoted change (expression noted (expr.Binary s op a b))
      ≡ binary (renoted change (node noted s)) op (expression_renoted change (expression noted a.value))
      (expression_renoted change (expression noted b.value))
  binary_becomes s op a b = ap (expression_renoted change) (exprs.binary_says noted s op a b)

  pub not_becomes : (s : OldSite) (e : OldBox)
      → expression_renoted change (expression noted (expr.Not s e))
      ≡ negation (renoted change (node noted s)) (expression_renoted change (expression noted e.value))
  not_becomes s e = ap (expression_renoted change) (exprs.not_says noted s e)

  pub typed_becomes : (s : OldSite) (e : OldBox) (t : TypeText)
      → expression_renoted change (expression noted (expr.Typed s e t))
      ≡ typed (renoted change (node noted s)) (expression_renoted change (expression noted e.value))
      (written t)
  typed_becomes s e t = ap (expression_renoted change) (exprs.typed_says noted s e t)

  pub if_becomes : (s : OldSite) (c a b : OldBox)
      → expression_renoted change (expression noted (expr.If s c a b))
      ≡ choice (renoted change (node noted s)) (expression_renoted change (expression noted c.value))
      (expression_renoted change (expression noted a.value))
      (expression_renoted change (expression noted b.value))
  if_becomes s c a b = ap (expression_renoted change) (exprs.if_says noted s c a b)

  pub let_statement_becomes : (at : Pos) (b : Binding) (n : OldIdent) (t : TypeText) (e : OldBox)
      → statement_renoted change (statement noted (code.Let at b n t e))
      ≡ declare at b (placed noted n) (written t) (expression_renoted change (expression noted e.value))
  let_statement_becomes at b n t e = ap (statement_renoted change) (stmts.let_says noted at b n t e)

  pub destructure_statement_becomes : (at : Pos) (binds : Vec OldBind Global) (e : OldBox)
      → statement_renoted change (statement noted (code.Destructure at binds e))
      ≡ destructure at (map (bound noted) binds.items) (expression_renoted change (expression noted e.value))
  destructure_statement_becomes at binds e =
      ap (statement_renoted change) (stmts.destructure_says noted at binds e)

  pub assign_statement_becomes : (at : Pos) (n : OldIdent) (fields : Vec OldIdent Global) (e : OldBox)
      → statement_renoted change (statement noted (code.Assign at n fields e))
      ≡ assign at (placed noted n) (map (placed noted) fields.items)
      (expression_renoted change (expression noted e.value))
  assign_statement_becomes at n fields e =
      ap (statement_renoted change) (stmts.assign_says noted at n fields e)

  pub assign_through_statement_becomes : (at : Pos) (n : OldIdent) (fields : Vec OldIdent Global) (e : OldBox)
      → statement_renoted change (statement noted (code.AssignThrough at n fields e))
      ≡ assign_through at (placed noted n) (map (placed noted) fields.items)
      (expression_renoted change (expression noted e.value))
  assign_through_statement_becomes at n fields e =
      ap (statement_renoted change) (stmts.assign_through_says noted at n fields e)

  pub if_statement_becomes : (at : Pos) (bs : Vec OldBranch Global)
      → statement_renoted change (statement noted (code.If at bs))
      ≡ conditional at (branches_renoted change (branch_all noted bs.items))
  if_statement_becomes at bs = ap (statement_renoted change) (stmts.if_says noted at bs)

  pub case_statement_becomes : (at : Pos) (e : OldBox) (all : Vec OldArm Global)
      → statement_renoted change (statement noted (code.Case at e all))
      ≡ case_of at (expression_renoted change (expression noted e.value))
      (arms_renoted change (arm_all noted all.items))
  case_statement_becomes at e all = ap (statement_renoted change) (stmts.case_says noted at e all)

  pub call_statement_becomes : (at : Pos) (e : OldBox)
      → statement_renoted change (statement noted (code.Call at e))
      ≡ discard at (expression_renoted change (expression noted e.value))
  call_statement_becomes at e = ap (statement_renoted change) (stmts.call_says noted at e)

  pub return_statement_becomes : (at : Pos) (e : OldBox)
      → statement_renoted change (statement noted (code.Return at e))
      ≡ return_of at (expression_renoted change (expression noted e.value))
  return_statement_becomes at e = ap (statement_renoted change) (stmts.return_says noted at e)

  pub skip_statement_becomes : (at : Pos)
      → statement_renoted change (statement noted (code.Skip at))
      ≡ skip at
  skip_statement_becomes at = ap (statement_renoted change) (stmts.skip_says noted at)

  -- what becomes of what a statement says
  becomes : (old s : Old) (says : Statement Bytes Note (Unit {0})) → old ≡ s → statement noted s ≡ says
      → statement_renoted change says ≡ statement_renoted change (statement noted old)
  becomes old s says is said =
      sym (ap (λ x. statement_renoted change (statement noted x)) is ∙ ap (statement_renoted change) said)

  -- statements with a block are closed where their parts are
  pub if_else_closed : (old : Old) (at : Pos) (bs : Vec (Branch Noted Bytes Notes (Unit {0})) Global)
      (new : Vec (Branch ClosedTrees Bytes found.ClosedNote found_callee.Callee) Global)
      (b : OldBlock) (b' : NewBlock)
      → old ≡ code.IfElse at bs b
      → branch_all closed new.items ≡ branches_renoted change (branch_all noted bs.items)
      → block closed b' ≡ block_renoted change (block noted b)
      → statement closed (code.IfElse at new b') ≡ statement_renoted change (statement noted old)
  if_else_closed old at bs new b b' is tests same =
      if_else_says closed at new b'
      ∙ ap (λ rest. conditional_else at rest (block closed b')) tests
      ∙ ap (conditional_else at (branches_renoted change (branch_all noted bs.items))) same
      ∙ becomes old _ _ is (if_else_says noted at bs b)

  pub while_closed : (old : Old) (at : Pos) (e : OldBox) (e' : NewBox) (b : OldBlock) (b' : NewBlock)
      → old ≡ code.While at e b
      → expression closed e'.value ≡ expression_renoted change (expression noted e.value)
      → block closed b' ≡ block_renoted change (block noted b)
      → statement closed (code.While at e' b') ≡ statement_renoted change (statement noted old)
  while_closed old at e e' b b' is test same =
      while_says closed at e' b'
      ∙ ap (λ x. while_loop at x (block closed b')) test
      ∙ ap (while_loop at (expression_renoted change (expression noted e.value))) same
      ∙ becomes old _ _ is (while_says noted at e b)

  pub for_closed : (old : Old) (at : Pos) (n : OldIdent) (n' : NewIdent) (a : OldBox) (a' : NewBox)
      (z : OldBox) (z' : NewBox) (b : OldBlock) (b' : NewBlock)
      → old ≡ code.For at n a z b
      → placed closed n' ≡ placed noted n
      → expression closed a'.value ≡ expression_renoted change (expression noted a.value)
      → expression closed z'.value ≡ expression_renoted change (expression noted z.value)
      → block closed b' ≡ block_renoted change (block noted b)
      → statement closed (code.For at n' a' z' b') ≡ statement_renoted change (statement noted old)
  for_closed old at n n' a a' z z' b b' is name first last same =
      for_says closed at n' a' z' b'
      ∙ ap (λ m. for_loop at m (expression closed a'.value) (expression closed z'.value) (block closed b'))
      name
      ∙ ap (λ e. for_loop at (placed noted n) e (expression closed z'.value) (block closed b')) first
      ∙ ap
      (λ e. for_loop at (placed noted n) (expression_renoted change (expression noted a.value)) e
      (block closed b'))
      last
      ∙ ap
      (for_loop at (placed noted n) (expression_renoted change (expression noted a.value))
      (expression_renoted change (expression noted z.value)))
      same
      ∙ becomes old _ _ is (for_says noted at n a z b)

  pub borrow_closed : (old : Old) (at : Pos) (access : Access) (n : BorrowNames Noted Bytes Notes (Unit {0}))
      (n' : BorrowNames ClosedTrees Bytes found.ClosedNote found_callee.Callee)
      (b : OldBlock) (b' : NewBlock) (stop : Pos)
      → old ≡ code.Borrow at access n b stop
      → placed closed n'.variable ≡ placed noted n.variable
      → placed closed n'.reference ≡ placed noted n.reference
      → placed closed n'.region ≡ placed noted n.region
      → block closed b' ≡ block_renoted change (block noted b)
      → statement closed (code.Borrow at access n' b' stop) ≡ statement_renoted change (statement noted old)
  borrow_closed old at access n n' b b' stop is variable reference region same =
      borrow_says closed at access n' b' stop
      ∙ ap
      (λ m. borrow_in at access m (placed closed n'.reference) (placed closed n'.region) (block closed b')
      stop)
      variable
      ∙ ap
      (λ m. borrow_in at access (placed noted n.variable) m (placed closed n'.region) (block closed b') stop)
      reference
      ∙ ap
      (λ m. borrow_in at access (placed noted n.variable) (placed noted n.reference) m (block closed b') stop)
      region
      ∙ ap
      (λ ss. borrow_in at access (placed noted n.variable) (placed noted n.reference) (placed noted n.region)
      ss stop)
      same
      ∙ becomes old _ _ is (borrow_says noted at access n b stop)

  pub borrow_typed_closed : (old : Old) (at : Pos) (r : OldIdent) (r' : NewIdent) (t t' : TypeText)
      (mode : BorrowMode) (x : OldIdent) (x' : NewIdent) (b : OldBlock) (b' : NewBlock) (stop : Pos)
      → old ≡ code.BorrowTyped at r t mode x b stop
      → placed closed r' ≡ placed noted r
      → written t' ≡ written t
      → placed closed x' ≡ placed noted x
      → block closed b' ≡ block_renoted change (block noted b)
      → statement closed (code.BorrowTyped at r' t' mode x' b' stop)
      ≡ statement_renoted change (statement noted old)
  borrow_typed_closed old at r r' t t' mode x x' b b' stop is name says variable same =
      borrow_typed_says closed at r' t' mode x' b' stop
      ∙ ap (λ m. borrow_typed at m (written t') mode (placed closed x') (block closed b') stop) name
      ∙ ap (λ w. borrow_typed at (placed noted r) w mode (placed closed x') (block closed b') stop) says
      ∙ ap (λ m. borrow_typed at (placed noted r) (written t) mode m (block closed b') stop) variable
      ∙ ap (λ ss. borrow_typed at (placed noted r) (written t) mode (placed noted x) ss stop) same
      ∙ becomes old _ _ is (borrow_typed_says noted at r t mode x b stop)
