-- Statements and declarations with a block in two phases, part by part.
use Rattle.std.proofs.Common.{◌≡◌, map, Vec, ap, ◌∙◌, sym}
use Rattle.std.specs.Global.{Global}
use Rattle.std.specs.declared.boxed.Box.{Box}
use Rattle.au_base.specs.declared.places.Pos.{Pos}
use Rattle.au_syntax.specs.declared.phases.Phase as phase
use Rattle.au_syntax.specs.declared.types.Access.{Access}
use Rattle.au_syntax.specs.declared.types.TypeText.{TypeText}
use Rattle.au_syntax.specs.declared.names.BorrowNames.{BorrowNames}
use Rattle.au_syntax.specs.declared.names.Ident.{Ident}
use Rattle.au_syntax.specs.declared.names.Bind.{Bind}
use Rattle.au_syntax.specs.declared.expressions.BorrowMode.{BorrowMode}
use Rattle.au_syntax.specs.declared.expressions.Expr.{Expr}
use Rattle.au_syntax.specs.declared.statements.Arm.{Arm}
use Rattle.au_syntax.specs.declared.statements.Block.{Block}
use Rattle.au_syntax.specs.declared.statements.Branch.{Branch}
use Rattle.au_syntax.specs.declared.statements.Stmt.{Stmt}
use Rattle.au_syntax.specs.declared.statements.Stmt as code
use Rattle.au_syntax.specs.declared.declarations.Generic.{Generic}
use Rattle.au_syntax.specs.declared.declarations.Signature.{Signature}
use Rattle.au_syntax.specs.declared.declarations.Decl.{Decl}
use Rattle.au_syntax.specs.declared.declarations.Decl.TheVariants as decl
use Rattle.au_syntax.specs.Statements.{destructure, conditional_else, while_loop, for_loop, borrow_in}
use Rattle.au_syntax.specs.Statements.{borrow_typed, no_branches, branches, no_arms, arms}
use Rattle.au_syntax.specs.Modules.{function_body}
use Rattle.au_syntax.specs.Views.{written, placed, bound, expression, statement, block, branch_all}
use Rattle.au_syntax.specs.Views.{constrained, header, declaration}
use Rattle.au_syntax.proofs.StatementLemmas.{one_branch, one_arm, if_else_says, while_says}
use Rattle.au_syntax.proofs.StatementLemmas.{skip_says, destructure_says, for_says, borrow_says}
use Rattle.au_syntax.proofs.StatementLemmas.{borrow_typed_says}
use Rattle.au_syntax.proofs.DeclarationLemmas.{function_body_says}
use Rattle.au_mapping.specs.declared.walks.Walk.{Ghosts}
use Rattle.au_mapping.specs.Seen.{before, after}

module _ {W X N T C Y M U D : Type 0} (w : Ghosts W X Y N T C M U D) where
  abbrev n : phase.Ghosts Y M U D
  n = after w

  abbrev o : phase.Ghosts X N T C
  o = before w

  pub branch_walked : (new : Branch Y M U D) (old : Branch X N T C) →
      expression n new.test.value ≡ expression o old.test.value → block n new.block ≡ block o old.block →
      one_branch n new ≡ one_branch o old
  branch_walked new old test same =
      ap (λ e. branches e (block n new.block) no_branches) test
      ∙ ap (λ b. branches (expression o old.test.value) b no_branches) same

  pub arm_walked : (new : Arm Y M U D) (old : Arm X N T C) → new.at ≡ old.at →
      placed n new.case ≡ placed o old.case → map (bound n) new.binds.items ≡ map (bound o) old.binds.items →
      block n new.block ≡ block o old.block → one_arm n new ≡ one_arm o old
  arm_walked new old at name binds same =
      ap (λ a. arms a (placed n new.case) (map (bound n) new.binds.items) (block n new.block) no_arms) at
      ∙ ap (λ x. arms old.at x (map (bound n) new.binds.items) (block n new.block) no_arms) name
      ∙ ap (λ bs. arms old.at (placed o old.case) bs (block n new.block) no_arms) binds
      ∙ ap (λ b. arms old.at (placed o old.case) (map (bound o) old.binds.items) b no_arms) same

  pub if_else_walked : (old : Stmt X N T C) (at : Pos) (bs : Vec (Branch X N T C) Global)
      (bs' : Vec (Branch Y M U D) Global) (b : Block X N T C) (b' : Block Y M U D) →
      old ≡ code.IfElse at bs b → branch_all n bs'.items ≡ branch_all o bs.items → block n b' ≡ block o b →
      statement n (code.IfElse at bs' b') ≡ statement o old
  if_else_walked old at bs bs' b b' is rest same =
      if_else_says n at bs' b'
      ∙ ap (λ x. conditional_else at x (block n b')) rest
      ∙ ap (conditional_else at (branch_all o bs.items)) same
      ∙ sym (ap (statement o) is ∙ if_else_says o at bs b)

  pub skip_walked : (old : Stmt X N T C) (at : Pos) → old ≡ code.Skip at →
      statement n (code.Skip at) ≡ statement o old
  skip_walked old at is = skip_says n at ∙ sym (ap (statement o) is ∙ skip_says o at)

  pub destructure_walked : (old : Stmt X N T C) (at : Pos) (bs : Vec (Bind X N T C) Global)
      (bs' : Vec (Bind Y M U D) Global) (e : Box (Expr X N T C) Global) (e' : Box (Expr Y M U D) Global) →
      old ≡ code.Destructure at bs e → map (bound n) bs'.items ≡ map (bound o) bs.items →
      expression n e'.value ≡ expression o e.value → statement n (code.Destructure at bs' e')
      ≡ statement o old
  destructure_walked old at bs bs' e e' is first second =
      destructure_says n at bs' e'
      ∙ ap (λ x. destructure at x (expression n e'.value)) first
      ∙ ap (destructure at (map (bound o) bs.items)) second
      ∙ sym (ap (statement o) is ∙ destructure_says o at bs e)

  pub while_walked : (at : Pos) (e : Box (Expr X N T C) Global) (e' : Box (Expr Y M U D) Global)
      (b : Block X N T C) (b' : Block Y M U D) →
      expression n e'.value ≡ expression o e.value → block n b' ≡ block o b →
      statement n (code.While at e' b') ≡ statement o (code.While at e b)
  while_walked at e e' b b' test same =
      while_says n at e' b'
      ∙ ap (λ x. while_loop at x (block n b')) test
      ∙ ap (while_loop at (expression o e.value)) same
      ∙ sym (while_says o at e b)

  pub for_walked : (at : Pos) (x : Ident X N T C) (x' : Ident Y M U D)
      (a : Box (Expr X N T C) Global) (a' : Box (Expr Y M U D) Global)
      (z : Box (Expr X N T C) Global) (z' : Box (Expr Y M U D) Global) (b : Block X N T C)
      (b' : Block Y M U D) →
      placed n x' ≡ placed o x → expression n a'.value ≡ expression o a.value →
      expression n z'.value ≡ expression o z.value → block n b' ≡ block o b →
      statement n (code.For at x' a' z' b') ≡ statement o (code.For at x a z b)
  for_walked at x x' a a' z z' b b' name first last same =
      for_says n at x' a' z' b'
      ∙ ap (λ y. for_loop at y (expression n a'.value) (expression n z'.value) (block n b')) name
      ∙ ap (λ e. for_loop at (placed o x) e (expression n z'.value) (block n b')) first
      ∙ ap (λ e. for_loop at (placed o x) (expression o a.value) e (block n b')) last
      ∙ ap (for_loop at (placed o x) (expression o a.value) (expression o z.value)) same
      ∙ sym (for_says o at x a z b)

  pub borrow_walked : (at : Pos) (access : Access) (ns : BorrowNames X N T C) (ns' : BorrowNames Y M U D)
      (b : Block X N T C) (b' : Block Y M U D) (stop : Pos) →
      placed n ns'.variable ≡ placed o ns.variable → placed n ns'.reference ≡ placed o ns.reference →
      placed n ns'.region ≡ placed o ns.region → block n b' ≡ block o b →
      statement n (code.Borrow at access ns' b' stop) ≡ statement o (code.Borrow at access ns b stop)
  borrow_walked at access ns ns' b b' stop variable reference region same =
      borrow_says n at access ns' b' stop
      ∙ ap (λ x. borrow_in at access x (placed n ns'.reference) (placed n ns'.region) (block n b') stop)
      variable
      ∙ ap (λ x. borrow_in at access (placed o ns.variable) x (placed n ns'.region) (block n b') stop)
      reference
      ∙ ap (λ x. borrow_in at access (placed o ns.variable) (placed o ns.reference) x (block n b') stop)
      region
      ∙ ap (λ x. borrow_in at access (placed o ns.variable) (placed o ns.reference) (placed o ns.region)
      x stop)
      same
      ∙ sym (borrow_says o at access ns b stop)

  pub borrow_typed_walked : (at : Pos) (r : Ident X N T C) (r' : Ident Y M U D) (t t' : TypeText)
      (mode : BorrowMode) (x : Ident X N T C) (x' : Ident Y M U D) (b : Block X N T C) (b' : Block Y M U D)
      (stop : Pos) →
      placed n r' ≡ placed o r → written t' ≡ written t → placed n x' ≡ placed o x → block n b' ≡ block o b →
      statement n (code.BorrowTyped at r' t' mode x' b' stop)
      ≡ statement o (code.BorrowTyped at r t mode x b stop)
  borrow_typed_walked at r r' t t' mode x x' b b' stop name text variable same =
      borrow_typed_says n at r' t' mode x' b' stop
      ∙ ap (λ y. borrow_typed at y (written t') mode (placed n x') (block n b') stop) name
      ∙ ap (λ w. borrow_typed at (placed o r) w mode (placed n x') (block n b') stop) text
      ∙ ap (λ y. borrow_typed at (placed o r) (written t) mode y (block n b') stop) variable
      ∙ ap (λ y. borrow_typed at (placed o r) (written t) mode (placed o x) y stop) same
      ∙ sym (borrow_typed_says o at r t mode x b stop)

  pub function_body_walked : (old : Decl X N T C) (at : Pos) (gs : Vec (Generic X N T C) Global)
      (gs' : Vec (Generic Y M U D) Global) (s : Signature X N T C) (s' : Signature Y M U D)
      (b : Block X N T C) (b' : Block Y M U D) (stop : Pos) →
      old ≡ decl.FunctionBody at gs s b stop → map (constrained n) gs'.items ≡ map (constrained o) gs.items →
      header n s' ≡ header o s → block n b' ≡ block o b →
      declaration n (decl.FunctionBody at gs' s' b' stop) ≡ declaration o old
  function_body_walked old at gs gs' s s' b b' stop is generics signature same =
      function_body_says n at gs' s' b' stop
      ∙ ap (λ ps. function_body at ps (header n s') (block n b') stop) generics
      ∙ ap (λ h. function_body at (map (constrained o) gs.items) h (block n b') stop) signature
      ∙ ap (λ ss. function_body at (map (constrained o) gs.items) (header o s) ss stop) same
      ∙ sym (ap (declaration o) is ∙ function_body_says o at gs s b stop)
