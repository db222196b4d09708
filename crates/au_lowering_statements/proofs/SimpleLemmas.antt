-- The code of statements that hold no block, variant by variant; which statements have none there, and which
-- have all of theirs.
use Rattle.std.proofs.Common.{◌≡◌, ℕ, List, Vec, map, refl, sym, ap, ◌∙◌}
use Rattle.std.specs.Global.{Global}
use Rattle.au_base.specs.declared.places.Pos.{Pos}
use Rattle.au_closed_trees.specs.contracts.phase.ClosedTreesPhase.TheImpl.{ghosts as closed}
use Rattle.au_closed_trees.specs.ClosedNotes.{ClosedStatement}
use Rattle.au_closed_meanings.specs.Surroundings.{Surroundings, view_in}
use Rattle.au_low.specs.declared.instructions.Instr.TheVariants as instr
use Rattle.au_lowered.specs.Drafts.{Draft, Written, does, nothing}
use Rattle.au_lowered.specs.Expressions.{part_behind, part_of}
use Rattle.au_lowering_expressions.specs.Wrote.{wrote}
use Rattle.au_lowering_expressions.proofs.CodeLemmas.{ClosedBox, ClosedIdent, said_code}
use Rattle.au_lowering_expressions.proofs.WroteLemmas.{wrote_row}
use Rattle.au_lowering_statements.specs.Ends.{puts, sets}
use Rattle.au_lowering_statements.specs.Pieces.{simple}
use Rattle.au_lowering_statements.proofs.CodeLemmas.{ClosedArm, ClosedBind, ClosedBlock, ClosedBranch}
use Rattle.au_lowering_statements.proofs.CodeLemmas.{ClosedNames, ClosedStmt, said_statement, said_whole}
use Rattle.au_meaning.specs.Expressions.{names_of}
use Rattle.au_meaning.specs.Names.{Scope, variable_of}
use Rattle.au_syntax.specs.declared.expressions.BorrowMode.{BorrowMode}
use Rattle.au_syntax.specs.declared.statements.Binding.{Binding}
use Rattle.au_syntax.specs.declared.statements.Stmt as stmt
use Rattle.au_syntax.specs.declared.statements.Stmt.TheBlock.{backs-Stmt, shown-the_row-Arm-2}
use Rattle.au_syntax.specs.declared.statements.Stmt.TheBlock.{shown-the_row-Branch-1, shown-the_row-Stmt-0}
use Rattle.au_syntax.specs.declared.types.Access.{Access}
use Rattle.au_syntax.specs.declared.types.TypeText.{TypeText}
use Rattle.au_syntax.specs.Views.{placed, statement}
use Rattle.au_syntax.proofs.StatementLemmas as stmts

module _ (round : Surroundings) (around slot : ℕ) (scope : Scope) where
  -- the code of what a statement says, if it holds no block
  abbrev pub said_simple : ClosedStmt → Written
  said_simple s = simple (view_in round) around slot scope (statement closed s)

  says : (d : List Draft) (s : ClosedStmt) (form : ClosedStatement)
      → statement closed s ≡ form
      → wrote (said_simple s) d ≡ wrote (simple (view_in round) around slot scope form) d
  says d s form is = ap (λ x. wrote (simple (view_in round) around slot scope x) d) is

  module _ (d : List Draft) where
    pub let_code : (at : Pos) (b : Binding) (n : ClosedIdent) (t : TypeText) (e : ClosedBox)
        → wrote (said_simple (stmt.Let at b n t e)) d
        ≡ wrote (does (instr.Store slot)) (wrote (said_whole round around slot scope e.value) d)
    let_code at b n t e = says d _ _ (stmts.let_says closed at b n t e) ∙ wrote_row _ _ d

    pub destructure_code : (at : Pos) (bs : Vec ClosedBind Global) (e : ClosedBox)
        → wrote (said_simple (stmt.Destructure at bs e)) d
        ≡ wrote (does (instr.Take slot)) (wrote (said_whole round around slot scope e.value) d)
    destructure_code at bs e = says d _ _ (stmts.destructure_says closed at bs e) ∙ wrote_row _ _ d

    pub assign_code : (at : Pos) (n : ClosedIdent) (fields : Vec ClosedIdent Global) (e : ClosedBox)
        → wrote (said_simple (stmt.Assign at n fields e)) d
        ≡ wrote (part_of (view_in round) (variable_of scope (placed closed n).name)
        (names_of (map (placed closed) fields.items)) sets)
        (wrote (said_whole round around slot scope e.value) d)
    assign_code at n fields e = says d _ _ (stmts.assign_says closed at n fields e) ∙ wrote_row _ _ d

    pub assign_through_code : (at : Pos) (n : ClosedIdent) (fields : Vec ClosedIdent Global) (e : ClosedBox)
        → wrote (said_simple (stmt.AssignThrough at n fields e)) d
        ≡ wrote (part_behind (view_in round) (variable_of scope (placed closed n).name)
        (names_of (map (placed closed) fields.items)) puts)
        (wrote (said_whole round around slot scope e.value) d)
    assign_through_code at n fields e =
        says d _ _ (stmts.assign_through_says closed at n fields e) ∙ wrote_row _ _ d

    pub call_code : (at : Pos) (e : ClosedBox)
        → wrote (said_simple (stmt.Call at e)) d
        ≡ wrote (does instr.Discard) (wrote (said_whole round around slot scope e.value) d)
    call_code at e = says d _ _ (stmts.call_says closed at e) ∙ wrote_row _ _ d

    pub return_code : (at : Pos) (e : ClosedBox)
        → wrote (said_simple (stmt.Return at e)) d
        ≡ wrote (does instr.Return) (wrote (said_code round scope e.value) d)
    return_code at e = says d _ _ (stmts.return_says closed at e) ∙ wrote_row _ _ d

  -- a statement of none of these forms has no code here
  pub simple_none : (s : ClosedStmt)
      → ((at : Pos) (b : Binding) (n : ClosedIdent) (t : TypeText) (e : ClosedBox)
      → s ≡ stmt.Let at b n t e → ⊥)
      → ((at : Pos) (bs : Vec ClosedBind Global) (e : ClosedBox) → s ≡ stmt.Destructure at bs e → ⊥)
      → ((at : Pos) (n : ClosedIdent) (fields : Vec ClosedIdent Global) (e : ClosedBox)
      → s ≡ stmt.Assign at n fields e → ⊥)
      → ((at : Pos) (n : ClosedIdent) (fields : Vec ClosedIdent Global) (e : ClosedBox)
      → s ≡ stmt.AssignThrough at n fields e → ⊥)
      → ((at : Pos) (e : ClosedBox) → s ≡ stmt.Call at e → ⊥)
      → ((at : Pos) (e : ClosedBox) → s ≡ stmt.Return at e → ⊥)
      → said_simple s ≡ nothing
  unfolding statement
  simple_none (stmt.Let at b n t e) l d a h c r = absurd (l at b n t e refl)
  simple_none (stmt.Destructure at bs e) l d a h c r = absurd (d at bs e refl)
  simple_none (stmt.Assign at n fields e) l d a h c r = absurd (a at n fields e refl)
  simple_none (stmt.AssignThrough at n fields e) l d a h c r = absurd (h at n fields e refl)
  simple_none (stmt.Call at e) l d a h c r = absurd (c at e refl)
  simple_none (stmt.Return at e) l d a h c r = absurd (r at e refl)
  simple_none s l d a h c r = refl

  -- a statement of none of the forms with blocks has all of its code here
  pub simple_all : (s : ClosedStmt)
      → ((at : Pos) (bs : Vec ClosedBranch Global) → s ≡ stmt.If at bs → ⊥)
      → ((at : Pos) (bs : Vec ClosedBranch Global) (b : ClosedBlock) → s ≡ stmt.IfElse at bs b → ⊥)
      → ((at : Pos) (e : ClosedBox) (all : Vec ClosedArm Global) → s ≡ stmt.Case at e all → ⊥)
      → ((at : Pos) (e : ClosedBox) (b : ClosedBlock) → s ≡ stmt.While at e b → ⊥)
      → ((at : Pos) (n : ClosedIdent) (a z : ClosedBox) (b : ClosedBlock) → s ≡ stmt.For at n a z b → ⊥)
      → ((at : Pos) (access : Access) (ns : ClosedNames) (b : ClosedBlock) (stop : Pos)
      → s ≡ stmt.Borrow at access ns b stop → ⊥)
      → ((at : Pos) (r : ClosedIdent) (t : TypeText) (mode : BorrowMode) (x : ClosedIdent) (b : ClosedBlock)
      (stop : Pos) → s ≡ stmt.BorrowTyped at r t mode x b stop → ⊥)
      → said_simple s ≡ said_statement round around slot scope s
  unfolding statement
  simple_all (stmt.If' at shape bs) i e c w f b t =
      absurd (i at (shown-the_row-Branch-1 _ _ _ _ shape bs)
      (sym (backs-Stmt _ _ _ _ (stmt.If' at shape bs))))
  simple_all (stmt.IfElse' at shape bs shape' ss) i e c w f b t =
      absurd (e at (shown-the_row-Branch-1 _ _ _ _ shape bs)
      (record { statements = shown-the_row-Stmt-0 _ _ _ _ shape' ss })
      (sym (backs-Stmt _ _ _ _ (stmt.IfElse' at shape bs shape' ss))))
  simple_all (stmt.Case' at value shape as') i e c w f b t =
      absurd (c at value (shown-the_row-Arm-2 _ _ _ _ shape as')
      (sym (backs-Stmt _ _ _ _ (stmt.Case' at value shape as'))))
  simple_all (stmt.While' at test shape ss) i e c w f b t =
      absurd (w at test (record { statements = shown-the_row-Stmt-0 _ _ _ _ shape ss })
      (sym (backs-Stmt _ _ _ _ (stmt.While' at test shape ss))))
  simple_all (stmt.For' at n first last shape ss) i e c w f b t =
      absurd (f at n first last (record { statements = shown-the_row-Stmt-0 _ _ _ _ shape ss })
      (sym (backs-Stmt _ _ _ _ (stmt.For' at n first last shape ss))))
  simple_all (stmt.Borrow' at access ns shape ss stop) i e c w f b t =
      absurd (b at access ns (record { statements = shown-the_row-Stmt-0 _ _ _ _ shape ss }) stop
      (sym (backs-Stmt _ _ _ _ (stmt.Borrow' at access ns shape ss stop))))
  simple_all (stmt.BorrowTyped' at r text mode x shape ss stop) i e c w f b t =
      absurd (t at r text mode x (record { statements = shown-the_row-Stmt-0 _ _ _ _ shape ss }) stop
      (sym (backs-Stmt _ _ _ _ (stmt.BorrowTyped' at r text mode x shape ss stop))))
  simple_all s i e c w f b t = refl
