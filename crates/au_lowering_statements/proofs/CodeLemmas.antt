-- The code of what the code's statements say, variant by variant.
use Rattle.std.proofs.Common.{◌≡◌, ℕ, ◌+◌, List, Bool, Vec, Option, Some, None, unwrap_or, ap, ◌∙◌}
use Rattle.std.specs.Global.{Global}
use Rattle.au_base.specs.declared.places.Pos.{Pos}
use Rattle.au_closed_trees.specs.contracts.phase.ClosedTreesPhase.TheImpl.{ghosts as closed}
use Rattle.au_closed_trees.specs.ClosedNotes.{ClosedNote, ClosedStatement}
use Rattle.au_closed_trees.specs.declared.notes.Callee.{Callee}
use Rattle.au_closed_trees.specs.declared.notes.ClosedNote as found
use Rattle.au_closed_trees.specs.declared.phase.ClosedTrees.{ClosedTrees}
use Rattle.au_closed_meanings.specs.Surroundings.{Surroundings, view_in}
use Rattle.au_typing.specs.Returns.{block_returns}
use Rattle.au_low.specs.declared.instructions.Instr.TheVariants as instr
use Rattle.au_lowered.specs.Drafts.{Draft, Written, does, looped, nothing}
use Rattle.au_lowered.specs.Expressions.{whole}
use Rattle.au_meaning.specs.Names.{mode_of, with_reference}
use Rattle.au_lowered.specs.Statements as spec
use Rattle.au_lowered.specs.Statements.{turns}
use Rattle.au_lowering_expressions.specs.Wrote.{wrote}
use Rattle.au_lowering_expressions.proofs.CodeLemmas.{ClosedBox, ClosedExpr, ClosedIdent}
use Rattle.au_lowering_expressions.proofs.WroteLemmas.{wrote_row}
use Rattle.au_lowering_statements.specs.Ends.{binds, lent}
use Rattle.au_lowering_statements.specs.Pieces.{with_bounds}
use Rattle.au_meaning.specs.Expressions.{note_of}
use Rattle.au_meaning.specs.Names.{Scope, Variable, variable_of, with_name}
use Rattle.au_syntax.specs.declared.expressions.BorrowMode.{BorrowMode}
use Rattle.au_syntax.specs.declared.names.Bind.{Bind}
use Rattle.au_syntax.specs.declared.names.BorrowNames.{BorrowNames}
use Rattle.au_syntax.specs.declared.statements.Arm.{Arm}
use Rattle.au_syntax.specs.declared.statements.Block.{Block}
use Rattle.au_syntax.specs.declared.statements.Branch.{Branch}
use Rattle.au_syntax.specs.declared.statements.Stmt.{Stmt}
use Rattle.au_syntax.specs.declared.statements.Stmt as stmt
use Rattle.au_syntax.specs.declared.types.Access.{Access}
use Rattle.au_syntax.specs.declared.types.TypeText.{TypeText}
use Rattle.au_syntax.specs.Plain.{Bytes}
use Rattle.au_syntax.specs.Views.{arm_all, block, branch_all, expression, placed, statement}
use Rattle.au_syntax.proofs.StatementLemmas as stmts

abbrev pub ClosedStmt : Type 0
ClosedStmt = Stmt ClosedTrees Bytes found.ClosedNote Callee

abbrev pub ClosedBlock : Type 0
ClosedBlock = Block ClosedTrees Bytes found.ClosedNote Callee

abbrev pub ClosedBind : Type 0
ClosedBind = Bind ClosedTrees Bytes found.ClosedNote Callee

abbrev pub ClosedBranch : Type 0
ClosedBranch = Branch ClosedTrees Bytes found.ClosedNote Callee

abbrev pub ClosedArm : Type 0
ClosedArm = Arm ClosedTrees Bytes found.ClosedNote Callee

abbrev pub ClosedNames : Type 0
ClosedNames = BorrowNames ClosedTrees Bytes found.ClosedNote Callee

module _ (round : Surroundings) (around slot : ℕ) (scope : Scope) where
  -- the code of what a statement says, and a block and a whole expression
  abbrev pub said_statement : ClosedStmt → Written
  said_statement s = spec.statement (view_in round) around slot scope (statement closed s)

  abbrev pub said_block : ClosedBlock → Written
  said_block b = spec.block (view_in round) around slot scope (block closed b)

  abbrev pub said_whole : ClosedExpr → Written
  said_whole e = whole (view_in round) around scope (expression closed e)

  says : (d : List Draft) (s : ClosedStmt) (form : ClosedStatement)
      → statement closed s ≡ form
      → wrote (said_statement s) d ≡ wrote (spec.statement (view_in round) around slot scope form) d
  says d s form is = ap (λ x. wrote (spec.statement (view_in round) around slot scope x) d) is

  module _ (d : List Draft) where
    pub while_code : (at : Pos) (e : ClosedBox) (b : ClosedBlock)
        → wrote (said_statement (stmt.While at e b)) d
        ≡ wrote (looped (block_returns (block closed b)) (said_whole e.value) (said_block b)) d
    while_code at e b = says d _ _ (stmts.while_says closed at e b)

    pub if_code : (at : Pos) (bs : Vec ClosedBranch Global)
        → wrote (said_statement (stmt.If at bs)) d
        ≡ wrote (unwrap_or (spec.tests_of (view_in round) around slot scope (branch_all closed bs.items) None)
        nothing) d
    if_code at bs = says d _ _ (stmts.if_says closed at bs)

    pub if_else_code : (at : Pos) (bs : Vec ClosedBranch Global) (b : ClosedBlock)
        → wrote (said_statement (stmt.IfElse at bs b)) d
        ≡ wrote (unwrap_or (spec.tests_of (view_in round) around slot scope (branch_all closed bs.items)
        (Some (said_block b))) nothing) d
    if_else_code at bs b = says d _ _ (stmts.if_else_says closed at bs b)

    pub case_code : (at : Pos) (e : ClosedBox) (all : Vec ClosedArm Global)
        → wrote (said_statement (stmt.Case at e all)) d
        ≡ wrote (spec.cases slot (spec.arms_of (view_in round) around slot scope
        (note_of (expression closed e.value)) (arm_all closed all.items))) (wrote (said_whole e.value) d)
    case_code at e all = says d _ _ (stmts.case_says closed at e all) ∙ wrote_row _ _ d

    pub for_code : (at : Pos) (n : ClosedIdent) (a z : ClosedBox) (b : ClosedBlock)
        → wrote (said_statement (stmt.For at n a z b)) d
        ≡ wrote (turns (block_returns (block closed b)) slot
        (spec.block (view_in round) around (slot + 3)
        (with_name (placed closed n).name (slot + 2) (Some (note_of (expression closed a.value)).of) scope)
        (block closed b)))
        (with_bounds (view_in round) around slot scope (expression closed a.value)
        (expression closed z.value) d)
    for_code at n a z b =
        says d _ _ (stmts.for_says closed at n a z b)
        ∙ wrote_row _ _ d ∙ wrote_row _ _ (wrote (said_whole a.value) d)
        ∙ wrote_row _ _ (wrote (does (instr.Store slot)) (wrote (said_whole a.value) d))
        ∙ wrote_row _ _ (wrote (said_whole z.value)
        (wrote (does (instr.Store slot)) (wrote (said_whole a.value) d)))

    -- a borrow statement with this mode, variable and name
    abbrev pub said_lends : BorrowMode → Bytes → Bytes → ClosedBlock → Written
    said_lends mode variable name b =
        spec.lends (block_returns (block closed b)) around slot mode (variable_of scope variable)
        (spec.block (view_in round) (around + 1) (slot + 1)
        (with_reference mode (variable_of scope variable) slot name scope) (block closed b))

    pub borrow_code : (at : Pos) (access : Access) (ns : ClosedNames) (b : ClosedBlock) (stop : Pos)
        → wrote (said_statement (stmt.Borrow at access ns b stop)) d
        ≡ wrote (said_lends (mode_of access) (placed closed ns.variable).name
        (placed closed ns.reference).name b) d
    borrow_code at access ns b stop = says d _ _ (stmts.borrow_says closed at access ns b stop)

    pub borrow_typed_code : (at : Pos) (r : ClosedIdent) (t : TypeText) (mode : BorrowMode) (x : ClosedIdent)
        (b : ClosedBlock) (stop : Pos)
        → wrote (said_statement (stmt.BorrowTyped at r t mode x b stop)) d
        ≡ wrote (said_lends mode (placed closed x).name (placed closed r).name b) d
    borrow_typed_code at r t mode x b stop = says d _ _ (stmts.borrow_typed_says closed at r t mode x b stop)

    -- what is written for a borrow, and then its block
    pub lends_row : (returns : Bool) (mode : BorrowMode) (variable : Option Variable) (b : Written)
        → wrote (spec.lends returns around slot mode variable b) d
        ≡ wrote (lent returns around b) (wrote (binds mode slot variable) d)
    lends_row returns mode variable b = wrote_row (binds mode slot variable) (lent returns around b) d
