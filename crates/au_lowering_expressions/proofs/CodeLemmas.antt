-- The code of what the code's expressions say, variant by variant.
use Rattle.std.proofs.Common.{◌≡◌, ℕ, Bool, true, false, List, [], ◌∷◌, Vec, Option, Some, None, map, neg_ℤ}
use Rattle.std.proofs.Common.{refl, sym, ap, ◌∙◌}
use Rattle.std.specs.Global.{Global}
use Rattle.std.specs.declared.boxed.Box.{Box}
use Rattle.au_closed_trees.specs.contracts.phase.ClosedTreesPhase.TheImpl.{ghosts as closed}
use Rattle.au_closed_trees.specs.ClosedNotes.{ClosedNote}
use Rattle.au_closed_trees.specs.declared.notes.Callee.{Callee}
use Rattle.au_closed_trees.specs.declared.notes.ClosedNote as found
use Rattle.au_closed_trees.specs.declared.phase.ClosedTrees.{ClosedTrees}
use Rattle.au_closed_trees.specs.TreeViews.{callee}
use Rattle.au_closed_meanings.specs.Surroundings.{Surroundings, call_noted, view_in}
use Rattle.au_ints.specs.declared.operations.IntOp.{IntOp}
use Rattle.au_ints.specs.declared.operations.Order.{Order}
use Rattle.au_low.specs.declared.instructions.Instr.TheVariants as instr
use Rattle.au_lowered.specs.Drafts.{Draft, Written, ◌>>◌, does, either, given, one, pushes_text}
use Rattle.au_lowered.specs.Expressions.{borrows, by_labels, by_position, calls, code, code_of_all}
use Rattle.au_lowered.specs.Expressions.{code_of_named, integer, joins, operand, part_behind}
use Rattle.au_lowering_expressions.specs.Parts.{arith, compare, path_code, pushes_false, pushes_true, reads}
use Rattle.au_lowering_expressions.specs.Parts.{refers, second_of}
use Rattle.au_lowering_expressions.specs.Wrote.{wrote}
use Rattle.au_lowering_expressions.proofs.WroteLemmas.{wrote_row}
use Rattle.au_meaning.specs.Expressions.{Operation, compares, computes, is_and, is_or, labels, names_of}
use Rattle.au_meaning.specs.Expressions.{note_of, operation_of}
use Rattle.au_meaning.specs.Names.{Scope, variable_of}
use Rattle.au_syntax.specs.declared.expressions.Argument.{Argument}
use Rattle.au_syntax.specs.declared.expressions.BinaryOperator.{BinaryOperator}
use Rattle.au_syntax.specs.declared.expressions.BorrowMode.{BorrowMode}
use Rattle.au_syntax.specs.declared.expressions.Expr.{Expr}
use Rattle.au_syntax.specs.declared.expressions.Expr as expr
use Rattle.au_syntax.specs.declared.expressions.Literal.{Literal}
use Rattle.au_syntax.specs.declared.expressions.Site.{Site}
use Rattle.au_syntax.specs.declared.names.Ident.{Ident}
use Rattle.au_syntax.specs.declared.types.TypeText.{TypeText}
use Rattle.au_syntax.specs.Expressions.{Expression, path}
use Rattle.au_syntax.specs.Names.{Placed}
use Rattle.au_syntax.specs.Plain.{Bytes}
use Rattle.au_syntax.specs.Views.{argument_all, expression, expression_all, node, placed}
use Rattle.au_syntax.proofs.ExpressionLemmas as exprs

abbrev pub ClosedSite : Type 0
ClosedSite = Site ClosedTrees Bytes found.ClosedNote Callee

abbrev pub ClosedIdent : Type 0
ClosedIdent = Ident ClosedTrees Bytes found.ClosedNote Callee

abbrev pub ClosedExpr : Type 0
ClosedExpr = Expr ClosedTrees Bytes found.ClosedNote Callee

abbrev pub ClosedBox : Type 0
ClosedBox = Box ClosedExpr Global

abbrev pub ClosedArgument : Type 0
ClosedArgument = Argument ClosedTrees Bytes found.ClosedNote Callee

module _ (round : Surroundings) (scope : Scope) where
  -- the code of what an expression says
  abbrev pub said_code : ClosedExpr → Written
  said_code e = code (view_in round) scope (expression closed e)

  -- that of an expression with this form
  says : (d : List Draft) (e : ClosedExpr) (form : Expression Bytes ClosedNote
      (Rattle.au_closed_trees.specs.ClosedNotes.Callee ℕ))
      → expression closed e ≡ form → wrote (said_code e) d ≡ wrote (code (view_in round) scope form) d
  says d e form is = ap (λ x. wrote (code (view_in round) scope x) d) is

  module _ (d : List Draft) where
    pub number_code : (s : ClosedSite) (l : Literal)
        → wrote (said_code (expr.Number s l)) d ≡ wrote
        (integer (view_in round) (node closed s).note l.value) d
    number_code s l = says d _ _ (exprs.number_says closed s l)

    pub negative_code : (s : ClosedSite) (l : Literal)
        → wrote (said_code (expr.Negative s l)) d
        ≡ wrote (integer (view_in round) (node closed s).note (neg_ℤ l.value)) d
    negative_code s l = says d _ _ (exprs.negative_says closed s l)

    pub text_code : (s : ClosedSite) (t : List ℕ)
        → wrote (said_code (expr.Text s t)) d ≡ wrote (one (pushes_text t)) d
    text_code s t = says d _ _ (exprs.text_says closed s t)

    pub bool_code : (s : ClosedSite) (b : Bool)
        → wrote (said_code (expr.Bool s b)) d ≡ wrote (does (instr.PushBool b)) d
    bool_code s b = says d _ _ (exprs.bool_says closed s b)

    pub nil_code : (s : ClosedSite) → wrote (said_code (expr.Nil s)) d ≡ wrote (does instr.PushUnit) d
    nil_code s = says d _ _ (exprs.nil_says closed s)

    path_is : (n : Rattle.au_syntax.specs.Expressions.Node ClosedNote) (x : Placed Bytes)
        (fields : List (Placed Bytes))
        → code {C = Rattle.au_closed_trees.specs.ClosedNotes.Callee ℕ} (view_in round) scope (path n x fields)
        ≡ path_code (view_in round) scope n.note x.name fields
    path_is n x [] = refl
    path_is n x (field ∷ fields) = refl

    pub path_code_is : (s : ClosedSite) (n : ClosedIdent) (fields : Vec ClosedIdent Global)
        → wrote (said_code (expr.Path s n fields)) d
        ≡ wrote (path_code (view_in round) scope (node closed s).note (placed closed n).name
        (map (placed closed) fields.items)) d
    path_code_is s n fields =
        says d _ _ (exprs.path_says closed s n fields)
        ∙ ap (λ w. wrote w d) (path_is (node closed s) (placed closed n) (map (placed closed) fields.items))

    pub arrow_code : (s : ClosedSite) (n : ClosedIdent) (fields : Vec ClosedIdent Global)
        → wrote (said_code (expr.Arrow s n fields)) d
        ≡ wrote (part_behind (view_in round) (variable_of scope (placed closed n).name)
        (names_of (map (placed closed) fields.items)) reads) d
    arrow_code s n fields = says d _ _ (exprs.arrow_says closed s n fields)

    pub call_code : (s : ClosedSite) (n : ClosedIdent) (args : Vec ClosedExpr Global) (c : Callee)
        → wrote (said_code (expr.Call s n args c)) d
        ≡ wrote (calls (call_noted round (node closed s).note (callee c)) by_position)
        (wrote (code_of_all (view_in round) scope (expression_all closed args.items)) d)
    call_code s n args c = says d _ _ (exprs.call_says closed s n args c) ∙ wrote_row _ _ d

    pub named_call_code : (s : ClosedSite) (n : ClosedIdent) (args : Vec ClosedArgument Global) (c : Callee)
        → wrote (said_code (expr.NamedCall s n args c)) d
        ≡ wrote (calls (call_noted round (node closed s).note (callee c))
        (by_labels (labels (argument_all closed args.items))))
        (wrote (code_of_named (view_in round) scope (argument_all closed args.items)) d)
    named_call_code s n args c = says d _ _ (exprs.named_call_says closed s n args c) ∙ wrote_row _ _ d

    pub parenthesized_code : (s : ClosedSite) (e : ClosedBox)
        → wrote (said_code (expr.Parenthesized s e)) d ≡ wrote (said_code e.value) d
    parenthesized_code s e = says d _ _ (exprs.parenthesized_says closed s e)

    pub dereference_code : (s : ClosedSite) (e : ClosedBox)
        → wrote (said_code (expr.Dereference s e)) d
        ≡ wrote (does instr.Deref) (wrote (operand scope (expression closed e.value) (said_code e.value)) d)
    dereference_code s e = says d _ _ (exprs.dereference_says closed s e) ∙ wrote_row _ _ d

    pub borrow_code : (s : ClosedSite) (mode : BorrowMode) (n : ClosedIdent)
        → wrote (said_code (expr.Borrow s mode n)) d
        ≡ wrote (given (variable_of scope (placed closed n).name) (borrows mode)) d
    borrow_code s mode n = says d _ _ (exprs.borrow_says closed s mode n)

    pub borrow_part_code : (s : ClosedSite) (n : ClosedIdent) (fields : Vec ClosedIdent Global)
        → wrote (said_code (expr.BorrowPart s n fields)) d
        ≡ wrote (part_behind (view_in round) (variable_of scope (placed closed n).name)
        (names_of (map (placed closed) fields.items)) refers) d
    borrow_part_code s n fields = says d _ _ (exprs.borrow_part_says closed s n fields)

    -- an operation is the code of its first operand, and what stands behind that
    joins_is : (op : Operation) (whole first : ClosedNote) (a b : Written)
        → wrote (joins (view_in round) op whole first a b) d ≡ wrote (second_of op whole first b) (wrote a d)
    unfolding second_of
    joins_is is_and whole first a b = wrote_row a _ d
    joins_is is_or whole first a b = wrote_row a _ d
    joins_is (computes op) whole first a b = wrote_row a _ d
    joins_is (compares op) whole first a b = wrote_row a _ d

    pub binary_code : (s : ClosedSite) (op : BinaryOperator) (a b : ClosedBox)
        → wrote (said_code (expr.Binary s op a b)) d
        ≡ wrote (second_of (operation_of op) (node closed s).note (note_of (expression closed a.value))
        (said_code b.value)) (wrote (said_code a.value) d)
    binary_code s op a b =
        says d _ _ (exprs.binary_says closed s op a b)
        ∙ joins_is (operation_of op) (node closed s).note (note_of (expression closed a.value))
        (said_code a.value) (said_code b.value)

    pub not_code : (s : ClosedSite) (e : ClosedBox)
        → wrote (said_code (expr.Not s e)) d ≡ wrote (does instr.Not) (wrote (said_code e.value) d)
    not_code s e = says d _ _ (exprs.not_says closed s e) ∙ wrote_row _ _ d

    pub typed_code : (s : ClosedSite) (e : ClosedBox) (t : TypeText)
        → wrote (said_code (expr.Typed s e t)) d ≡ wrote (said_code e.value) d
    typed_code s e t = says d _ _ (exprs.typed_says closed s e t)

    pub if_code : (s : ClosedSite) (c a b : ClosedBox)
        → wrote (said_code (expr.If s c a b)) d
        ≡ wrote (either false (said_code a.value) (said_code b.value)) (wrote (said_code c.value) d)
    if_code s c a b = says d _ _ (exprs.if_says closed s c a b) ∙ wrote_row _ _ d

-- ---- what stands behind the first operand

module _ (whole first : ClosedNote) (b : Written) (d : List Draft) where
  pub second_and : wrote (second_of is_and whole first b) d ≡ wrote (either false b (does pushes_false)) d
  unfolding second_of
  second_and = refl

  pub second_or : wrote (second_of is_or whole first b) d ≡ wrote (either false (does pushes_true) b) d
  unfolding second_of
  second_or = refl

  pub second_computes : (op : IntOp)
      → wrote (second_of (computes op) whole first b) d ≡ wrote (arith op whole) (wrote b d)
  unfolding second_of
  second_computes op = wrote_row b (arith op whole) d

  pub second_compares : (order : Order)
      → wrote (second_of (compares order) whole first b) d ≡ wrote (compare order first) (wrote b d)
  unfolding second_of
  second_compares order = wrote_row b (compare order first) d
