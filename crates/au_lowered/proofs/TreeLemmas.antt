-- All that is lowered fits: each clause of its definition is made of pieces that do.
use Rattle.std.proofs.Common.{ℕ, ◌+◌, Bool, true, false, ◌||◌, List, [], ◌∷◌, Option, Some, None, refl, arith}
use Rattle.std.proofs.Common.{unwrap_or}
use Rattle.au_type_texts.specs.Types.{ClosedType}
use Rattle.au_typing.specs.Returns.{block_returns}
use Rattle.au_effects.specs.Values as values
use Rattle.au_low.specs.declared.instructions.Instr.TheVariants as instr
use Rattle.au_meaning.specs.Expressions.{Operation, computes, compares, is_and, is_or, operation_of, kind_in}
use Rattle.au_meaning.specs.Expressions.{note_of, names_of, alone}
use Rattle.au_meaning.specs.Names.{Scope, Variable, variable_of, mode_of}
use Rattle.au_meaning.specs.Views.{View, Callee, Act, invokes, makes, ships}
use Rattle.au_meaning.specs.Worlds.{Value}
use Rattle.au_shipped.specs.declared.prims.ShippedCall.{ShippedCall}
use Rattle.au_shipped.specs.declared.prims.ShippedCall.TheVariants as prim
use Rattle.au_syntax.specs.declared.expressions.BorrowMode.{BorrowMode}
use Rattle.au_syntax.specs.declared.expressions.BorrowMode.TheVariants as borrowing
use Rattle.au_syntax.specs.Expressions.{Expression, Expressions, Arguments, number, negative, text, truth}
use Rattle.au_syntax.specs.Expressions.{nil, path, arrow, call, named_call, parenthesized, dereference}
use Rattle.au_syntax.specs.Expressions.{borrow, borrow_part, binary, negation, typed, choice, no_expressions}
use Rattle.au_syntax.specs.Expressions.{expressions, no_arguments, arguments}
use Rattle.au_syntax.specs.Plain.{Bytes}
use Rattle.au_syntax.specs.Statements.{Statement, Statements, Branches, Arms, skip, declare, destructure}
use Rattle.au_syntax.specs.Statements.{assign, assign_through, conditional, conditional_else, case_of}
use Rattle.au_syntax.specs.Statements.{while_loop, for_loop, borrow_in, borrow_typed, discard, return_of}
use Rattle.au_syntax.specs.Statements.{no_statements, statements, no_branches, branches, no_arms, arms}
use Rattle.au_lowered.specs.Drafts.{plain, pushes_text, Written, nothing, one, branch}
use Rattle.au_lowered.specs.Expressions.{code, code_of_all, code_of_named, whole, opens, closing, literal}
use Rattle.au_lowered.specs.Expressions.{taken, looked_at, operand, borrows, ships_call, acts, calls, mention}
use Rattle.au_lowered.specs.Expressions.{part_of, part_behind, joins}
use Rattle.au_lowered.specs.Laws.{Fits}
use Rattle.au_meaning.specs.Statements.{tag_told}
use Rattle.au_lowered.specs.Statements.{lends, is_last, statement, block, tests_of, arms_of}
use Rattle.au_lowered.proofs.FitLemmas.{fits_both, fits_nothing, fits_one, fits_given, fits_when, fits_either}
use Rattle.au_lowered.proofs.FitLemmas.{fits_loop, fits_turns, ArmsFit, arms_end, arms_fit, fits_cases}
use Rattle.au_lowered.proofs.FitLemmas.{fits_unless}

-- what may be written fits, where something is
abbrev FitsIf : ℕ → Option Written → Type 0
FitsIf k None = Unit {0}
FitsIf k (Some w) = Fits k w

fits_found : (w : Option Written) → FitsIf 0 w → Fits 0 (unwrap_or w nothing)
fits_found None fw = fits_nothing
fits_found (Some w) fw = fw

-- ---- leaves

fits_literal : (v : Value) → Fits 0 (literal v)
fits_literal values.unit = fits_one 0 _ (omega arith) refl
fits_literal (values.truth b) = fits_one 0 _ (omega arith) refl
fits_literal (values.number kind z) = fits_one 0 _ (omega arith) refl
fits_literal (values.text t) = fits_one 0 _ (omega arith) refl
fits_literal (values.made tag birth held) = fits_nothing
fits_literal (values.reference n place) = fits_nothing
fits_literal (values.box birth) = fits_nothing
fits_literal (values.buffer birth) = fits_nothing
fits_literal (values.terminal birth) = fits_nothing
fits_literal (values.root birth) = fits_nothing

fits_taken : (free : Bool) (x : Variable) → Fits 0 (taken free x)
fits_taken true x = fits_one 0 _ (omega arith) refl
fits_taken false x = fits_one 0 _ (omega arith) refl

fits_looked : (x : Option Variable) {w : Written} → Fits 0 w → Fits 0 (looked_at x w)
fits_looked None fw = fw
fits_looked (Some x) fw = fits_taken true x

fits_borrows : (mode : BorrowMode) (x : Variable) → Fits 0 (borrows mode x)
fits_borrows borrowing.Read x = fits_one 0 _ (omega arith) refl
fits_borrows borrowing.Write x = fits_one 0 _ (omega arith) refl
fits_borrows borrowing.Reborrow x = fits_one 0 _ (omega arith) refl

fits_closing : (opened : Bool) (around : ℕ) → Fits 0 (closing opened around)
fits_closing true around = fits_one 0 _ (omega arith) refl
fits_closing false around = fits_nothing

-- ---- calls

fits_shipped : (call : ShippedCall) (born : Option ClosedType) (order : List ℕ) → Fits 0 (ships_call call born order)
fits_shipped c None order = other c
  where
    other : (c : ShippedCall) → Fits 0 (ships_call c None order)
    other prim.PrintText = fits_one 0 _ (omega arith) refl
    other prim.PrintInt = fits_one 0 _ (omega arith) refl
    other prim.PrintBool = fits_one 0 _ (omega arith) refl
    other prim.PrintLnText = fits_one 0 _ (omega arith) refl
    other prim.PrintLnInt = fits_one 0 _ (omega arith) refl
    other prim.PrintLnBool = fits_one 0 _ (omega arith) refl
    other (prim.Wrap op kind) = fits_one 0 _ (omega arith) refl
    other (prim.Convert kind) = fits_one 0 _ (omega arith) refl
    other prim.SurrenderRoot = fits_one 0 _ (omega arith) refl
    other prim.Abort = fits_one 0 _ (omega arith) refl
    other prim.SpanLength = fits_one 0 _ (omega arith) refl
    other prim.Swap = fits_one 0 _ (omega arith) refl
    other prim.MakeBox = fits_one 0 _ (omega arith) refl
    other prim.Unbox = fits_one 0 _ (omega arith) refl
    other prim.BoxGet = fits_one 0 _ (omega arith) refl
    other prim.BoxGetMut = fits_one 0 _ (omega arith) refl
    other prim.MakeEmpty = fits_one 0 _ (omega arith) refl
    other prim.DestroyEmpty = fits_one 0 _ (omega arith) refl
    other prim.Length = fits_one 0 _ (omega arith) refl
    other prim.InsertBack = fits_one 0 _ (omega arith) refl
    other prim.RemoveBack = fits_one 0 _ (omega arith) refl
    other prim.Nth = fits_one 0 _ (omega arith) refl
    other prim.ReplaceNth = fits_one 0 _ (omega arith) refl
    other prim.AcquireTerminal = fits_one 0 _ (omega arith) refl
    other prim.ReadByte = fits_one 0 _ (omega arith) refl
    other prim.WriteByte = fits_one 0 _ (omega arith) refl
    other prim.ReleaseTerminal = fits_one 0 _ (omega arith) refl
fits_shipped c (Some of) order = other c
  where
    other : (c : ShippedCall) → Fits 0 (ships_call c (Some of) order)
    other prim.PrintText = fits_one 0 _ (omega arith) refl
    other prim.PrintInt = fits_one 0 _ (omega arith) refl
    other prim.PrintBool = fits_one 0 _ (omega arith) refl
    other prim.PrintLnText = fits_one 0 _ (omega arith) refl
    other prim.PrintLnInt = fits_one 0 _ (omega arith) refl
    other prim.PrintLnBool = fits_one 0 _ (omega arith) refl
    other (prim.Wrap op kind) = fits_one 0 _ (omega arith) refl
    other (prim.Convert kind) = fits_one 0 _ (omega arith) refl
    other prim.SurrenderRoot = fits_one 0 _ (omega arith) refl
    other prim.Abort = fits_one 0 _ (omega arith) refl
    other prim.SpanLength = fits_one 0 _ (omega arith) refl
    other prim.Swap = fits_one 0 _ (omega arith) refl
    other prim.MakeBox = fits_one 0 _ (omega arith) refl
    other prim.Unbox = fits_one 0 _ (omega arith) refl
    other prim.BoxGet = fits_one 0 _ (omega arith) refl
    other prim.BoxGetMut = fits_one 0 _ (omega arith) refl
    other prim.MakeEmpty = fits_one 0 _ (omega arith) refl
    other prim.DestroyEmpty = fits_one 0 _ (omega arith) refl
    other prim.Length = fits_one 0 _ (omega arith) refl
    other prim.InsertBack = fits_one 0 _ (omega arith) refl
    other prim.RemoveBack = fits_one 0 _ (omega arith) refl
    other prim.Nth = fits_one 0 _ (omega arith) refl
    other prim.ReplaceNth = fits_one 0 _ (omega arith) refl
    other prim.AcquireTerminal = fits_one 0 _ (omega arith) refl
    other prim.ReadByte = fits_one 0 _ (omega arith) refl
    other prim.WriteByte = fits_one 0 _ (omega arith) refl
    other prim.ReleaseTerminal = fits_one 0 _ (omega arith) refl

fits_acts : (act : Act ℕ) (order : List ℕ) → Fits 0 (acts act order)
fits_acts (invokes function) order = fits_one 0 _ (omega arith) refl
fits_acts (makes of tag home) order = fits_one 0 _ (omega arith) refl
fits_acts (ships shipped born) order = fits_shipped shipped born _

fits_calls : (callee : Option (Callee ℕ)) (order : List Bytes → List ℕ) → Fits 0 (calls callee order)
fits_calls callee order = fits_given callee _ (λ one. fits_acts one.act (order one.parameters))

-- ---- expressions

module _ {T C : Type 0} (see : View ℕ T C) where
  fits_mention : (note : T) (x : Option Variable) (name : Bytes) → Fits 0 (mention see note x name)
  fits_mention note None name = fits_given (see.constant note name) literal fits_literal
  fits_mention note (Some x) name = fits_taken (see.is_free note) x

  fits_part : (x : Option Variable) (names : List Bytes) (write : ℕ → List ℕ → Written)
      → ((slot : ℕ) (numbers : List ℕ) → Fits 0 (write slot numbers)) → Fits 0 (part_of see x names write)
  fits_part x names write fits = fits_given x _ (λ v. fits_given _ _ (λ numbers. fits v.number numbers))

  fits_behind : (x : Option Variable) (names : List Bytes) (write : ℕ → List ℕ → Written)
      → ((slot : ℕ) (numbers : List ℕ) → Fits 0 (write slot numbers)) → Fits 0 (part_behind see x names write)
  fits_behind x names write fits = fits_given x _ (λ v. fits_given _ _ (λ numbers. fits v.number numbers))

  fits_joins : (op : Operation) (all first : T) {a b : Written} → Fits 0 a → Fits 0 b
      → Fits 0 (joins see op all first a b)
  fits_joins is_and all first fa fb = fits_both fa (fits_either false fb (fits_one 0 _ (omega arith) refl))
  fits_joins is_or all first fa fb = fits_both fa (fits_either false (fits_one 0 _ (omega arith) refl) fb)
  fits_joins (computes op) all first fa fb =
      fits_both fa (fits_both fb (fits_given _ _ (λ kind. fits_one 0 _ (omega arith) refl)))
  fits_joins (compares op) all first fa fb =
      fits_both fa (fits_both fb (fits_given _ _ (λ kind. fits_one 0 _ (omega arith) refl)))

  -- what is looked at is a part of an expression
  fits_operand : (scope : Scope) (e : Expression Bytes T C) {w : Written} → Fits 0 w → Fits 0 (operand scope e w)
  fits_operand scope e fw = fits_looked (alone scope e) fw

  mutual
    pub fits_expression : (scope : Scope) (e : Expression Bytes T C) → Fits 0 (code see scope e)
    fits_expression scope (number n l) =
        fits_given (kind_in (see.type_of n.note)) _ (λ kind. fits_one 0 _ (omega arith) refl)
    fits_expression scope (negative n l) =
        fits_given (kind_in (see.type_of n.note)) _ (λ kind. fits_one 0 _ (omega arith) refl)
    fits_expression scope (text n t) = fits_one 0 (pushes_text t) (omega arith) refl
    fits_expression scope (truth n b) = fits_one 0 (plain (instr.PushBool b)) (omega arith) refl
    fits_expression scope (nil n) = fits_one 0 (plain instr.PushUnit) (omega arith) refl
    fits_expression scope (path n x []) = fits_mention n.note (variable_of scope x.name) x.name
    fits_expression scope (path n x (f ∷ fs)) =
        fits_part (variable_of scope x.name) (names_of (f ∷ fs)) _ (λ slot numbers. fits_one 0 _ (omega arith) refl)
    fits_expression scope (arrow n r fs) =
        fits_behind (variable_of scope r.name) (names_of fs) _ (λ slot numbers. fits_one 0 _ (omega arith) refl)
    fits_expression scope (call n f args c) = fits_both (fits_all scope args) (fits_calls _ _)
    fits_expression scope (named_call n f args c) = fits_both (fits_named scope args) (fits_calls _ _)
    fits_expression scope (parenthesized n e) = fits_expression scope e
    fits_expression scope (dereference n e) =
        fits_both (fits_operand scope e (fits_expression scope e)) (fits_one 0 (plain instr.Deref) (omega arith) refl)
    fits_expression scope (borrow n m x) = fits_given (variable_of scope x.name) _ (fits_borrows m)
    fits_expression scope (borrow_part n r fs) =
        fits_behind (variable_of scope r.name) (names_of fs) _ (λ slot numbers. fits_one 0 _ (omega arith) refl)
    fits_expression scope (binary n op a b) =
        fits_joins (operation_of op) n.note (note_of a) (fits_expression scope a) (fits_expression scope b)
    fits_expression scope (negation n e) =
        fits_both (fits_expression scope e) (fits_one 0 (plain instr.Not) (omega arith) refl)
    fits_expression scope (typed n e t) = fits_expression scope e
    fits_expression scope (choice n c a b) =
        fits_both (fits_expression scope c) (fits_either false (fits_expression scope a) (fits_expression scope b))

    fits_all : (scope : Scope) (es : Expressions Bytes T C) → Fits 0 (code_of_all see scope es)
    fits_all scope no_expressions = fits_nothing
    fits_all scope (expressions e rest) = fits_both (fits_expression scope e) (fits_all scope rest)

    fits_named : (scope : Scope) (es : Arguments Bytes T C) → Fits 0 (code_of_named see scope es)
    fits_named scope no_arguments = fits_nothing
    fits_named scope (arguments label e rest) = fits_both (fits_expression scope e) (fits_named scope rest)

  pub fits_whole : (around : ℕ) (scope : Scope) (e : Expression Bytes T C) → Fits 0 (whole see around scope e)
  fits_whole around scope e = fits_both (fits_expression scope e) (fits_closing (opens e) around)

  -- ---- statements

  fits_branch : (r : Bool) (b : Option Written) {a : Written} → Fits 0 a → FitsIf 0 b → Fits 0 (branch r a b)
  fits_branch r None fa fb = fits_when fa
  fits_branch r (Some b) fa fb = fits_either r fa fb

  fits_lends : (r : Bool) (around slot : ℕ) (mode : BorrowMode) (x : Option Variable) {body : Written} → Fits 0 body
      → Fits 0 (lends r around slot mode x body)
  fits_lends r around slot mode x fb =
      fits_both (fits_given x _ (λ v. fits_one 0 _ (omega arith) refl))
      (fits_both fb (fits_unless r (instr.Close around) refl))

  mutual
    pub fits_statement : (around slot : ℕ) (scope : Scope) (s : Statement Bytes T C)
        → Fits 0 (statement see around slot scope s)
    fits_statement around slot scope (skip at) = fits_nothing
    fits_statement around slot scope (declare at binding name t e) =
        fits_both (fits_whole around scope e) (fits_one 0 (plain (instr.Store slot)) (omega arith) refl)
    fits_statement around slot scope (destructure at binds e) =
        fits_both (fits_whole around scope e) (fits_one 0 (plain (instr.Take slot)) (omega arith) refl)
    fits_statement around slot scope (assign at x fs e) =
        fits_both (fits_whole around scope e)
        (fits_part (variable_of scope x.name) (names_of fs) _ (λ s numbers. fits_one 0 _ (omega arith) refl))
    fits_statement around slot scope (assign_through at r fs e) =
        fits_both (fits_whole around scope e)
        (fits_behind (variable_of scope r.name) (names_of fs) _ (λ s numbers. fits_one 0 _ (omega arith) refl))
    fits_statement around slot scope (conditional at tests) =
        fits_found (tests_of see around slot scope tests None) (fits_tests around slot scope tests None tt)
    fits_statement around slot scope (conditional_else at tests other) =
        fits_found (tests_of see around slot scope tests (Some (block see around slot scope other)))
        (fits_tests around slot scope tests (Some (block see around slot scope other))
        (fits_block around slot scope other))
    fits_statement around slot scope (case_of at e all) =
        fits_both (fits_whole around scope e)
        (fits_cases slot (omega arith) (fits_arms around slot scope (note_of e) all))
    fits_statement around slot scope (while_loop at e body) =
        fits_loop (block_returns body) (fits_whole around scope e) (fits_block around slot scope body)
    fits_statement around slot scope (for_loop at name first last body) =
        fits_both (fits_whole around scope first) (
        fits_both (fits_one 0 (plain (instr.Store slot)) (omega arith) refl) (
        fits_both (fits_whole around scope last) (
        fits_both (fits_one 0 (plain (instr.Store (slot + 1))) (omega arith) refl)
        (fits_turns (block_returns body) slot (fits_block around (slot + 3) _ body)))))
    fits_statement around slot scope (borrow_in at access x r region body stop) =
        fits_lends (block_returns body) around slot (mode_of access) (variable_of scope x.name)
        (fits_block (around + 1) (slot + 1) _ body)
    fits_statement around slot scope (borrow_typed at r t mode x body stop) =
        fits_lends (block_returns body) around slot mode (variable_of scope x.name)
        (fits_block (around + 1) (slot + 1) _ body)
    fits_statement around slot scope (discard at e) =
        fits_both (fits_whole around scope e) (fits_one 0 (plain instr.Discard) (omega arith) refl)
    fits_statement around slot scope (return_of at e) =
        fits_both (fits_expression scope e) (fits_one 0 (plain instr.Return) (omega arith) refl)

    pub fits_block : (around slot : ℕ) (scope : Scope) (b : Statements Bytes T C) →
        Fits 0 (block see around slot scope b)
    fits_block around slot scope no_statements = fits_nothing
    fits_block around slot scope (statements s rest) =
        fits_both (fits_statement around slot scope s) (fits_block around _ _ rest)

    fits_tests : (around slot : ℕ) (scope : Scope) (tests : Branches Bytes T C) (other : Option Written) →
        FitsIf 0 other
        → FitsIf 0 (tests_of see around slot scope tests other)
    fits_tests around slot scope no_branches other fo = fo
    fits_tests around slot scope (branches e body rest) other fo =
        fits_both (fits_whole around scope e)
        (fits_branch (block_returns body) (tests_of see around slot scope rest other)
        (fits_block around slot scope body)
        (fits_tests around slot scope rest other fo))

    fits_arms : (around slot : ℕ) (scope : Scope) (note : T) (all : Arms Bytes T C)
        → ArmsFit 0 (arms_of see around slot scope note all)
    fits_arms around slot scope note no_arms = arms_end
    fits_arms around slot scope note (arms at name binds body rest) =
        arms_fit (block_returns body || is_last rest) (tag_told see note name.name) (fits_block around _ _ body)
        (fits_arms around slot scope note rest)
