-- Statements with blocks, from what their parts give; and the scopes behind them.
use Rattle.std.proofs.Common.{arith, ◌≡◌, ◌∷◌, ◌-◌, [], ℕ, List, Err, Ok, Result, ap, refl, subst, sym, ◌∙◌, length}
use Rattle.au_base.specs.declared.places.Pos.{Pos}
use Rattle.au_typing.specs.DerivationFaults as refusals
use Rattle.au_typing.specs.DerivationFaults.{Judged, ◌then◌, StatementFault}
use Rattle.au_typing.specs.InScope.{fixed_variable, with_bound, with_reference, with_variable}
use Rattle.au_typing.specs.Parts.{borrow_type, heads_of, mode_for}
use Rattle.au_typing.specs.DerivationSearch.{judge_borrow, judge_lent, note_arms, note_block, note_bounds}
use Rattle.au_typing.specs.DerivationSearch.{note_branches, note_case, note_statement, note_test, note_tests}
use Rattle.au_typing.specs.Trees.{NotedArms, NotedBranches, NotedStatement, NotedStatements}
use Rattle.au_judgements.proofs.LeavingLemmas.{bound_grown, grown_left, reference_left}
use Rattle.au_judgements.specs.declared.refusals.Refused.{Refused}
use Rattle.au_judgements.specs.Refusing.{Judges}
use Rattle.au_sights.specs.contracts.noted.NotedPhase.TheImpl.{ghosts as noted}
use Rattle.au_noting.specs.Scopes.{closed_in, without}
use Rattle.au_noting_statements.specs.Entering.{lent_scope, typed_scope}
use Rattle.au_typing.specs.Scopes.{Scope, Variable}
use Rattle.au_syntax.specs.declared.expressions.BorrowMode.{BorrowMode}
use Rattle.au_syntax.specs.declared.types.Access.{Access}
use Rattle.au_syntax.specs.Names.{Placed}
use Rattle.au_syntax.specs.Plain.{Bytes, PlainArms, PlainBranches, PlainExpression, PlainStatement, PlainStatements}
use Rattle.au_syntax.specs.Statements.{conditional, conditional_else, case_of, while_loop, for_loop}
use Rattle.au_syntax.specs.Statements.{borrow_in, borrow_typed}
use Rattle.au_syntax.specs.Types.{Bound, WrittenType}
use Rattle.au_syntax.specs.Views.{statement}
use Rattle.au_types.specs.Types.{Meaning}
use Rattle.au_typing.specs.Faults.{Noting, ◌>>=◌}
use Rattle.au_typing.specs.Notes.{NotedExpression, type_of}
use Rattle.au_typing.proofs.StepLemmas.{judged_is}
use Rattle.au_noting_statements.proofs.Fronts.{NotedStmt}

-- ---- steps

-- a first step, and the second one
pub second_ok : {A B : Type 0} (one : Judged A) (next : A → Judged B) (x : A) (y : B) → one ≡ Ok x →
    next x ≡ Ok y → (one then next) ≡ Ok y
second_ok one next x y h k = ap (λ (j : Judged _). j then next) h ∙ k

pub first_stops : {A B : Type 0} (one : Judged A) (next : A → Judged B) (f : StatementFault) → one ≡ Err f →
    (one then next) ≡ Err f
first_stops one next f h = ap (λ (j : Judged _). j then next) h

pub second_stops : {A B : Type 0} (one : Judged A) (next : A → Judged B) (x : A) (f : StatementFault) →
    one ≡ Ok x → next x ≡ Err f → (one then next) ≡ Err f
second_stops one next x f h k = ap (λ (j : Judged _). j then next) h ∙ k

-- what a call answers of a statement, by the form that the statement has
pub told_by : (s form : PlainStatement) (sc : Scope) (r : Result NotedStmt Refused) → s ≡ form →
    Judges (statement noted) r (note_statement form sc) → Judges (statement noted) r (note_statement s sc)
told_by s form sc r is h = subst (λ (t : PlainStatement). Judges (statement noted) r (note_statement t sc)) (sym is) h

-- ---- what follows what is noted in front of blocks

-- the blocks of a conditional without `else`
abbrev pub if_behind : Pos → PlainBranches → Scope → List NotedExpression → Judged NotedStatement
if_behind at tests sc noted = note_branches tests noted sc then λ all. Ok (conditional at all)

-- the last block of a conditional
abbrev pub else_behind : Pos → PlainStatements → Scope → NotedBranches → Judged NotedStatement
else_behind at last sc all = note_block last sc then λ b. Ok (conditional_else at all b)

-- the blocks of a conditional with `else`
abbrev pub if_else_behind : Pos → PlainBranches → PlainStatements → Scope → List NotedExpression → Judged NotedStatement
if_else_behind at tests last sc noted = note_branches tests noted sc then λ all. else_behind at last sc all

-- the arms of a `case`
abbrev pub case_behind : Pos → PlainArms → Scope → NotedExpression → Judged NotedStatement
case_behind at all sc a = note_arms all sc then λ noted. Ok (case_of at a noted)

-- the block of a `while`
abbrev pub while_behind : Pos → PlainStatements → Scope → NotedExpression → Judged NotedStatement
while_behind at body sc a = note_block body sc then λ b. Ok (while_loop at a b)

-- the block of a `for`
abbrev pub for_behind : Pos → Placed Bytes → PlainStatements → Scope → NotedExpression × NotedExpression →
    Judged NotedStatement
for_behind at name body sc y =
    note_block body (with_variable (fixed_variable name.name (type_of y.0)) sc) then λ b. Ok
    (for_loop at name y.0 y.1 b)

-- the block of a borrow statement, in its scope
abbrev pub borrow_behind : Pos → Access → Placed Bytes → Placed Bytes → Placed Bytes → PlainStatements → Pos →
    Scope → Judged NotedStatement
borrow_behind at kind x r region body stop inner =
    note_block body inner then λ b. Ok (borrow_in at kind x r region b stop)

abbrev pub typed_behind : Pos → Placed Bytes → WrittenType → BorrowMode → Placed Bytes → PlainStatements →
    Pos → Scope → Judged NotedStatement
typed_behind at r t mode x body stop inner = note_block body inner then λ b. Ok (borrow_typed at r t mode x b stop)

-- ---- conditionals

module _ (at : Pos) (tests : PlainBranches) (sc : Scope) where
  pub if_stops : (f : StatementFault) → refusals.placed at (note_tests sc tests) ≡ Err f →
      note_statement (conditional at tests) sc ≡ Err f
  if_stops f h = first_stops (refusals.placed at (note_tests sc tests)) (if_behind at tests sc) f h

  pub if_stops_behind : (noted : List NotedExpression) (f : StatementFault) →
      refusals.placed at (note_tests sc tests) ≡ Ok noted →
      note_branches tests noted sc ≡ Err f → note_statement (conditional at tests) sc ≡ Err f
  if_stops_behind noted f h k =
      second_stops (refusals.placed at (note_tests sc tests)) (if_behind at tests sc) noted f h
      (first_stops (note_branches tests noted sc) (λ (all : NotedBranches). Ok (conditional at all)) f k)

  pub if_noted : (noted : List NotedExpression) (all : NotedBranches) →
      refusals.placed at (note_tests sc tests) ≡ Ok noted →
      note_branches tests noted sc ≡ Ok all → note_statement (conditional at tests) sc ≡ Ok (conditional at all)
  if_noted noted all h k =
      second_ok (refusals.placed at (note_tests sc tests)) (if_behind at tests sc) noted (conditional at all) h
      (second_ok (note_branches tests noted sc) (λ (made : NotedBranches). Ok (conditional at made)) all
      (conditional at all) k refl)

  module _ (last : PlainStatements) where
    pub if_else_stops : (f : StatementFault) → refusals.placed at (note_tests sc tests) ≡ Err f →
        note_statement (conditional_else at tests last) sc ≡ Err f
    if_else_stops f h = first_stops (refusals.placed at (note_tests sc tests)) (if_else_behind at tests last sc) f h

    pub if_else_stops_behind : (noted : List NotedExpression) (f : StatementFault) →
        refusals.placed at (note_tests sc tests) ≡ Ok noted →
        note_branches tests noted sc ≡ Err f → note_statement (conditional_else at tests last) sc ≡ Err f
    if_else_stops_behind noted f h k =
        second_stops (refusals.placed at (note_tests sc tests)) (if_else_behind at tests last sc) noted f h
        (first_stops (note_branches tests noted sc) (else_behind at last sc) f k)

    pub if_else_stops_last : (noted : List NotedExpression) (all : NotedBranches) (f : StatementFault) →
        refusals.placed at (note_tests sc tests) ≡ Ok noted →
        note_branches tests noted sc ≡ Ok all → note_block last sc ≡ Err f →
        note_statement (conditional_else at tests last) sc ≡ Err f
    if_else_stops_last noted all f h k l =
        second_stops (refusals.placed at (note_tests sc tests)) (if_else_behind at tests last sc) noted f h
        (second_stops (note_branches tests noted sc) (else_behind at last sc) all f k
        (first_stops (note_block last sc) (λ (b : NotedStatements). Ok (conditional_else at all b)) f l))

    pub if_else_noted : (noted : List NotedExpression) (all : NotedBranches) (b : NotedStatements) →
        refusals.placed at (note_tests sc tests) ≡ Ok noted →
        note_branches tests noted sc ≡ Ok all → note_block last sc ≡ Ok b →
        note_statement (conditional_else at tests last) sc ≡ Ok (conditional_else at all b)
    if_else_noted noted all b h k l =
        second_ok (refusals.placed at (note_tests sc tests)) (if_else_behind at tests last sc) noted
        (conditional_else at all b) h
        (second_ok (note_branches tests noted sc) (else_behind at last sc) all (conditional_else at all b) k
        (second_ok (note_block last sc) (λ (made : NotedStatements). Ok (conditional_else at all made)) b
        (conditional_else at all b) l refl))

-- ---- a `case`

module _ (at : Pos) (e : PlainExpression) (all : PlainArms) (sc : Scope) where
  pub case_stops : (f : StatementFault) → refusals.placed at (note_case sc e (heads_of all)) ≡ Err f →
      note_statement (case_of at e all) sc ≡ Err f
  case_stops f h = first_stops (refusals.placed at (note_case sc e (heads_of all))) (case_behind at all sc) f h

  pub case_stops_behind : (a : NotedExpression) (f : StatementFault) →
      refusals.placed at (note_case sc e (heads_of all)) ≡ Ok a →
      note_arms all sc ≡ Err f → note_statement (case_of at e all) sc ≡ Err f
  case_stops_behind a f h k =
      second_stops (refusals.placed at (note_case sc e (heads_of all))) (case_behind at all sc) a f h
      (first_stops (note_arms all sc) (λ (made : NotedArms). Ok (case_of at a made)) f k)

  pub case_noted : (a : NotedExpression) (noted : NotedArms) →
      refusals.placed at (note_case sc e (heads_of all)) ≡ Ok a →
      note_arms all sc ≡ Ok noted → note_statement (case_of at e all) sc ≡ Ok (case_of at a noted)
  case_noted a noted h k =
      second_ok (refusals.placed at (note_case sc e (heads_of all))) (case_behind at all sc) a (case_of at a noted) h
      (second_ok (note_arms all sc) (λ (made : NotedArms). Ok (case_of at a made)) noted (case_of at a noted) k refl)

-- ---- loops

module _ (at : Pos) (e : PlainExpression) (body : PlainStatements) (sc : Scope) where
  pub while_stops : (f : StatementFault) → refusals.placed at (note_test sc e) ≡ Err f →
      note_statement (while_loop at e body) sc ≡ Err f
  while_stops f h = first_stops (refusals.placed at (note_test sc e)) (while_behind at body sc) f h

  pub while_stops_behind : (a : NotedExpression) (f : StatementFault) → refusals.placed at (note_test sc e) ≡ Ok a →
      note_block body sc ≡ Err f → note_statement (while_loop at e body) sc ≡ Err f
  while_stops_behind a f h k =
      second_stops (refusals.placed at (note_test sc e)) (while_behind at body sc) a f h
      (first_stops (note_block body sc) (λ (b : NotedStatements). Ok (while_loop at a b)) f k)

  pub while_noted : (a : NotedExpression) (b : NotedStatements) → refusals.placed at (note_test sc e) ≡ Ok a →
      note_block body sc ≡ Ok b → note_statement (while_loop at e body) sc ≡ Ok (while_loop at a b)
  while_noted a b h k =
      second_ok (refusals.placed at (note_test sc e)) (while_behind at body sc) a (while_loop at a b) h
      (second_ok (note_block body sc) (λ (made : NotedStatements). Ok (while_loop at a made)) b
      (while_loop at a b) k refl)

module _ (at : Pos) (name : Placed Bytes) (first last : PlainExpression) (body : PlainStatements) (sc : Scope) where
  pub for_stops : (f : StatementFault) → refusals.placed at (note_bounds sc first last) ≡ Err f →
      note_statement (for_loop at name first last body) sc ≡ Err f
  for_stops f h = first_stops (refusals.placed at (note_bounds sc first last)) (for_behind at name body sc) f h

  -- the scope in the block
  abbrev pub for_scope : NotedExpression → Scope
  for_scope a = with_variable (fixed_variable name.name (type_of a)) sc

  pub for_stops_behind : (a z : NotedExpression) (inner : Scope) (f : StatementFault) →
      refusals.placed at (note_bounds sc first last) ≡ Ok (a, z) →
      inner ≡ for_scope a → note_block body inner ≡ Err f → note_statement (for_loop at name first last body) sc ≡ Err f
  for_stops_behind a z inner f h is k =
      second_stops (refusals.placed at (note_bounds sc first last)) (for_behind at name body sc) (a, z) f h
      (first_stops (note_block body (for_scope a)) (λ (b : NotedStatements). Ok (for_loop at name a z b)) f
      (ap (note_block body) (sym is) ∙ k))

  pub for_noted : (a z : NotedExpression) (inner : Scope) (b : NotedStatements) →
      refusals.placed at (note_bounds sc first last) ≡ Ok (a, z) →
      inner ≡ for_scope a → note_block body inner ≡ Ok b → note_statement (for_loop at name first last body)
      sc ≡ Ok (for_loop at name a z b)
  for_noted a z inner b h is k =
      second_ok (refusals.placed at (note_bounds sc first last)) (for_behind at name body sc) (a, z)
      (for_loop at name a z b) h
      (second_ok (note_block body (for_scope a)) (λ (made : NotedStatements). Ok (for_loop at name a z made))
      b (for_loop at name a z b) (ap (note_block body) (sym is) ∙ k) refl)

-- ---- borrow statements

-- what follows in the scope that is made of what was judged
entered : {A B : Type 0} (at : Pos) (judged : Noting A) (inner : A → Scope) (next : Scope → Judged B) →
    (refusals.placed at (judged >>= λ y. Ok (inner y)) then next) ≡ (refusals.placed at judged then λ y. next (inner y))
entered at (Ok y) inner next = refl
entered at (Err f) inner next = refl

entered_by : {A C B : Type 0} (at : Pos) (judged : Noting A) (made : A → C) (inner : C → Scope)
    (next : Scope → Judged B) →
    (refusals.placed at ((judged >>= λ y. Ok (made y)) >>= λ z. Ok (inner z)) then next)
    ≡ (refusals.placed at judged then λ y. next (inner (made y)))
entered_by at (Ok y) made inner next = refl
entered_by at (Err f) made inner next = refl

module _ (at : Pos) (kind : Access) (x r region : Placed Bytes) (body : PlainStatements) (stop : Pos) (sc : Scope) where
  -- a borrow statement by the scope in its block
  borrow_is : (refusals.placed at (lent_scope sc kind x.name r.name region.name) then borrow_behind at kind x
      r region body stop)
      ≡ note_statement (borrow_in at kind x r region body stop) sc
  borrow_is =
      entered_by at (judge_lent sc (mode_for kind) x.name) (borrow_type (mode_for kind) region.name)
      (λ (t : Meaning). with_reference r.name region.name t sc) (borrow_behind at kind x r region body stop)

  pub borrow_stops : (f : StatementFault) → refusals.placed at (lent_scope sc kind x.name r.name region.name) ≡ Err f →
      note_statement (borrow_in at kind x r region body stop) sc ≡ Err f
  borrow_stops f h =
      sym borrow_is ∙ first_stops (refusals.placed at (lent_scope sc kind x.name r.name region.name))
      (borrow_behind at kind x r region body stop) f h

  pub borrow_stops_behind : (inner : Scope) (f : StatementFault) →
      refusals.placed at (lent_scope sc kind x.name r.name region.name) ≡ Ok inner →
      note_block body inner ≡ Err f → note_statement (borrow_in at kind x r region body stop) sc ≡ Err f
  borrow_stops_behind inner f h k =
      sym borrow_is
      ∙ second_stops (refusals.placed at (lent_scope sc kind x.name r.name region.name))
      (borrow_behind at kind x r region body stop) inner f h
      (first_stops (note_block body inner) (λ (b : NotedStatements). Ok (borrow_in at kind x r region b stop)) f k)

  pub borrow_noted : (inner : Scope) (b : NotedStatements) →
      refusals.placed at (lent_scope sc kind x.name r.name region.name) ≡ Ok inner →
      note_block body inner ≡ Ok b → note_statement (borrow_in at kind x r region body stop) sc
      ≡ Ok (borrow_in at kind x r region b stop)
  borrow_noted inner b h k =
      sym borrow_is
      ∙ second_ok (refusals.placed at (lent_scope sc kind x.name r.name region.name))
      (borrow_behind at kind x r region body stop) inner (borrow_in at kind x r region b stop) h
      (second_ok (note_block body inner)
      (λ (made : NotedStatements). Ok (borrow_in at kind x r region made stop)) b
      (borrow_in at kind x r region b stop) k refl)

module _ (at : Pos) (r : Placed Bytes) (t : WrittenType) (mode : BorrowMode) (x : Placed Bytes)
    (body : PlainStatements) (stop : Pos) (sc : Scope) where
  -- a borrow statement with a written type by the scope in its block
  typed_is : (refusals.placed at (typed_scope sc r.name t mode x.name) then typed_behind at r t mode x body stop)
      ≡ note_statement (borrow_typed at r t mode x body stop) sc
  typed_is =
      entered at (judge_borrow sc t mode x.name) (λ (y : Bytes × Meaning). with_reference r.name y.0 y.1 sc)
      (typed_behind at r t mode x body stop)

  pub typed_stops : (f : StatementFault) → refusals.placed at (typed_scope sc r.name t mode x.name) ≡ Err f →
      note_statement (borrow_typed at r t mode x body stop) sc ≡ Err f
  typed_stops f h =
      sym typed_is ∙ first_stops (refusals.placed at (typed_scope sc r.name t mode x.name))
      (typed_behind at r t mode x body stop) f h

  pub typed_stops_behind : (inner : Scope) (f : StatementFault) →
      refusals.placed at (typed_scope sc r.name t mode x.name) ≡ Ok inner →
      note_block body inner ≡ Err f → note_statement (borrow_typed at r t mode x body stop) sc ≡ Err f
  typed_stops_behind inner f h k =
      sym typed_is
      ∙ second_stops (refusals.placed at (typed_scope sc r.name t mode x.name))
      (typed_behind at r t mode x body stop) inner f h
      (first_stops (note_block body inner) (λ (b : NotedStatements). Ok (borrow_typed at r t mode x b stop)) f k)

  pub typed_noted : (inner : Scope) (b : NotedStatements) →
      refusals.placed at (typed_scope sc r.name t mode x.name) ≡ Ok inner →
      note_block body inner ≡ Ok b → note_statement (borrow_typed at r t mode x body stop) sc
      ≡ Ok (borrow_typed at r t mode x b stop)
  typed_noted inner b h k =
      sym typed_is
      ∙ second_ok (refusals.placed at (typed_scope sc r.name t mode x.name))
      (typed_behind at r t mode x body stop) inner (borrow_typed at r t mode x b stop) h
      (second_ok (note_block body inner)
      (λ (made : NotedStatements). Ok (borrow_typed at r t mode x made stop)) b
      (borrow_typed at r t mode x b stop) k refl)

-- ---- scopes

-- a scope with so many variables left
abbrev pub left_to : ℕ → Scope → Scope
left_to depth sc = without (length sc.variables - depth) sc

-- behind a block that was entered, and left by so many variables, the scope is as it was
pub left_again : (old inner after final : Scope) (depth : ℕ) → depth ≡ length old.variables →
    left_to (length old.variables) inner ≡ old →
    after ≡ inner → final ≡ left_to depth after → final ≡ old
left_again old inner after final depth deep back same is =
    is ∙ ap (λ (n : ℕ). left_to n after) deep ∙ ap (left_to (length old.variables)) same ∙ back

-- behind the block of a borrow statement, of which the region is closed too, the scope is as it was
pub closed_again : (old inner after left final : Scope) (depth : ℕ) → depth ≡ length old.variables →
    closed_in (left_to (length old.variables) inner) ≡ old → after ≡ inner → left ≡ left_to depth after →
    final ≡ closed_in left → final ≡ old
closed_again old inner after left final depth deep back same is_left is =
    is
    ∙ ap closed_in (is_left ∙ ap (λ (n : ℕ). left_to n after) deep ∙ ap (left_to (length old.variables)) same)
    ∙ back

-- one variable is one more than none
one_more : (one : Variable) (all : List Variable) → length (one ∷ all) - length all ≡ 1
one_more one all = omega arith

-- in the block of a borrow statement there is one more variable, and one more region
reference_back : (name region : Bytes) (of : Meaning) (sc : Scope) →
    closed_in (left_to (length sc.variables) (with_reference name region of sc)) ≡ sc
reference_back name region of sc =
    ap (λ (n : ℕ). closed_in (without n (with_reference name region of sc)))
    (one_more (fixed_variable name of) sc.variables)
    ∙ reference_left name region of sc

-- behind the block of a `for`
pub variable_back : (one : Variable) (sc inner : Scope) → inner ≡ with_variable one sc →
    left_to (length sc.variables) inner ≡ sc
variable_back one sc inner is = grown_left sc inner (one ∷ [], is)

-- behind the block of an arm
pub bound_back : (binds : List (Bound Bytes)) (sc inner : Scope) → inner ≡ with_bound binds sc →
    left_to (length sc.variables) inner ≡ sc
bound_back binds sc inner is = ap (left_to (length sc.variables)) is ∙ grown_left sc (with_bound binds sc)
    (bound_grown binds sc)

no_scope : (f : StatementFault) (inner : Scope) → ◌≡◌ {A = Judged Scope} (Err f) (Ok inner) → ⊥
no_scope f inner h = cc

scope_made : (at : Pos) (name : Bytes) (judged : Noting (Bytes × Meaning)) (sc inner : Scope) →
    refusals.placed at (judged >>= λ y. Ok (with_reference name y.0 y.1 sc)) ≡ Ok inner →
    closed_in (left_to (length sc.variables) inner) ≡ sc
scope_made at name (Ok y) sc inner h =
    ap (λ (s : Scope). closed_in (left_to (length sc.variables) s))
    (sym (judged_is (with_reference name y.0 y.1 sc) inner h)) ∙ reference_back name y.0 y.1 sc
scope_made at name (Err f) sc inner h = absurd (no_scope (refusals.fault_at at f) inner h)

-- behind the block of a borrow statement with a written type that was judged
pub typed_back : (at : Pos) (name : Bytes) (t : WrittenType) (mode : BorrowMode) (x : Bytes) (sc inner : Scope) →
    refusals.placed at (typed_scope sc name t mode x) ≡ Ok inner → closed_in (left_to (length sc.variables) inner) ≡ sc
typed_back at name t mode x sc inner h = scope_made at name (judge_borrow sc t mode x) sc inner h

lent_made : (at : Pos) (name region : Bytes) (made : Meaning → Meaning) (judged : Noting Meaning) (sc inner : Scope) →
    refusals.placed at ((judged >>= λ of. Ok (made of)) >>= λ t. Ok (with_reference name region t sc))
    ≡ Ok inner → closed_in (left_to (length sc.variables) inner) ≡ sc
lent_made at name region made (Ok of) sc inner h =
    ap (λ (s : Scope). closed_in (left_to (length sc.variables) s))
    (sym (judged_is (with_reference name region (made of) sc) inner h)) ∙ reference_back name region (made of)
    sc
lent_made at name region made (Err f) sc inner h = absurd (no_scope (refusals.fault_at at f) inner h)

-- behind the block of a borrow statement without one
pub lent_back : (at : Pos) (kind : Access) (x name region : Bytes) (sc inner : Scope) →
    refusals.placed at (lent_scope sc kind x name region) ≡ Ok inner →
    closed_in (left_to (length sc.variables) inner) ≡ sc
lent_back at kind x name region sc inner h =
    lent_made at name region (borrow_type (mode_for kind) region) (judge_lent sc (mode_for kind) x) sc inner h
