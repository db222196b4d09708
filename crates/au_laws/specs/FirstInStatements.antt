-- The first fault of a statement and of a block, in terms of good notes alone.
use Rattle.std.specs.Prelude.{◌≡◌, true, false, List, [], ◌∷◌, Some, None}
use Rattle.au_base.specs.declared.places.Pos.{Pos}
use Rattle.au_syntax.specs.declared.expressions.BorrowMode.{BorrowMode}
use Rattle.au_syntax.specs.declared.statements.Binding.{Binding}
use Rattle.au_syntax.specs.declared.types.Access.{Access}
use Rattle.au_syntax.specs.Names.{Placed}
use Rattle.au_syntax.specs.Plain.{Bytes, PlainArms, PlainBranches, PlainExpression, PlainStatement}
use Rattle.au_syntax.specs.Plain.{PlainStatements}
use Rattle.au_syntax.specs.Statements.{declare, destructure, assign, assign_through, conditional}
use Rattle.au_syntax.specs.Statements.{conditional_else, case_of, while_loop, for_loop, borrow_in}
use Rattle.au_syntax.specs.Statements.{borrow_typed, discard, return_of, statements, no_branches, branches}
use Rattle.au_syntax.specs.Statements.{arms}
use Rattle.au_syntax.specs.Types.{Bound, WrittenType}
use Rattle.au_types.specs.declared.types.Region.{Region}
use Rattle.au_types.specs.Types as mean
use Rattle.au_types.specs.Types.{Meaning}
use Rattle.au_judged_types.specs.Reasons.{Reason, means, fails}
use Rattle.au_typing.specs.Scopes.{Scope, Typed, Variable}
use Rattle.au_typing.specs.Faults.{Fault, after_return, reason_why, why}
use Rattle.au_typing.specs.Good.{IsNoting}
use Rattle.au_typing.specs.Lookups.{IsPart, is_free_in, variable_of, written_means}
use Rattle.au_typing.specs.Notes.{Mode, NotedExpression, erase, type_of}
use Rattle.au_typing.specs.Order.{Paired}
use Rattle.au_typing.specs.DerivationFaults.{StatementFault, fault_at, refused}
use Rattle.au_typing.specs.InScope.{after, fixed_variable, with_bound, with_reference, with_variable}
use Rattle.au_typing.specs.Parts.{borrow_type, heads_of, mode_for}
use Rattle.au_typing.specs.Returns.{returns}
use Rattle.au_typing.specs.DerivationSearch.{place_of}
use Rattle.au_typing.specs.Statements.{GoodBlock, GoodBorrow, GoodBounds, GoodCase, GoodStatement}
use Rattle.au_typing.specs.Statements.{IsLent}
use Rattle.au_typing.specs.Trees.{NotedStatement, NotedStatements, erase_block, erase_statement}
use Rattle.au_laws.specs.Clauses.{TellsFirst}
use Rattle.au_laws.specs.FirstFaults.{FirstFault, PairNoted}
use Rattle.au_laws.specs.StatementClauses.{of_assigned, of_borrow_into, of_bounds, of_case, of_free}
use Rattle.au_laws.specs.StatementClauses.{of_lent, of_put, of_taken}

-- ---- the notes of a statement's own

-- A place that may be assigned to: a variable that `var` declares, or a part of it, whose type is Free.
pub record AssignsTo (sc : Scope) (x : Bytes) (path : List (Placed Bytes)) (of : Meaning) : Type 0 where
  pub variable : Variable
  pub known : variable_of sc x ≡ Some variable
  pub assignable : variable.assignable ≡ true
  pub part : IsPart sc variable.of path of
  pub free : is_free_in sc of ≡ true

-- A place behind a write reference to a record that is known here, whose type is Free.
pub record PutsTo (sc : Scope) (r : Bytes) (path : List (Placed Bytes)) (of : Meaning) : Type 0 where
  pub variable : Variable
  pub known : variable_of sc r ≡ Some variable
  pub to : Meaning
  pub region : Region
  pub writes : variable.of ≡ mean.writes to region
  pub fields : List Typed
  pub is_record : sc.outside.fields to ≡ Some fields
  pub part : IsPart sc to path of
  pub free : is_free_in sc of ≡ true

-- A test of a conditional is judged next: those in front of it have good notes.
pub data TestNext (sc : Scope) : PlainBranches → PlainExpression → Type 0 where
  this_test : (e : PlainExpression) (block : PlainStatements) (rest : PlainBranches)
      → TestNext sc (branches e block rest) e
  a_later_test : (e d : PlainExpression) (block : PlainStatements) (rest : PlainBranches)
      (x : NotedExpression) → IsNoting sc e (Some mean.truth) x → TestNext sc rest d
      → TestNext sc (branches e block rest) d

-- An expression of a statement is judged next in this mode: whatever stands before it is good.
pub data ExpressionNext (sc : Scope) : PlainStatement → PlainExpression → Mode → Type 0 where
  of_declared : (at : Pos) (binding : Binding) (name : Placed Bytes) (t : WrittenType) (e : PlainExpression)
      (of : Meaning) → written_means sc t ≡ means of
      → ExpressionNext sc (declare at binding name t e) e (Some of)
  of_destructured : (at : Pos) (binds : List (Bound Bytes)) (e : PlainExpression)
      → ExpressionNext sc (destructure at binds e) e None
  of_assignment : (at : Pos) (x : Placed Bytes) (path : List (Placed Bytes)) (e : PlainExpression)
      (of : Meaning) → AssignsTo sc x.name path of → ExpressionNext sc (assign at x path e) e (Some of)
  of_assignment_through : (at : Pos) (r : Placed Bytes) (path : List (Placed Bytes)) (e : PlainExpression)
      (of : Meaning) → PutsTo sc r.name path of → ExpressionNext sc (assign_through at r path e) e (Some of)
  of_tests : (at : Pos) (tests : PlainBranches) (e : PlainExpression) → TestNext sc tests e
      → ExpressionNext sc (conditional at tests) e (Some mean.truth)
  of_tests_with_else : (at : Pos) (tests : PlainBranches) (block : PlainStatements) (e : PlainExpression)
      → TestNext sc tests e → ExpressionNext sc (conditional_else at tests block) e (Some mean.truth)
  of_case_of : (at : Pos) (e : PlainExpression) (all : PlainArms)
      → ExpressionNext sc (case_of at e all) e None
  of_while : (at : Pos) (e : PlainExpression) (block : PlainStatements)
      → ExpressionNext sc (while_loop at e block) e (Some mean.truth)
  of_for : (at : Pos) (name : Placed Bytes) (first last : PlainExpression) (block : PlainStatements)
      (e : PlainExpression) (own : Mode) → Paired sc first last None e own
      → ExpressionNext sc (for_loop at name first last block) e own
  of_call : (at : Pos) (e : PlainExpression) → ExpressionNext sc (discard at e) e None
  of_return : (at : Pos) (e : PlainExpression) → ExpressionNext sc (return_of at e) e (Some sc.result)

-- A statement breaks a clause of its own rule, and what is judged before that clause is good.
pub data StatementBreaks (sc : Scope) : PlainStatement → Fault → Type 0 where
  a_declared_type : (at : Pos) (binding : Binding) (name : Placed Bytes) (t : WrittenType)
      (e : PlainExpression) (reason : Reason) → written_means sc t ≡ fails reason
      → StatementBreaks sc (declare at binding name t e) (why (reason_why reason))
  a_destructuring : (at : Pos) (binds : List (Bound Bytes)) (e : PlainExpression) (f : Fault)
      (x : NotedExpression) → IsNoting sc e None x → TellsFirst (of_taken sc binds (type_of x)) f
      → StatementBreaks sc (destructure at binds e) f
  an_assigned_place : (at : Pos) (x : Placed Bytes) (path : List (Placed Bytes)) (e : PlainExpression)
      (f : Fault) → TellsFirst (of_assigned sc x.name path) f → StatementBreaks sc (assign at x path e) f
  a_place_behind : (at : Pos) (r : Placed Bytes) (path : List (Placed Bytes)) (e : PlainExpression)
      (f : Fault) → TellsFirst (of_put sc r.name path) f → StatementBreaks sc (assign_through at r path e) f
  a_case : (at : Pos) (e : PlainExpression) (all : PlainArms) (f : Fault) (x : NotedExpression)
      → IsNoting sc e None x → TellsFirst (of_case sc (heads_of all) (type_of x)) f
      → StatementBreaks sc (case_of at e all) f
  bounds : (at : Pos) (name : Placed Bytes) (first last : PlainExpression) (block : PlainStatements)
      (f : Fault) (x y : NotedExpression) → PairNoted sc first last None x y → TellsFirst (of_bounds x y) f
      → StatementBreaks sc (for_loop at name first last block) f
  a_borrow : (at : Pos) (kind : Access) (x r region : Placed Bytes) (block : PlainStatements) (stop : Pos)
      (f : Fault) → TellsFirst (of_lent sc (mode_for kind) x.name (λ of. [])) f
      → StatementBreaks sc (borrow_in at kind x r region block stop) f
  a_typed_borrow : (at : Pos) (r : Placed Bytes) (t : WrittenType) (mode : BorrowMode) (x : Placed Bytes)
      (block : PlainStatements) (stop : Pos) (f : Fault) → TellsFirst (of_borrow_into sc t mode x.name) f
      → StatementBreaks sc (borrow_typed at r t mode x block stop) f
  a_result : (at : Pos) (e : PlainExpression) (f : Fault) (x : NotedExpression) → IsNoting sc e None x
      → TellsFirst (of_free sc (type_of x)) f → StatementBreaks sc (discard at e) f

-- The first fault among the notes of a statement's own types, names and expressions.
pub data OwnFault (sc : Scope) : PlainStatement → Fault → Type 0 where
  of_an_expression : (s : PlainStatement) (e : PlainExpression) (mode : Mode) (f : Fault)
      → ExpressionNext sc s e mode → FirstFault sc e mode f → OwnFault sc s f
  of_the_statement : (s : PlainStatement) (f : Fault) → StatementBreaks sc s f → OwnFault sc s f

-- ---- the blocks in a statement

-- A statement and a block have these good notes.
abbrev pub StatementNoted : PlainStatement → Scope → NotedStatement → Type 0
StatementNoted s sc a = GoodStatement a sc × (erase_statement a ≡ s)

abbrev pub BlockNoted : PlainStatements → Scope → NotedStatements → Type 0
BlockNoted ss sc a = GoodBlock a sc × (erase_block a ≡ ss)

-- Each test of a conditional has good notes; and so does each block behind a test.
abbrev pub TestsNoted : Scope → PlainBranches → Type 0
TestsNoted sc no_branches = Unit {0}
TestsNoted sc (branches e block rest) =
    ((x : NotedExpression) × IsNoting sc e (Some mean.truth) x) × TestsNoted sc rest

abbrev pub BlocksNoted : Scope → PlainBranches → Type 0
BlocksNoted sc no_branches = Unit {0}
BlocksNoted sc (branches e block rest) =
    ((b : NotedStatements) × BlockNoted block sc b) × BlocksNoted sc rest

-- The block behind a test is judged next among those behind tests: those in front of it have good notes.
pub data BehindTest (sc : Scope) : PlainBranches → PlainStatements → Type 0 where
  behind_this_test : (e : PlainExpression) (block : PlainStatements) (rest : PlainBranches)
      → BehindTest sc (branches e block rest) block
  behind_a_later_test : (e : PlainExpression) (block d : PlainStatements) (rest : PlainBranches)
      (b : NotedStatements) → BlockNoted block sc b → BehindTest sc rest d
      → BehindTest sc (branches e block rest) d

-- The block of an arm is judged next among those of arms, with what the arm binds in scope.
pub data InArm (sc : Scope) : PlainArms → PlainStatements → Scope → Type 0 where
  in_this_arm : (at : Pos) (n : Placed Bytes) (binds : List (Bound Bytes)) (block : PlainStatements)
      (rest : PlainArms) → InArm sc (arms at n binds block rest) block (with_bound binds sc)
  in_a_later_arm : (at : Pos) (n : Placed Bytes) (binds : List (Bound Bytes)) (block d : PlainStatements)
      (rest : PlainArms) (inner : Scope) (b : NotedStatements) → BlockNoted block (with_bound binds sc) b
      → InArm sc rest d inner → InArm sc (arms at n binds block rest) d inner

-- A block in a statement is judged next, in a scope of its own: all notes of the statement's own are good,
-- and so are the blocks in front.
pub data BlockNext (sc : Scope) : PlainStatement → PlainStatements → Scope → Type 0 where
  behind_a_test : (at : Pos) (tests : PlainBranches) (d : PlainStatements) → TestsNoted sc tests
      → BehindTest sc tests d → BlockNext sc (conditional at tests) d sc
  behind_a_test_with_else : (at : Pos) (tests : PlainBranches) (block d : PlainStatements)
      → TestsNoted sc tests → BehindTest sc tests d → BlockNext sc (conditional_else at tests block) d sc
  behind_else : (at : Pos) (tests : PlainBranches) (block : PlainStatements) → TestsNoted sc tests
      → BlocksNoted sc tests → BlockNext sc (conditional_else at tests block) block sc
  in_an_arm : (at : Pos) (e : PlainExpression) (all : PlainArms) (d : PlainStatements) (inner : Scope)
      (x : NotedExpression) → GoodCase sc x (heads_of all) → erase x ≡ e → InArm sc all d inner
      → BlockNext sc (case_of at e all) d inner
  in_a_while : (at : Pos) (e : PlainExpression) (block : PlainStatements) (x : NotedExpression)
      → IsNoting sc e (Some mean.truth) x → BlockNext sc (while_loop at e block) block sc
  in_a_for : (at : Pos) (name : Placed Bytes) (first last : PlainExpression) (block : PlainStatements)
      (x y : NotedExpression) → GoodBounds sc x y → erase x ≡ first → erase y ≡ last
      → BlockNext sc (for_loop at name first last block) block
      (with_variable (fixed_variable name.name (type_of x)) sc)
  in_a_borrow : (at : Pos) (kind : Access) (x r region : Placed Bytes) (block : PlainStatements) (stop : Pos)
      (of : Meaning) → IsLent sc (mode_for kind) x.name of
      → BlockNext sc (borrow_in at kind x r region block stop) block
      (with_reference r.name region.name (borrow_type (mode_for kind) region.name of) sc)
  in_a_typed_borrow : (at : Pos) (r : Placed Bytes) (t : WrittenType) (mode : BorrowMode) (x : Placed Bytes)
      (block : PlainStatements) (stop : Pos) (region : Bytes) (of : Meaning)
      → GoodBorrow sc t mode x.name region of
      → BlockNext sc (borrow_typed at r t mode x block stop) block (with_reference r.name region of sc)

-- ---- statements and blocks

mutual
  -- What stops the noting of a statement: a fault among its own notes, which is told at its place, or that of
  -- the block in it that is judged next.
  pub data FaultOf : PlainStatement → Scope → StatementFault → Type 0 where
    its_own : (s : PlainStatement) (sc : Scope) (f : Fault) → OwnFault sc s f
        → FaultOf s sc (fault_at (place_of s) f)
    of_a_block : (s : PlainStatement) (d : PlainStatements) (sc inner : Scope) (f : StatementFault)
        → BlockNext sc s d inner → FaultIn d inner f → FaultOf s sc f

  -- What stops the noting of a block: what stops that of the first statement that has no good notes, or that
  -- follows one that returns on every path.
  pub data FaultIn : PlainStatements → Scope → StatementFault → Type 0 where
    of_the_first : (s : PlainStatement) (rest : PlainStatements) (sc : Scope) (f : StatementFault)
        → FaultOf s sc f → FaultIn (statements s rest) sc f
    behind_return : (s next : PlainStatement) (rest : PlainStatements) (sc : Scope) (a : NotedStatement)
        → StatementNoted s sc a → returns s ≡ true
        → FaultIn (statements s (statements next rest)) sc (refused (place_of next) after_return)
    of_the_rest : (s : PlainStatement) (rest : PlainStatements) (sc : Scope) (a : NotedStatement)
        (f : StatementFault) → StatementNoted s sc a → returns s ≡ false → FaultIn rest (after s sc) f
        → FaultIn (statements s rest) sc f
