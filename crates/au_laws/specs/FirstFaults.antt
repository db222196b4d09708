-- The first node of an expression that fails: what stops the noting, in terms of good notes alone.
use Rattle.std.specs.Prelude.{◌≡◌, List, [], Bool, true, false, Some, None}
use Rattle.au_syntax.specs.declared.expressions.BinaryOperator.{BinaryOperator}
use Rattle.au_syntax.specs.Expressions.{Node, parenthesized, dereference, binary, negation, typed, choice}
use Rattle.au_syntax.specs.Plain.{PlainExpression}
use Rattle.au_syntax.specs.Types.{WrittenType}
use Rattle.au_types.specs.Types.{Meaning, parameter, truth}
use Rattle.au_matching.specs.Bindings.{Bindings}
use Rattle.au_matching.specs.Fixed.{fixed}
use Rattle.au_matching.specs.Matched.{matched}
use Rattle.au_matching.specs.Substituted.{substituted}
use Rattle.au_judged_types.specs.Reasons.{Reason, means, fails}
use Rattle.au_typing.specs.Scopes.{Callable, Scope}
use Rattle.au_typing.specs.Bare.{is_arithmetic, is_bare}
use Rattle.au_typing.specs.Faults.{Fault, why, different, reason_why}
use Rattle.au_typing.specs.Good.{AllGood, IsNoting, PairedModes}
use Rattle.au_typing.specs.Lookups.{written_means}
use Rattle.au_typing.specs.Notes.{Mode, NotedExpression, erase, note_of, type_of}
use Rattle.au_typing.specs.Order.{JudgedNext}
use Rattle.au_typing.specs.Rules.{int32, is_logical}
use Rattle.au_laws.specs.CallClauses.{Begins, Call, ComesTo, FirstTaken, GoesOver, IsCall}
use Rattle.au_laws.specs.CallClauses.{SecondTaken, of_called, of_callee, wanted_under}
use Rattle.au_laws.specs.Clauses.{TellsFirst, has_type}
use Rattle.au_laws.specs.NodeClauses.{of_arithmetic, of_choice, of_comparison, of_dereference}
use Rattle.au_laws.specs.NodeClauses.{of_leaf}

-- Two operands have good notes, with the modes of a pair.
pub record PairNoted (scope : Scope) (a b : PlainExpression) (mode : Mode) (x y : NotedExpression) : Type 0
  where
    pub first : AllGood scope x
    pub second : AllGood scope y
    pub first_is : erase x ≡ a
    pub second_is : erase y ≡ b
    pub modes : PairedModes (is_bare a) (is_bare b) mode (note_of x) (note_of y)

-- a type parameter alone
abbrev pub is_parameter : Meaning → Bool
is_parameter (parameter name) = true
is_parameter t = false

-- What is wanted of a bare argument: the parameter's type, where it is fixed, and nothing where that is a
-- type parameter alone.
pub data BareWants : Bindings → Meaning → Mode → Type 0 where
  its_type : (s : Bindings) (t : Meaning) → fixed s t ≡ true → BareWants s t (Some (substituted s t))
  nothing : (s : Bindings) (t : Meaning) → fixed s t ≡ false → is_parameter t ≡ true → BareWants s t None

-- An argument of a call is judged next, in a mode of its own: the clauses before the arguments hold, and
-- those in front of it have good notes. All that aren't bare come before those that are.
pub data ArgumentNext (scope : Scope) : PlainExpression → Mode → PlainExpression → Mode → Type 0 where
  in_first_pass : (e d : PlainExpression) (mode : Mode) (one : Call) (called : Callable)
      (types : List Meaning) (t : Meaning) (s r : Bindings)
      → IsCall e one → Begins scope one mode called types s
      → ComesTo (FirstTaken scope) one.args types s d t r → is_bare d ≡ false
      → ArgumentNext scope e mode d (wanted_under r t)
  in_second_pass : (e d : PlainExpression) (mode own : Mode) (one : Call) (called : Callable)
      (types : List Meaning) (t : Meaning) (s q r : Bindings)
      → IsCall e one → Begins scope one mode called types s
      → GoesOver (FirstTaken scope) one.args types s q
      → ComesTo (SecondTaken scope) one.args types q d t r → is_bare d ≡ true → BareWants r t own
      → ArgumentNext scope e mode d own

-- A node breaks a clause of its own rule, and what is judged before that clause is good: nothing at all, its
-- operands, or of a call the arguments in front.
pub data Breaks (scope : Scope) : PlainExpression → Mode → Fault → Type 0 where
  a_leaf : (e : PlainExpression) (mode : Mode) (fault : Fault)
      → TellsFirst (of_leaf scope e mode) fault → Breaks scope e mode fault
  parentheses : (u : Node (Unit {0})) (e : PlainExpression) (mode : Mode) (fault : Fault)
      (x : NotedExpression) → IsNoting scope e mode x
      → TellsFirst (has_type mode (type_of x) []) fault → Breaks scope (parenthesized u e) mode fault
  a_copy : (u : Node (Unit {0})) (e : PlainExpression) (mode : Mode) (fault : Fault)
      (x : NotedExpression) → IsNoting scope e None x
      → TellsFirst (of_dereference scope mode (type_of x)) fault → Breaks scope (dereference u e) mode fault
  a_negation : (u : Node (Unit {0})) (e : PlainExpression) (mode : Mode) (fault : Fault)
      (x : NotedExpression) → IsNoting scope e (Some truth) x
      → TellsFirst (has_type mode truth []) fault → Breaks scope (negation u e) mode fault
  a_written_type : (u : Node (Unit {0})) (e : PlainExpression) (t : WrittenType) (mode : Mode)
      (reason : Reason) → written_means scope t ≡ fails reason
      → Breaks scope (typed u e t) mode (why (reason_why reason))
  a_typed_one : (u : Node (Unit {0})) (e : PlainExpression) (t : WrittenType) (mode : Mode) (fault : Fault)
      (of : Meaning) (x : NotedExpression) → written_means scope t ≡ means of → IsNoting scope e (Some of) x
      → TellsFirst (has_type mode of []) fault → Breaks scope (typed u e t) mode fault
  an_arithmetic : (u : Node (Unit {0})) (op : BinaryOperator) (a b : PlainExpression) (mode : Mode)
      (fault : Fault) (x y : NotedExpression) → is_arithmetic op ≡ true → PairNoted scope a b mode x y
      → TellsFirst (of_arithmetic mode x y) fault → Breaks scope (binary u op a b) mode fault
  a_logical : (u : Node (Unit {0})) (op : BinaryOperator) (a b : PlainExpression) (mode : Mode)
      (fault : Fault) (x y : NotedExpression) → is_arithmetic op ≡ false → is_logical op ≡ true
      → IsNoting scope a (Some truth) x → IsNoting scope b (Some truth) y
      → TellsFirst (has_type mode truth []) fault → Breaks scope (binary u op a b) mode fault
  a_comparison : (u : Node (Unit {0})) (op : BinaryOperator) (a b : PlainExpression) (mode : Mode)
      (fault : Fault) (x y : NotedExpression) → is_arithmetic op ≡ false → is_logical op ≡ false
      → PairNoted scope a b None x y
      → TellsFirst (of_comparison op mode x y) fault → Breaks scope (binary u op a b) mode fault
  a_choice : (u : Node (Unit {0})) (c a b : PlainExpression) (mode : Mode) (fault : Fault)
      (z x y : NotedExpression) → IsNoting scope c (Some truth) z → PairNoted scope a b mode x y
      → TellsFirst (of_choice mode x y) fault → Breaks scope (choice u c a b) mode fault
  -- what is called, the number or the labels of its arguments, or its result
  a_callee : (e : PlainExpression) (mode : Mode) (fault : Fault) (one : Call) → IsCall e one
      → TellsFirst (of_callee scope one mode) fault → Breaks scope e mode fault
  -- an argument whose type the parameter's type can't become
  another_type : (e d : PlainExpression) (mode : Mode) (one : Call) (called : Callable)
      (types : List Meaning) (t : Meaning) (s r : Bindings) (x : NotedExpression)
      → IsCall e one → Begins scope one mode called types s
      → ComesTo (FirstTaken scope) one.args types s d t r → is_bare d ≡ false → fixed r t ≡ false
      → IsNoting scope d None x → matched t (type_of x) r ≡ None
      → Breaks scope e mode (why (different (substituted r t) (type_of x)))
  -- a bare argument, where the parameter's type isn't fixed and is no type parameter alone
  no_parameter : (e d : PlainExpression) (mode : Mode) (one : Call) (called : Callable)
      (types : List Meaning) (t : Meaning) (s q r : Bindings)
      → IsCall e one → Begins scope one mode called types s
      → GoesOver (FirstTaken scope) one.args types s q
      → ComesTo (SecondTaken scope) one.args types q d t r → is_bare d ≡ true → fixed r t ≡ false
      → is_parameter t ≡ false → Breaks scope e mode (why (different (substituted r t) int32))
  -- a bare argument, where the type parameter can't become Int32
  no_int32 : (e d : PlainExpression) (mode : Mode) (one : Call) (called : Callable)
      (types : List Meaning) (t : Meaning) (s q r : Bindings) (x : NotedExpression)
      → IsCall e one → Begins scope one mode called types s
      → GoesOver (FirstTaken scope) one.args types s q
      → ComesTo (SecondTaken scope) one.args types q d t r → is_bare d ≡ true → fixed r t ≡ false
      → is_parameter t ≡ true → IsNoting scope d None x → matched t int32 r ≡ None
      → Breaks scope e mode (why (different (substituted r t) int32))
  -- what is judged of a call behind its arguments
  a_call : (e : PlainExpression) (mode : Mode) (fault : Fault) (one : Call) (called : Callable)
      (types : List Meaning) (s q r : Bindings)
      → IsCall e one → Begins scope one mode called types s
      → GoesOver (FirstTaken scope) one.args types s q → GoesOver (SecondTaken scope) one.args types q r
      → TellsFirst (of_called scope mode called r) fault → Breaks scope e mode fault

-- What stops the noting of an expression in a mode: what stops that of the part or the argument that is
-- judged next, or a clause that the expression itself breaks. So it is told of the first node that fails.
pub data FirstFault (scope : Scope) : PlainExpression → Mode → Fault → Type 0 where
  of_a_part : (e d : PlainExpression) (mode own : Mode) (fault : Fault)
      → JudgedNext scope e mode d own → FirstFault scope d own fault → FirstFault scope e mode fault
  of_an_argument : (e d : PlainExpression) (mode own : Mode) (fault : Fault)
      → ArgumentNext scope e mode d own → FirstFault scope d own fault → FirstFault scope e mode fault
  of_the_node : (e : PlainExpression) (mode : Mode) (fault : Fault)
      → Breaks scope e mode fault → FirstFault scope e mode fault
