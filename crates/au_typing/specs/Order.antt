-- In which order the parts of an expression are judged.
use Rattle.std.specs.Prelude.{◌≡◌, true, false, Some, None, if◌then◌else◌}
use Rattle.au_syntax.specs.declared.expressions.BinaryOperator.{BinaryOperator}
use Rattle.au_syntax.specs.Expressions.{Node, parenthesized, dereference, binary, negation, typed, choice}
use Rattle.au_syntax.specs.Plain.{PlainExpression}
use Rattle.au_syntax.specs.Types.{WrittenType}
use Rattle.au_types.specs.Types.{Meaning, truth}
use Rattle.au_judged_types.specs.Reasons.{means}
use Rattle.au_typing.specs.Scopes.{Scope}
use Rattle.au_typing.specs.Bare.{is_arithmetic, is_bare}
use Rattle.au_typing.specs.Good.{IsNoting}
use Rattle.au_typing.specs.Lookups.{written_means}
use Rattle.au_typing.specs.Notes.{Mode, NotedExpression, type_of}
use Rattle.au_typing.specs.Rules.{is_logical}

-- the mode of paired operands of an operation: that of the whole for `+ - * /`, and none for comparisons
abbrev pub pair_mode : BinaryOperator → Mode → Mode
pair_mode op mode = if is_arithmetic op then mode else None

-- Of two paired operands the first in the text comes first, but one that isn't bare before one that is. The
-- mode of the later one is the pair's, but where it alone is bare it wants the type of the earlier one.
pub data Paired (scope : Scope) (a b : PlainExpression) (mode : Mode) : PlainExpression → Mode → Type 0 where
  both_bare_first : is_bare a ≡ true → is_bare b ≡ true → Paired scope a b mode a mode
  none_bare_first : is_bare a ≡ false → is_bare b ≡ false → Paired scope a b mode a mode
  left_first : is_bare a ≡ false → is_bare b ≡ true → Paired scope a b mode a mode
  right_first : is_bare a ≡ true → is_bare b ≡ false → Paired scope a b mode b mode
  both_bare_next : (x : NotedExpression) → is_bare a ≡ true → is_bare b ≡ true
      → IsNoting scope a mode x → Paired scope a b mode b mode
  none_bare_next : (x : NotedExpression) → is_bare a ≡ false → is_bare b ≡ false
      → IsNoting scope a mode x → Paired scope a b mode b mode
  right_next : (x : NotedExpression) → is_bare a ≡ false → is_bare b ≡ true
      → IsNoting scope a mode x → Paired scope a b mode b (Some (type_of x))
  left_next : (x : NotedExpression) → is_bare a ≡ true → is_bare b ≡ false
      → IsNoting scope b mode x → Paired scope a b mode a (Some (type_of x))

-- A part of an expression in a mode is judged next, in a mode of its own: whatever is judged before it has a
-- good noting. A written type is judged before the expression that wants it, a test before what it chooses,
-- and operands from left to right.
pub data JudgedNext (scope : Scope) : PlainExpression → Mode → PlainExpression → Mode → Type 0 where
  in_parentheses : (u : Node (Unit {0})) (e : PlainExpression) (mode : Mode)
      → JudgedNext scope (parenthesized u e) mode e mode
  what_is_read : (u : Node (Unit {0})) (e : PlainExpression) (mode : Mode)
      → JudgedNext scope (dereference u e) mode e None
  what_is_negated : (u : Node (Unit {0})) (e : PlainExpression) (mode : Mode)
      → JudgedNext scope (negation u e) mode e (Some truth)
  what_is_typed : (u : Node (Unit {0})) (e : PlainExpression) (t : WrittenType) (mode : Mode) (of : Meaning)
      → written_means scope t ≡ means of → JudgedNext scope (typed u e t) mode e (Some of)
  left_of_logical : (u : Node (Unit {0})) (op : BinaryOperator) (a b : PlainExpression) (mode : Mode)
      → is_arithmetic op ≡ false → is_logical op ≡ true
      → JudgedNext scope (binary u op a b) mode a (Some truth)
  right_of_logical : (u : Node (Unit {0})) (op : BinaryOperator) (a b : PlainExpression) (mode : Mode)
      (x : NotedExpression) → is_arithmetic op ≡ false → is_logical op ≡ true
      → IsNoting scope a (Some truth) x → JudgedNext scope (binary u op a b) mode b (Some truth)
  of_pair : (u : Node (Unit {0})) (op : BinaryOperator) (a b d : PlainExpression) (mode own : Mode)
      → is_logical op ≡ false → Paired scope a b (pair_mode op mode) d own
      → JudgedNext scope (binary u op a b) mode d own
  test_of_choice : (u : Node (Unit {0})) (c a b : PlainExpression) (mode : Mode)
      → JudgedNext scope (choice u c a b) mode c (Some truth)
  of_choice : (u : Node (Unit {0})) (c a b d : PlainExpression) (mode own : Mode) (x : NotedExpression)
      → IsNoting scope c (Some truth) x → Paired scope a b mode d own
      → JudgedNext scope (choice u c a b) mode d own
