-- The clauses of a call before and behind its arguments, and the two passes over these.
use Rattle.std.specs.Prelude.{◌≡◌, List, [], ◌∷◌, Bool, true, false, Option, Some, None, if◌then◌else◌}
use Rattle.au_syntax.specs.Expressions.{Node, call, named_call}
use Rattle.au_syntax.specs.Names.{Placed}
use Rattle.au_syntax.specs.Plain.{Bytes, PlainArguments, PlainExpression, PlainExpressions}
use Rattle.au_types.specs.Types.{Meaning}
use Rattle.au_matching.specs.Bindings.{Bindings}
use Rattle.au_matching.specs.Fixed.{fixed}
use Rattle.au_matching.specs.Substituted.{substituted}
use Rattle.au_judged_types.specs.Bounds.{parameters}
use Rattle.au_instances.specs.Pairs.{Pair}
use Rattle.au_types.specs.declared.parameters.Parameter.{Parameter}
use Rattle.au_typing.specs.Scopes.{Callable, Scope, Typed}
use Rattle.au_typing.specs.Bare.{is_bare}
use Rattle.au_typing.specs.Calls.{Taken, TakenBare, begun, by_labels, first_lacking, first_misfit}
use Rattle.au_typing.specs.Calls.{first_unfixed}
use Rattle.au_typing.specs.Calls.{in_order, types_of_call, wanted_of}
use Rattle.au_typing.specs.Faults.{Why, why, unfixed, unknown}
use Rattle.au_typing.specs.Good.{AllGood, count_of, items_of, labels_of, values_of}
use Rattle.au_typing.specs.Notes.{Mode, NotedExpression, erase, note_of}
use Rattle.au_typing.specs.Search.{another_number, other_labels}
use Rattle.au_typing.specs.SearchCalls.{lacks, misfit, result_differs}
use Rattle.au_laws.specs.Clauses.{Clause, in_limits, must_be, must_lack}

-- What is written of a call: the name of what is called; which types the arguments get from the parameters;
-- what is told where they get none; and the arguments in textual order.
pub record Call : Type 0 where
  pub name : Bytes
  pub takes : List Typed → Option (List Meaning)
  pub mistaken : List Typed → Why
  pub args : List PlainExpression

abbrev pub written_call : Bytes → (List Typed → Option (List Meaning)) → (List Typed → Why) →
    List PlainExpression → Call
written_call name takes mistaken args =
    record { name = name; takes = takes; mistaken = mistaken; args = args }

-- An expression is such a call, by position or by labels.
pub data IsCall : PlainExpression → Call → Type 0 where
  by_position : (u : Node (Unit {0})) (f : Placed Bytes) (es : PlainExpressions) (c : Unit {0})
      → IsCall (call u f es c)
      (written_call f.name (in_order (count_of es)) another_number (items_of es))
  by_label : (u : Node (Unit {0})) (f : Placed Bytes) (es : PlainArguments) (c : Unit {0})
      → IsCall (named_call u f es c)
      (written_call f.name (by_labels (labels_of es)) other_labels (values_of es))

-- ---- the passes over the arguments

-- what is wanted of an argument whose parameter has this type: that type, where it is fixed, and else nothing
abbrev pub wanted_under : Bindings → Meaning → Mode
wanted_under s t = if fixed s t then Some (substituted s t) else None

-- The first pass goes over an argument: it leaves a bare one, and takes another one by its good notes.
pub data FirstTaken (scope : Scope) : PlainExpression → Meaning → Bindings → Bindings → Type 0 where
  waits : (p : PlainExpression) (t : Meaning) (s : Bindings) → is_bare p ≡ true → FirstTaken scope p t s s
  is_taken : (p : PlainExpression) (t : Meaning) (s r : Bindings) (a : NotedExpression)
      → is_bare p ≡ false → AllGood scope a → erase a ≡ p → Taken (fixed s t) t (note_of a) s r
      → FirstTaken scope p t s r

-- The second pass goes over an argument: it takes a bare one by its good notes, and leaves another one.
pub data SecondTaken (scope : Scope) : PlainExpression → Meaning → Bindings → Bindings → Type 0 where
  was_taken : (p : PlainExpression) (t : Meaning) (s : Bindings) → is_bare p ≡ false
      → SecondTaken scope p t s s
  is_taken_bare : (p : PlainExpression) (t : Meaning) (s r : Bindings) (a : NotedExpression)
      → is_bare p ≡ true → AllGood scope a → erase a ≡ p → TakenBare (fixed s t) t (note_of a) s r
      → SecondTaken scope p t s r

-- A pass goes over all arguments, from one substitution to another.
abbrev pub GoesOver : (PlainExpression → Meaning → Bindings → Bindings → Type 0) → List PlainExpression →
    List Meaning → Bindings → Bindings → Type 0
GoesOver step [] [] s r = r ≡ s
GoesOver step (p ∷ ps) (t ∷ ts) s r = (q : Bindings) × step p t s q × GoesOver step ps ts q r
GoesOver step [] (t ∷ ts) s r = ⊥
GoesOver step (p ∷ ps) [] s r = ⊥

-- A pass comes to an argument whose parameter has this type, with this substitution: it went over those in
-- front of it.
pub data ComesTo (step : PlainExpression → Meaning → Bindings → Bindings → Type 0) :
    List PlainExpression → List Meaning → Bindings → PlainExpression → Meaning → Bindings → Type 0 where
  at_first : (p : PlainExpression) (ps : List PlainExpression) (t : Meaning) (ts : List Meaning)
      (s : Bindings) → ComesTo step (p ∷ ps) (t ∷ ts) s p t s
  behind_one : (p d : PlainExpression) (ps : List PlainExpression) (t u : Meaning) (ts : List Meaning)
      (s q r : Bindings) → step p t s q → ComesTo step ps ts q d u r → ComesTo step (p ∷ ps) (t ∷ ts) s d u r

-- ---- clauses

module _ (scope : Scope) where
  -- before the arguments: the name means what is called, every parameter gets one argument, and the result
  -- can be made the wanted type
  abbrev pub of_callee : Call → Mode → List Clause
  of_callee one mode =
      must_be (unknown one.name) (scope.outside.callable one.name)
      (λ called. must_be (one.mistaken called.parameters) (one.takes called.parameters)
      (λ types. must_be (result_differs mode called.result) (begun mode called.result) (λ s. [])))

  -- those clauses hold: what is called, the types of the arguments' parameters, and with what the
  -- substitution begins
  pub record Begins (one : Call) (mode : Mode) (called : Callable) (types : List Meaning) (s : Bindings) :
      Type 0 where
    pub is_called : scope.outside.callable one.name ≡ Some called
    pub one_each : one.takes called.parameters ≡ Some types
    pub from_result : begun mode called.result ≡ Some s

  -- behind the arguments: every type parameter is fixed, the types of the note pass no limit, the values
  -- fit the universes, and constraints and the method's class hold
  abbrev pub of_called : Mode → Callable → Bindings → List Clause
  of_called mode called s =
      must_lack (λ name. why (unfixed name)) (first_unfixed s (parameters called.generics))
      (in_limits (types_of_call mode called s)
      (must_lack (λ one. why (misfit s one)) (first_misfit scope s (parameters called.generics))
      (must_lack (λ pair. why (lacks pair)) (first_lacking scope s (wanted_of called)) [])))
