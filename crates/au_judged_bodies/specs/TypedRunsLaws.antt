-- Good expressions run, in each frame that fits their scope.
use Rattle.std.specs.Prelude.{ℕ, Bool, List, [], ◌∷◌, Option}
use Rattle.au_syntax.specs.Expressions.{Node, number, negative, text, truth, nil, path, arrow, call}
use Rattle.au_syntax.specs.Expressions.{named_call}
use Rattle.au_syntax.specs.Expressions.{parenthesized, dereference, borrow, borrow_part, binary, negation}
use Rattle.au_syntax.specs.Expressions.{typed, choice}
use Rattle.au_syntax.specs.Expressions.{no_expressions, expressions, no_arguments, arguments}
use Rattle.au_syntax.specs.Names.{Placed}
use Rattle.au_syntax.specs.Plain.{Bytes}
use Rattle.au_types.specs.Types.{Meaning}
use Rattle.au_matching.specs.Bindings.{Bindings}
use Rattle.au_type_texts.specs.Given.{Given}
use Rattle.au_type_texts.specs.Types.{ClosedType}
use Rattle.au_memory.specs.Loans.{Types}
use Rattle.au_typing.specs.Good.{AllGood}
use Rattle.au_typing.specs.Notes.{Note, NotedArguments, NotedExpression, NotedExpressions, mode_of, type_of}
use Rattle.au_typing.specs.Scopes.{Scope}
use Rattle.au_meaning.specs.Expressions.{Operation, computes, compares, is_and, is_or, operation_of}
use Rattle.au_meaning.specs.Names as meaning
use Rattle.au_meaning.specs.Views.{View}
use Rattle.au_known_types.specs.Known.{ModeIsKnownIn}
use Rattle.au_running_lives.specs.Expressions.{AreOf, IsOf, NamedAreOf}
use Rattle.au_running_lives.specs.Known.{Callables}
use Rattle.au_running_lives.specs.Uses.{IsKept}
use Rattle.au_running_types.specs.Running.{running}
use Rattle.au_judged_bodies.specs.Frames.{FrameFits}

module _ {I : Type 0} (see : View I Note (Unit {0})) (scope : meaning.Scope) where
  -- what may be left out consumes nothing: the right side of `and` and `or`
  abbrev pub IsKeptBy : Operation → NotedExpression → Type 0
  IsKeptBy is_and b = (k : ℕ) → IsKept see k scope b
  IsKeptBy is_or b = (k : ℕ) → IsKept see k scope b
  IsKeptBy (computes op) b = Unit {0}
  IsKeptBy (compares op) b = Unit {0}

module _ (may_hand : Meaning → Type 0) where
  -- arguments are of types that may be handed on
  abbrev pub AreHanded : NotedExpressions → Type 0
  AreHanded no_expressions = Unit {0}
  AreHanded (expressions e es) = may_hand (type_of e) × AreHanded es

  abbrev pub AreHandedLabelled : NotedArguments → Type 0
  AreHandedLabelled no_arguments = Unit {0}
  AreHandedLabelled (arguments label e es) = may_hand (type_of e) × AreHandedLabelled es

module _ {I : Type 0} (see : View I Note (Unit {0})) (may_hand : Meaning → Type 0)
    (scope : meaning.Scope) where
  abbrev mutual
    -- So it is all through an expression, and so are the branches of conditional ones; and the arguments of
    -- its calls are of types that may be handed on.
    pub Keeps : NotedExpression → Type 0
    Keeps (number n l) = Unit {0}
    Keeps (negative n l) = Unit {0}
    Keeps (text n t) = Unit {0}
    Keeps (truth n b) = Unit {0}
    Keeps (nil n) = Unit {0}
    Keeps (path n x fields) = Unit {0}
    Keeps (arrow n x fields) = Unit {0}
    Keeps (call n f es c) = AreHanded may_hand es × KeepsIn es
    Keeps (named_call n f es c) = AreHandedLabelled may_hand es × KeepsLabelled es
    Keeps (parenthesized n e) = Keeps e
    Keeps (dereference n e) = Keeps e
    Keeps (borrow n m x) = Unit {0}
    Keeps (borrow_part n x fields) = Unit {0}
    Keeps (binary n op a b) = IsKeptBy see scope (operation_of op) b × Keeps a × Keeps b
    Keeps (negation n e) = Keeps e
    Keeps (typed n e t) = Keeps e
    Keeps (choice n c a b) =
        ((k : ℕ) → IsKept see k scope a × IsKept see k scope b) × Keeps c × Keeps a × Keeps b

    pub KeepsIn : NotedExpressions → Type 0
    KeepsIn no_expressions = Unit {0}
    KeepsIn (expressions e es) = Keeps e × KeepsIn es

    pub KeepsLabelled : NotedArguments → Type 0
    KeepsLabelled no_arguments = Unit {0}
    KeepsLabelled (arguments label e es) = Keeps e × KeepsLabelled es

module _ (s : Bindings) (z : ℕ) where
  -- the running types of arguments
  abbrev pub kinds_of : NotedExpressions → List Meaning
  kinds_of no_expressions = []
  kinds_of (expressions e es) = running s z (type_of e) ∷ kinds_of es

  abbrev pub kinds_labelled : NotedArguments → List Meaning
  kinds_labelled no_arguments = []
  kinds_labelled (arguments label e es) =
      running s z (type_of e) ∷ kinds_labelled es

module _ (types : Types) (owner : ClosedType → Option (List ℕ)) {I K : Type 0} (see : View I Note (Unit {0}))
    (known : Callables I K) (may_hand : Meaning → Type 0) (names : ℕ → Meaning) (active : ℕ → Bool)
    (sc : Scope) (scope : meaning.Scope) (s : Bindings) (given : Given) (z : ℕ) where
  -- Good calls run where their arguments do, if these are of types that may be handed on.
  pub record CallsRun : Type 0 where
    pub in_order : (n : Node Note) (f : Placed Bytes) (es : NotedExpressions) (c : Unit {0})
        → AllGood sc (call n f es c) → ModeIsKnownIn sc n.note.mode → AreHanded may_hand es
        → AreOf types owner see known names z active scope es (kinds_of s z es)
        → IsOf types owner see known names z active scope (call n f es c)
        (running s z n.note.of)
    pub by_labels : (n : Node Note) (f : Placed Bytes) (es : NotedArguments) (c : Unit {0})
        → AllGood sc (named_call n f es c) → ModeIsKnownIn sc n.note.mode → AreHandedLabelled may_hand es
        → NamedAreOf types owner see known names z active scope es (kinds_labelled s z es)
        → IsOf types owner see known names z active scope (named_call n f es c)
        (running s z n.note.of)

  -- A good expression runs, and its value is of the running type that stands for its own, where calls run.
  abbrev pub ExpressionsRun : Type 0
  ExpressionsRun =
      FrameFits types see names active sc scope s given z → CallsRun → (e : NotedExpression) → AllGood sc e
      → ModeIsKnownIn sc (mode_of e) → Keeps see may_hand scope e
      → IsOf types owner see known names z active scope e (running s z (type_of e))
