-- What is known of the types of trees that are good by the rules of typing.
use Rattle.std.specs.Prelude.{◌≡◌, false, true, List, [], ◌∷◌, Option}
use Rattle.au_syntax.specs.Plain.{Bytes}
use Rattle.au_types.specs.Types.{Meaning}
use Rattle.au_matching.specs.Fitting.{BindingsAreWellFormed}
use Rattle.au_matching.specs.Substituted.{Fixes}
use Rattle.au_judged_types.specs.Bounds.{parameters}
use Rattle.au_running_types.specs.Running.{is_lasting}
use Rattle.au_written_types.specs.Written.{IsWritten}
use Rattle.au_typing.specs.Calls.{GoodCall, Shown, by_labels, in_order}
use Rattle.au_typing.specs.Good.{AllGood, AllGoodIn, AllGoodLabelled, count_of, items_of, labels_of, shown}
use Rattle.au_typing.specs.Good.{values_of}
use Rattle.au_typing.specs.InScope.{after, with_bound}
use Rattle.au_typing.specs.Lookups.{parameters_in}
use Rattle.au_typing.specs.Notes.{Note, NotedArguments, NotedExpression, NotedExpressions, mode_of, type_of}
use Rattle.au_typing.specs.Parts.{is_borrowed_within}
use Rattle.au_typing.specs.Scopes.{Scope, Typed}
use Rattle.au_typing.specs.Trees.{NotedStatement}
use Rattle.au_syntax.specs.Types.{Bound}
use Rattle.au_known_types.specs.Known.{IsKnownIn, ModeIsKnownIn, ScopeIsKnown, ValuesAreKnown}

-- The test of typing for `~` says where a type isn't lasting.
abbrev pub TestsAreOne : Type 0
TestsAreOne = (t : Meaning) → is_borrowed_within t ≡ false → is_lasting t ≡ true

-- The type of a good expression is known, where what is wanted of it is.
abbrev pub NotesAreKnown : Type 0
NotesAreKnown =
    (sc : Scope) → ScopeIsKnown sc → (e : NotedExpression) → AllGood sc e → ModeIsKnownIn sc (mode_of e)
    → IsKnownIn sc (type_of e)

-- what is wanted of each argument is known
abbrev pub ModesAreKnown : Scope → List Shown → Type 0
ModesAreKnown sc [] = Unit {0}
ModesAreKnown sc (a ∷ rest) = ModeIsKnownIn sc a.note.mode × ModesAreKnown sc rest

-- What a good call puts for the type parameters of what it calls is known, fits them, and is something for
-- each: so it fixes all that is written over them. And what is wanted of its arguments is known.
pub record CallIsKnown (sc : Scope) (note : Note) (name : Bytes) (takes : List Typed → Option (List Meaning))
    (args : List Shown) (good : GoodCall sc note name takes args) : Type 0 where
  pub values : ValuesAreKnown sc.outside.heads (parameters_in sc) sc.regions good.ends
  pub fit : BindingsAreWellFormed sc.outside.heads (parameters good.called.generics)
      (parameters_in sc) good.ends
  pub fixes : (t : Meaning) → IsWritten [] (parameters good.called.generics) t → Fixes good.ends t
  pub modes : ModesAreKnown sc args

abbrev pub CallsAreKnown : Type 0
CallsAreKnown =
    (sc : Scope) → ScopeIsKnown sc → (note : Note) (name : Bytes) (es : NotedExpressions)
    → (good : GoodCall sc note name (in_order (count_of es)) (shown (items_of es))) → AllGoodIn sc es
    → ModeIsKnownIn sc note.mode
    → CallIsKnown sc note name (in_order (count_of es)) (shown (items_of es)) good

abbrev pub NamedCallsAreKnown : Type 0
NamedCallsAreKnown =
    (sc : Scope) → ScopeIsKnown sc → (note : Note) (name : Bytes) (es : NotedArguments)
    → (good : GoodCall sc note name (by_labels (labels_of es)) (shown (values_of es))) → AllGoodLabelled sc es
    → ModeIsKnownIn sc note.mode
    → CallIsKnown sc note name (by_labels (labels_of es)) (shown (values_of es)) good

-- Scopes stay known: behind a statement, and where fields are bound or a reference is.
abbrev pub ScopesStayKnown : Type 0
ScopesStayKnown = (s : NotedStatement) (sc : Scope) → ScopeIsKnown sc → ScopeIsKnown (after s sc)

abbrev pub BoundScopesAreKnown : Type 0
BoundScopesAreKnown = (binds : List (Bound Bytes)) (sc : Scope) → ScopeIsKnown sc
    → ScopeIsKnown (with_bound binds sc)
