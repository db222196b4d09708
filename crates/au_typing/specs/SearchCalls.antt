-- Noting a call, over what notes each of its arguments.
use Rattle.std.specs.Prelude.{List, [], ◌∷◌, Bool, true, false, Option, Some, None, Ok, Err}
use Rattle.au_syntax.specs.declared.declarations.Universe.{Universe}
use Rattle.au_syntax.specs.declared.declarations.Universe.TheVariants as universes
use Rattle.au_syntax.specs.Plain.{Bytes}
use Rattle.au_types.specs.declared.parameters.Parameter.{Parameter}
use Rattle.au_types.specs.Types.{Meaning, Argument, parameter, of_type}
use Rattle.au_matching.specs.Bindings.{Bindings, value_of}
use Rattle.au_matching.specs.Fixed.{fixed}
use Rattle.au_matching.specs.Matched.{matched}
use Rattle.au_matching.specs.Substituted.{substituted}
use Rattle.au_judged_types.specs.Bounds.{parameters}
use Rattle.au_instances.specs.Pairs.{Pair}
use Rattle.au_typing.specs.Scopes.{Callable, Scope, Typed}
use Rattle.au_typing.specs.Calls.{begun, first_lacking, first_misfit, first_unfixed, types_of_call, wanted_of}
use Rattle.au_typing.specs.Faults.{Noting, ◌>>=◌, Why, why, known_or, unknown, different, unfixed}
use Rattle.au_typing.specs.Faults.{no_instance, not_free, shape, labels_wanted, linear_wanted, region_wanted}
use Rattle.au_typing.specs.Limits.{within}
use Rattle.au_typing.specs.Notes.{Mode, Note, NotedExpression, type_of}
use Rattle.au_typing.specs.Operands.{Noter}
use Rattle.au_typing.specs.Rules.{int32}

-- an argument that is to be noted: whether it is bare, and what notes it
pub record Operand : Type 0 where
  pub bare : Bool
  pub noter : Noter

-- an argument after the first pass: noted, or a bare one that waits
abbrev pub Half : Type 0
Half = Option NotedExpression

-- an expression with a substitution
abbrev pub beside : Bindings → NotedExpression → Noting (NotedExpression × Bindings)
beside s a = Ok (a, s)

-- ---- the result

-- the type that is wanted of a call, against its result: told where the two can't be made equal
abbrev pub result_differs : Mode → Meaning → Why
result_differs None result = different result result
result_differs (Some wanted) result = different wanted result

-- ---- the arguments

-- an argument with the substitution in which its parameter's type becomes this type
abbrev pub taken_as : Meaning → Meaning → Bindings → NotedExpression → Noting (NotedExpression × Bindings)
taken_as p t s a = known_or (different (substituted s p) t) (matched p t s) >>= λ r. Ok (a, r)

-- an argument that isn't bare, where the test says whether the parameter's type is fixed
abbrev pub taken : Bool → Noter → Meaning → Bindings → Noting (NotedExpression × Bindings)
taken true e p s = e (Some (substituted s p)) >>= beside s
taken false e p s = e None >>= λ a. taken_as p (type_of a) s a

-- a bare argument, where the test says the same
abbrev pub taken_bare : Bool → Noter → Meaning → Bindings → Noting (NotedExpression × Bindings)
taken_bare true e p s = e (Some (substituted s p)) >>= beside s
taken_bare false e (parameter name) s = e None >>= taken_as (parameter name) int32 s
taken_bare false e p s = Err (why (different (substituted s p) int32))

abbrev pub half_of : NotedExpression × Bindings → Noting (Half × Bindings)
half_of y = Ok (Some y.0, y.1)

-- what the first pass does at one argument, where the test says whether it is bare
abbrev pub first_step : Bool → Noter → Meaning → Bindings → Noting (Half × Bindings)
first_step true e p s = Ok (None, s)
first_step false e p s = taken (fixed s p) e p s >>= half_of

-- what the second pass does at one argument
abbrev pub second_step : Half → Noter → Meaning → Bindings → Noting (NotedExpression × Bindings)
second_step (Some a) e p s = Ok (a, s)
second_step None e p s = taken_bare (fixed s p) e p s

-- one more before those of the rest
abbrev pub put_before : {A : Type 0} → A → List A × Bindings → Noting (List A × Bindings)
put_before x z = Ok (x ∷ z.0, z.1)

-- another number of arguments than of types, which no call has whose arguments were given types
abbrev pub uneven : {A : Type 0} → Noting A
uneven = Err (why (shape labels_wanted))

-- the first pass over the arguments in textual order
abbrev pub first : List Operand → List Meaning → Bindings → Noting (List Half × Bindings)
first [] [] s = Ok ([], s)
first (one ∷ rest) (p ∷ ps) s =
    first_step one.bare one.noter p s >>= λ y. first rest ps y.1 >>= put_before y.0
first [] (p ∷ ps) s = uneven
first (one ∷ rest) [] s = uneven

-- the second pass, over the arguments and what the first pass left of each
abbrev pub second : List Operand → List Half → List Meaning → Bindings →
    Noting (List NotedExpression × Bindings)
second [] [] [] s = Ok ([], s)
second (one ∷ rest) (half ∷ halves) (p ∷ ps) s =
    second_step half one.noter p s >>= λ y. second rest halves ps y.1 >>= put_before y.0
second ops halves ps s = uneven

-- ---- the note

-- what follows, where there is nothing against it
abbrev pub unless_why : {A X : Type 0} → (X → Why) → Option X → Noting A → Noting A
unless_why cause None rest = rest
unless_why cause (Some x) rest = Err (why (cause x))

-- why a value doesn't fit a type parameter
abbrev pub misfit_in : Parameter → Universe → Option Argument → Why
misfit_in one universes.Free (Some (of_type t)) = not_free t
misfit_in one universes.Linear value = shape linear_wanted
misfit_in one universes.Region value = shape region_wanted
misfit_in one universe value = unfixed one.name

abbrev pub misfit : Bindings → Parameter → Why
misfit s one = misfit_in one one.universe (value_of one.name s)

-- why a class is lacking at a type
abbrev pub lacks : Pair → Why
lacks pair = no_instance pair.0 pair.1

-- the note of a call
abbrev pub call_note : Mode → Callable → Bindings → Note
call_note mode called s =
    record { mode = mode; of = substituted s called.result; call = Some s }

module _ (scope : Scope) where
  -- the note of a call, where the rules after those on arguments hold
  abbrev pub called_note : Mode → Callable → Bindings → Noting Note
  called_note mode called s =
      unless_why unfixed (first_unfixed s (parameters called.generics))
      (within (types_of_call mode called s)
      (unless_why (misfit s) (first_misfit scope s (parameters called.generics))
      (unless_why lacks (first_lacking scope s (wanted_of called)) (Ok (call_note mode called s)))))

  abbrev pub with_arguments : Mode → Callable → List NotedExpression × Bindings →
      Noting (Note × List NotedExpression)
  with_arguments mode called z = called_note mode called z.1 >>= λ note. Ok (note, z.0)

  -- The call of a name in a mode: its note, and its arguments with their notes. It is given which types the
  -- arguments get from the parameters, and what is told where they can't get any.
  abbrev pub call_noted : Bytes → (List Typed → Option (List Meaning)) → (List Typed → Why) → Mode →
      List Operand → Noting (Note × List NotedExpression)
  call_noted name takes mistaken mode ops =
      known_or (unknown name) (scope.outside.callable name) >>= λ called.
      known_or (mistaken called.parameters) (takes called.parameters) >>= λ types.
      known_or (result_differs mode called.result) (begun mode called.result) >>= λ s.
      first ops types s >>= λ halves.
      second ops halves.0 types halves.1 >>= with_arguments mode called
