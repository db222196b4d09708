-- What stops the noting of a whole call, both ways.
use Rattle.std.proofs.Common.{◌≡◌, ◌⊎◌, inl, inr, Bool, true, false, List, [], ◌∷◌, refl, sym, ap, subst, ◌∙◌}
use Rattle.std.proofs.Common.{Option, Some, None, Ok, Err, length, if◌then◌else◌}
use Rattle.au_syntax.specs.Expressions.{call, named_call}
use Rattle.au_syntax.specs.Plain.{PlainExpression}
use Rattle.au_types.specs.Types.{Meaning, parameter, unit, truth, integer, text, named, reads, writes}
use Rattle.au_matching.specs.Bindings.{Bindings}
use Rattle.au_matching.specs.Fixed.{fixed}
use Rattle.au_matching.specs.Matched.{matched}
use Rattle.au_matching.specs.Substituted.{substituted}
use Rattle.au_judged_types.specs.Bounds.{parameters}
use Rattle.au_typing.specs.Scopes.{Callable, Scope}
use Rattle.au_typing.specs.Bare.{is_bare}
use Rattle.au_typing.specs.Calls.{begun, by_labels, first_lacking, first_misfit, first_unfixed, in_order}
use Rattle.au_typing.specs.Calls.{types_of_call, wanted_of}
use Rattle.au_typing.specs.Faults.{Fault, Noting, ◌>>=◌, Why, why, known_or, unknown, unfixed, different}
use Rattle.au_typing.specs.Good.{IsNoting, count_of, labels_of}
use Rattle.au_typing.specs.Limits.{within}
use Rattle.au_typing.specs.Notes.{Mode, Note, NotedExpression, noted_at, type_of}
use Rattle.au_typing.specs.Rules.{int32}
use Rattle.au_typing.specs.Search.{another_number, labelled, listed, note_expression, other_labels}
use Rattle.au_typing.specs.SearchCalls.{Half, beside, call_note, call_noted, called_note, first, lacks}
use Rattle.au_typing.specs.SearchCalls.{misfit, result_differs, second, taken, taken_as, taken_bare}
use Rattle.au_typing.specs.SearchCalls.{unless_why, with_arguments}
use Rattle.au_typing.proofs.Refused.{noting_is_given}
use Rattle.au_typing.proofs.Steps.{bind_found, known_found, known_ok}
use Rattle.au_typing.proofs.OrderLemmas.{bind_fails}
use Rattle.au_laws.specs.CallClauses.{Begins, Call, ComesTo, FirstTaken, GoesOver, IsCall, SecondTaken}
use Rattle.au_laws.specs.CallClauses.{by_label, by_position, of_called, of_callee, wanted_under}
use Rattle.au_laws.specs.Clauses.{Clause, TellsFirst, broken, in_limits, must_be, must_lack}
use Rattle.au_laws.specs.FirstFaults.{ArgumentNext, BareWants, FirstFault, a_call, a_callee, another_type}
use Rattle.au_laws.specs.FirstFaults.{in_first_pass, in_second_pass, is_parameter, its_type, no_int32}
use Rattle.au_laws.specs.FirstFaults.{no_parameter, nothing, of_an_argument, of_the_node}
use Rattle.au_laws.proofs.CallLemmas.{AreHalves, FailsInFirst, FailsInSecond, first_failed, first_fails_at}
use Rattle.au_laws.proofs.CallLemmas.{first_gave, first_goes, second_failed, second_fails_at, second_gave}
use Rattle.au_laws.proofs.CallLemmas.{second_goes}
use Rattle.au_laws.proofs.ClauseLemmas.{Tells, bind_failed, fails_first, first_fails}
use Rattle.au_laws.proofs.ClauseLemmas.{unless_tells, within_tells}
use Rattle.au_laws.proofs.PassLemmas.{EachTells, by_labels_length, in_order_length, known_failed}
use Rattle.au_laws.proofs.PassLemmas.{labelled_are, operands_are, ops_of, wants_it}

-- ---- something that must be there

pub where_none : {A : Type 0} (cause : Why) (o : Option A) (rest : A → List Clause) (f : Fault) → o ≡ None
    → f ≡ why cause → TellsFirst (must_be cause o rest) f
where_none cause o rest f none is =
    subst (λ p. TellsFirst (must_be cause p rest) f) (sym none) (inl (refl, is))

pub where_some : {A : Type 0} (cause : Why) (o : Option A) (rest : A → List Clause) (f : Fault) (x : A)
    → o ≡ Some x → TellsFirst (rest x) f → TellsFirst (must_be cause o rest) f
where_some cause o rest f x some h = subst (λ p. TellsFirst (must_be cause p rest) f) (sym some) h

-- either it isn't there, or a clause behind it fails
by_some : {A : Type 0} (cause : Why) (o : Option A) (rest : A → List Clause) (f : Fault)
    → TellsFirst (must_be cause o rest) f
    → ((o ≡ None) × (f ≡ why cause)) ⊎ ((x : A) × (o ≡ Some x) × TellsFirst (rest x) f)
by_some cause None rest f (inl h) = inl (refl, h.1)
by_some cause None rest f (inr h) = absurd h.1
by_some cause (Some x) rest f h = inr (x, refl, h)

known_fails : {A : Type 0} (cause : Why) (o : Option A) (f : Fault) → o ≡ None → f ≡ why cause
    → known_or cause o ≡ Err f
known_fails cause o f none is = ap (known_or cause) none ∙ ap Err (sym is)

-- ---- the note of a call

pub called_tells : (scope : Scope) (mode : Mode) (called : Callable) (z : List NotedExpression × Bindings)
    → Tells (with_arguments scope mode called z) (of_called scope mode called z.1)
called_tells scope mode called z =
    let s = z.1 in
    let next = λ (n : Note). Ok (n, z.0) in
    let last = Ok (call_note mode called s) in
    let hold = unless_why lacks (first_lacking scope s (wanted_of called)) last in
    let fit = unless_why (misfit s) (first_misfit scope s (parameters called.generics)) hold in
    let holding = must_lack (λ pair. why (lacks pair)) (first_lacking scope s (wanted_of called)) [] in
    let fitting = must_lack (λ one. why (misfit s one)) (first_misfit scope s (parameters called.generics))
    holding in
    unless_tells unfixed (first_unfixed s (parameters called.generics)) (within (types_of_call mode called s) fit)
    next (in_limits (types_of_call mode called s) fitting)
    (within_tells (types_of_call mode called s) fit next fitting
    (unless_tells (misfit s) (first_misfit scope s (parameters called.generics)) hold next holding
    (unless_tells lacks (first_lacking scope s (wanted_of called)) last next [] refl)))

module _ (scope : Scope) where
  -- what is noted of a written call
  abbrev pub noted_call : Call → Mode → Noting (Note × List NotedExpression)
  noted_call one mode = call_noted scope one.name one.takes one.mistaken mode (ops_of scope one.args)

  -- the steps behind the clauses before the arguments
  abbrev pub from_types : Mode → Call → Callable → List Meaning → Bindings → Noting (Note × List NotedExpression)
  from_types mode one called types s =
      first (ops_of scope one.args) types s
      >>= λ halves. second (ops_of scope one.args) halves.0 types halves.1 >>= with_arguments scope mode called

  abbrev pub from_called : Mode → Call → Callable → List Meaning → Noting (Note × List NotedExpression)
  from_called mode one called types =
      known_or (result_differs mode called.result) (begun mode called.result)
      >>= from_types mode one called types

  abbrev pub from_name : Mode → Call → Callable → Noting (Note × List NotedExpression)
  from_name mode one called =
      known_or (one.mistaken called.parameters) (one.takes called.parameters) >>= from_called mode one called

  whole_fails : (e : PlainExpression) (mode : Mode) (one : Call) (f : Fault) → IsCall e one
      → noted_call one mode ≡ Err f → note_expression scope e mode ≡ Err f
  whole_fails e mode one f (by_position u g es c) h =
      bind_fails (λ (z : Note × List NotedExpression). Ok (call (noted_at u z.0) g (listed z.1) tt))
      (ap (call_noted scope g.name (in_order (count_of es)) another_number mode) (operands_are scope es) ∙ h)
  whole_fails e mode one f (by_label u g es c) h =
      bind_fails (λ (z : Note × List NotedExpression). Ok (named_call (noted_at u z.0) g (labelled es z.1) tt))
      (ap (call_noted scope g.name (by_labels (labels_of es)) other_labels mode) (labelled_are scope es) ∙ h)

  pub even_args : (e : PlainExpression) (mode : Mode) (one : Call) (called : Callable) (types : List Meaning)
      (s : Bindings) → IsCall e one → Begins scope one mode called types s → length types ≡ length one.args
  even_args e mode one called types s (by_position u g es c) b =
      in_order_length es called.parameters types b.one_each
  even_args e mode one called types s (by_label u g es c) b =
      by_labels_length es called.parameters types b.one_each

  begins_to : (mode : Mode) (one : Call) (called : Callable) (types : List Meaning) (s : Bindings)
      → Begins scope one mode called types s → noted_call one mode ≡ from_types mode one called types s
  begins_to mode one called types s b =
      bind_found (from_name mode one) (known_found (unknown one.name) b.is_called)
      ∙ (bind_found (from_called mode one called) (known_found (one.mistaken called.parameters) b.one_each)
      ∙ bind_found (from_types mode one called types)
      (known_found (result_differs mode called.result) b.from_result))

  -- ---- from the first fault to the search

  taken_fails : (b : Bool) (d : PlainExpression) (t : Meaning) (r : Bindings) (f : Fault) → fixed r t ≡ b
      → note_expression scope d (wanted_under r t) ≡ Err f → taken b (note_expression scope d) t r ≡ Err f
  taken_fails true d t r f is h =
      bind_fails (beside r) (ap (note_expression scope d) (sym (wants_it scope true t r is)) ∙ h)
  taken_fails false d t r f is h =
      bind_fails (λ (x : NotedExpression). taken_as t (type_of x) r x)
      (ap (note_expression scope d) (sym (wants_it scope false t r is)) ∙ h)

  parameter_fails : (d : PlainExpression) (t : Meaning) (r : Bindings) (f : Fault) → is_parameter t ≡ true
      → note_expression scope d None ≡ Err f → taken_bare false (note_expression scope d) t r ≡ Err f
  parameter_fails d (parameter name) r f is h = bind_fails (taken_as (parameter name) int32 r) h
  parameter_fails d t r f is h = absurd cc

  taken_bare_fails : (d : PlainExpression) (t : Meaning) (r : Bindings) (own : Mode) (f : Fault)
      → BareWants r t own → note_expression scope d own ≡ Err f
      → taken_bare (fixed r t) (note_expression scope d) t r ≡ Err f
  taken_bare_fails d t r own f (its_type s u is) h =
      ap (λ b. taken_bare b (note_expression scope d) u s) is ∙ bind_fails (beside s) h
  taken_bare_fails d t r own f (nothing s u is one) h =
      ap (λ b. taken_bare b (note_expression scope d) u s) is ∙ parameter_fails d u s f one h

  in_first : (e d : PlainExpression) (mode : Mode) (one : Call) (called : Callable) (types : List Meaning)
      (t : Meaning) (s r : Bindings) (f : Fault) → IsCall e one → Begins scope one mode called types s
      → ComesTo (FirstTaken scope) one.args types s d t r → is_bare d ≡ false
      → taken (fixed r t) (note_expression scope d) t r ≡ Err f → note_expression scope e mode ≡ Err f
  in_first e d mode one called types t s r f is b comes bare h =
      whole_fails e mode one f is
      (begins_to mode one called types s b
      ∙ bind_fails
      (λ (w : List Half × Bindings). second (ops_of scope one.args) w.0 types w.1 >>= with_arguments scope mode called)
      (first_fails_at scope one.args types s d t r f comes bare h))

  in_second : (e d : PlainExpression) (mode : Mode) (one : Call) (called : Callable) (types : List Meaning)
      (t : Meaning) (s q r : Bindings) (f : Fault) → IsCall e one → Begins scope one mode called types s
      → GoesOver (FirstTaken scope) one.args types s q
      → ComesTo (SecondTaken scope) one.args types q d t r → is_bare d ≡ true
      → taken_bare (fixed r t) (note_expression scope d) t r ≡ Err f → note_expression scope e mode ≡ Err f
  in_second e d mode one called types t s q r f is b goes comes bare h =
      let g = first_goes scope one.args types s q goes in
      whole_fails e mode one f is
      (begins_to mode one called types s b
      ∙ (bind_found
      (λ (w : List Half × Bindings). second (ops_of scope one.args) w.0 types w.1 >>= with_arguments scope mode called)
      g.1
      ∙ bind_fails (with_arguments scope mode called)
      (second_fails_at scope one.args g.0 types q d t r f g.2 comes bare h)))

  pub argument_fails : (e d : PlainExpression) (mode own : Mode) (f : Fault) → ArgumentNext scope e mode d own
      → note_expression scope d own ≡ Err f → note_expression scope e mode ≡ Err f
  argument_fails e d mode own f (in_first_pass c a m one called types t s r is b comes bare) h =
      in_first c a m one called types t s r f is b comes bare (taken_fails (fixed r t) a t r f refl h)
  argument_fails e d mode own f (in_second_pass c a m o one called types t s q r is b goes comes bare wants) h =
      in_second c a m one called types t s q r f is b goes comes bare (taken_bare_fails a t r o f wants h)

  pub type_fails : (e d : PlainExpression) (mode : Mode) (one : Call) (called : Callable) (types : List Meaning)
      (t : Meaning) (s r : Bindings) (x : NotedExpression) → IsCall e one
      → Begins scope one mode called types s → ComesTo (FirstTaken scope) one.args types s d t r
      → is_bare d ≡ false → fixed r t ≡ false → IsNoting scope d None x → matched t (type_of x) r ≡ None
      → note_expression scope e mode ≡ Err (why (different (substituted r t) (type_of x)))
  type_fails e d mode one called types t s r x is b comes bare free noting none =
      let cause = different (substituted r t) (type_of x) in
      in_first e d mode one called types t s r (why cause) is b comes bare
      (ap (λ c. taken c (note_expression scope d) t r) free
      ∙ (bind_found (λ (y : NotedExpression). taken_as t (type_of y) r y) (noting_is_given scope d None x noting)
      ∙ bind_fails (λ (q : Bindings). Ok (x, q)) (known_fails cause (matched t (type_of x) r) (why cause) none refl)))

  other_fails : (d : PlainExpression) (t : Meaning) (r : Bindings) → is_parameter t ≡ false
      → taken_bare false (note_expression scope d) t r ≡ Err (why (different (substituted r t) int32))
  other_fails d (parameter name) r is = absurd cc
  other_fails d unit r is = refl
  other_fails d truth r is = refl
  other_fails d (integer kind) r is = refl
  other_fails d text r is = refl
  other_fails d (named at args) r is = refl
  other_fails d (reads t region) r is = refl
  other_fails d (writes t region) r is = refl

  pub other_type_fails : (e d : PlainExpression) (mode : Mode) (one : Call) (called : Callable)
      (types : List Meaning) (t : Meaning) (s q r : Bindings) → IsCall e one
      → Begins scope one mode called types s → GoesOver (FirstTaken scope) one.args types s q
      → ComesTo (SecondTaken scope) one.args types q d t r → is_bare d ≡ true → fixed r t ≡ false
      → is_parameter t ≡ false
      → note_expression scope e mode ≡ Err (why (different (substituted r t) int32))
  other_type_fails e d mode one called types t s q r is b goes comes bare free other =
      in_second e d mode one called types t s q r (why (different (substituted r t) int32)) is b goes comes bare
      (ap (λ c. taken_bare c (note_expression scope d) t r) free ∙ other_fails d t r other)

  int32_fails : (d : PlainExpression) (t : Meaning) (r : Bindings) (x : NotedExpression) → is_parameter t ≡ true
      → IsNoting scope d None x → matched t int32 r ≡ None
      → taken_bare false (note_expression scope d) t r ≡ Err (why (different (substituted r t) int32))
  int32_fails d (parameter name) r x is noting none =
      let cause = different (substituted r (parameter name)) int32 in
      bind_found (taken_as (parameter name) int32 r) (noting_is_given scope d None x noting)
      ∙ bind_fails (λ (q : Bindings). Ok (x, q))
      (known_fails cause (matched (parameter name) int32 r) (why cause) none refl)
  int32_fails d t r x is noting none = absurd cc

  pub no_int32_fails : (e d : PlainExpression) (mode : Mode) (one : Call) (called : Callable)
      (types : List Meaning) (t : Meaning) (s q r : Bindings) (x : NotedExpression) → IsCall e one
      → Begins scope one mode called types s → GoesOver (FirstTaken scope) one.args types s q
      → ComesTo (SecondTaken scope) one.args types q d t r → is_bare d ≡ true → fixed r t ≡ false
      → is_parameter t ≡ true → IsNoting scope d None x → matched t int32 r ≡ None
      → note_expression scope e mode ≡ Err (why (different (substituted r t) int32))
  no_int32_fails e d mode one called types t s q r x is b goes comes bare free par noting none =
      in_second e d mode one called types t s q r (why (different (substituted r t) int32)) is b goes comes bare
      (ap (λ c. taken_bare c (note_expression scope d) t r) free ∙ int32_fails d t r x par noting none)

  pub rest_fails : (e : PlainExpression) (mode : Mode) (one : Call) (called : Callable) (types : List Meaning)
      (s q r : Bindings) (f : Fault) → IsCall e one → Begins scope one mode called types s
      → GoesOver (FirstTaken scope) one.args types s q → GoesOver (SecondTaken scope) one.args types q r
      → TellsFirst (of_called scope mode called r) f → note_expression scope e mode ≡ Err f
  rest_fails e mode one called types s q r f is b goes ends h =
      let g = first_goes scope one.args types s q goes in
      let k = second_goes scope one.args g.0 types q r g.2 ends in
      whole_fails e mode one f is
      (begins_to mode one called types s b
      ∙ (bind_found
      (λ (w : List Half × Bindings). second (ops_of scope one.args) w.0 types w.1 >>= with_arguments scope mode called)
      g.1
      ∙ (bind_found (with_arguments scope mode called) k.1
      ∙ first_fails (with_arguments scope mode called (k.0, r)) (of_called scope mode called r) f
      (called_tells scope mode called (k.0, r)) h)))

  pub callee_fails : (e : PlainExpression) (mode : Mode) (one : Call) (f : Fault) → IsCall e one
      → TellsFirst (of_callee scope one mode) f → note_expression scope e mode ≡ Err f
  callee_fails e mode one f is h =
      whole_fails e mode one f is (named
      (by_some (unknown one.name) (scope.outside.callable one.name)
      (λ called. must_be (one.mistaken called.parameters) (one.takes called.parameters)
      (λ types. must_be (result_differs mode called.result) (begun mode called.result) (λ s. []))) f h))
    where
      ended : (called : Callable) (types : List Meaning)
          → ((begun mode called.result ≡ None) × (f ≡ why (result_differs mode called.result)))
          ⊎ ((s : Bindings) × (begun mode called.result ≡ Some s) × TellsFirst [] f)
          → from_called mode one called types ≡ Err f
      ended called types (inl k) =
          bind_fails (from_types mode one called types)
          (known_fails (result_differs mode called.result) (begun mode called.result) f k.0 k.1)
      ended called types (inr k) = absurd k.2

      matched_up : (called : Callable)
          → ((one.takes called.parameters ≡ None) × (f ≡ why (one.mistaken called.parameters)))
          ⊎ ((types : List Meaning) × (one.takes called.parameters ≡ Some types)
          × TellsFirst (must_be (result_differs mode called.result) (begun mode called.result) (λ s. [])) f)
          → from_name mode one called ≡ Err f
      matched_up called (inl k) =
          bind_fails (from_called mode one called)
          (known_fails (one.mistaken called.parameters) (one.takes called.parameters) f k.0 k.1)
      matched_up called (inr k) =
          bind_found (from_called mode one called) (known_found (one.mistaken called.parameters) k.1)
          ∙ ended called k.0
          (by_some (result_differs mode called.result) (begun mode called.result) (λ s. []) f k.2)

      named : ((scope.outside.callable one.name ≡ None) × (f ≡ why (unknown one.name)))
          ⊎ ((called : Callable) × (scope.outside.callable one.name ≡ Some called)
          × TellsFirst (must_be (one.mistaken called.parameters) (one.takes called.parameters)
          (λ types. must_be (result_differs mode called.result) (begun mode called.result) (λ s. []))) f)
          → noted_call one mode ≡ Err f
      named (inl k) =
          bind_fails (from_name mode one)
          (known_fails (unknown one.name) (scope.outside.callable one.name) f k.0 k.1)
      named (inr k) =
          bind_found (from_name mode one) (known_found (unknown one.name) k.1)
          ∙ matched_up k.0
          (by_some (one.mistaken k.0.parameters) (one.takes k.0.parameters)
          (λ types. must_be (result_differs mode k.0.result) (begun mode k.0.result) (λ s. [])) f k.2)
