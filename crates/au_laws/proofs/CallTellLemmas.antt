-- A call that is refused has a first fault.
use Rattle.std.proofs.Common.{◌≡◌, ◌⊎◌, inl, inr, Bool, true, false, List, [], ◌∷◌, refl, sym, ap, subst, ◌∙◌}
use Rattle.std.proofs.Common.{Option, Some, None, Ok, Err, length}
use Rattle.au_syntax.specs.Plain.{PlainExpression}
use Rattle.au_types.specs.Types.{Meaning}
use Rattle.au_matching.specs.Bindings.{Bindings}
use Rattle.au_matching.specs.Substituted.{substituted}
use Rattle.au_typing.specs.Scopes.{Callable, Scope}
use Rattle.au_typing.specs.Bare.{is_bare}
use Rattle.au_typing.specs.Calls.{begun}
use Rattle.au_typing.specs.Faults.{Fault, Noting, ◌>>=◌, Why, why, known_or, unknown, different}
use Rattle.au_typing.specs.Notes.{Mode, Note, NotedExpression, type_of}
use Rattle.au_typing.specs.Rules.{int32}
use Rattle.au_typing.specs.Search.{note_expression}
use Rattle.au_typing.specs.SearchCalls.{Half, first, result_differs, second, with_arguments}
use Rattle.au_typing.proofs.Steps.{known_ok}
use Rattle.au_laws.specs.CallClauses.{Begins, Call, ComesTo, FirstTaken, GoesOver, IsCall, SecondTaken}
use Rattle.au_laws.specs.CallClauses.{of_called, of_callee, wanted_under}
use Rattle.au_laws.specs.Clauses.{Clause, TellsFirst, must_be}
use Rattle.au_laws.specs.FirstFaults.{FirstFault, a_call, a_callee, another_type, in_first_pass}
use Rattle.au_laws.specs.FirstFaults.{in_second_pass, no_int32, no_parameter, of_an_argument, of_the_node}
use Rattle.au_laws.proofs.CallLemmas.{AreHalves, FailsInFirst, FailsInSecond, first_failed, first_gave}
use Rattle.au_laws.proofs.CallLemmas.{second_failed, second_gave}
use Rattle.au_laws.proofs.ClauseLemmas.{bind_failed, fails_first}
use Rattle.au_laws.proofs.PassLemmas.{EachTells, FailsFirst, FailsSecond, known_failed, ops_of}
use Rattle.au_laws.proofs.WholeCallLemmas.{called_tells, even_args, from_called, from_name, from_types}
use Rattle.au_laws.proofs.WholeCallLemmas.{noted_call, where_none, where_some}

module _ (scope : Scope) where
  -- ---- an argument that fails

  in_first_tells : (e : PlainExpression) (mode : Mode) (one : Call) (called : Callable) (types : List Meaning)
      (s : Bindings) (f : Fault) → IsCall e one → Begins scope one mode called types s
      → FailsInFirst scope one.args types s f → FirstFault scope e mode f
  in_first_tells e mode one called types s f is b (d, t, r, comes, bare, inl own) =
      of_an_argument e d mode (wanted_under r t) f (in_first_pass e d mode one called types t s r is b comes bare)
      own
  in_first_tells e mode one called types s f is b (d, t, r, comes, bare, inr (x, free, noting, none, told)) =
      subst (λ g. FirstFault scope e mode g) (sym told)
      (of_the_node e mode (why (different (substituted r t) (type_of x)))
      (another_type e d mode one called types t s r x is b comes bare free noting none))

  in_second_tells : (e : PlainExpression) (mode : Mode) (one : Call) (called : Callable) (types : List Meaning)
      (s q : Bindings) (f : Fault) → IsCall e one → Begins scope one mode called types s
      → GoesOver (FirstTaken scope) one.args types s q
      → FailsInSecond scope one.args types q f → FirstFault scope e mode f
  in_second_tells e mode one called types s q f is b goes (d, t, r, comes, bare, inl (own, wants, first)) =
      of_an_argument e d mode own f
      (in_second_pass e d mode own one called types t s q r is b goes comes bare wants) first
  in_second_tells e mode one called types s q f is b goes (d, t, r, comes, bare, inr (inl (free, other, told))) =
      subst (λ g. FirstFault scope e mode g) (sym told)
      (of_the_node e mode (why (different (substituted r t) int32))
      (no_parameter e d mode one called types t s q r is b goes comes bare free other))
  in_second_tells e mode one called types s q f is b goes
      (d, t, r, comes, bare, inr (inr (x, free, alone, noting, none, told))) =
      subst (λ g. FirstFault scope e mode g) (sym told)
      (of_the_node e mode (why (different (substituted r t) int32))
      (no_int32 e d mode one called types t s q r x is b goes comes bare free alone noting none))

  -- ---- the steps of a call

  behind_second : (e : PlainExpression) (mode : Mode) (one : Call) (called : Callable) (types : List Meaning)
      (s : Bindings) (z : List Half × Bindings) (f : Fault) → IsCall e one
      → Begins scope one mode called types s → GoesOver (FirstTaken scope) one.args types s z.1
      → AreHalves scope one.args z.0 → EachTells scope one.args
      → (second (ops_of scope one.args) z.0 types z.1 ≡ Err f)
      ⊎ ((y : List NotedExpression × Bindings) × (second (ops_of scope one.args) z.0 types z.1 ≡ Ok y)
      × (with_arguments scope mode called y ≡ Err f)) → FirstFault scope e mode f
  behind_second e mode one called types s z f is b goes halves tells (inl failed) =
      in_second_tells e mode one called types s z.1 f is b goes
      (second_failed scope one.args z.0 types z.1 f (even_args scope e mode one called types s is b) halves tells
      failed)
  behind_second e mode one called types s z f is b goes halves tells (inr (y, gave, failed)) =
      of_the_node e mode f (a_call e mode f one called types s z.1 y.1 is b goes
      (second_gave scope one.args z.0 types z.1 y halves gave)
      (fails_first (with_arguments scope mode called y) (of_called scope mode called y.1) f
      (called_tells scope mode called y) failed))

  behind_first : (e : PlainExpression) (mode : Mode) (one : Call) (called : Callable) (types : List Meaning)
      (s : Bindings) (f : Fault) → IsCall e one → Begins scope one mode called types s
      → EachTells scope one.args
      → (first (ops_of scope one.args) types s ≡ Err f)
      ⊎ ((z : List Half × Bindings) × (first (ops_of scope one.args) types s ≡ Ok z)
      × ((second (ops_of scope one.args) z.0 types z.1 >>= with_arguments scope mode called) ≡ Err f))
      → FirstFault scope e mode f
  behind_first e mode one called types s f is b tells (inl failed) =
      in_first_tells e mode one called types s f is b
      (first_failed scope one.args types s f (even_args scope e mode one called types s is b) tells failed)
  behind_first e mode one called types s f is b tells (inr (z, gave, failed)) =
      let done = first_gave scope one.args types s z gave in
      behind_second e mode one called types s z f is b done.0 done.1 tells
      (bind_failed (second (ops_of scope one.args) z.0 types z.1) (with_arguments scope mode called) f failed)

  behind_result : (e : PlainExpression) (mode : Mode) (one : Call) (called : Callable) (types : List Meaning)
      (f : Fault) → IsCall e one → scope.outside.callable one.name ≡ Some called
      → one.takes called.parameters ≡ Some types → EachTells scope one.args
      → (known_or (result_differs mode called.result) (begun mode called.result) ≡ Err f)
      ⊎ ((s : Bindings) × (known_or (result_differs mode called.result) (begun mode called.result) ≡ Ok s)
      × (from_types scope mode one called types s ≡ Err f)) → FirstFault scope e mode f
  behind_result e mode one called types f is name takes tells (inl failed) =
      let k = known_failed (result_differs mode called.result) (begun mode called.result) f failed in
      of_the_node e mode f (a_callee e mode f one is
      (where_some (unknown one.name) (scope.outside.callable one.name)
      (λ c. must_be (one.mistaken c.parameters) (one.takes c.parameters)
      (λ ts. must_be (result_differs mode c.result) (begun mode c.result) (λ s. []))) f called name
      (where_some (one.mistaken called.parameters) (one.takes called.parameters)
      (λ ts. must_be (result_differs mode called.result) (begun mode called.result) (λ s. [])) f types takes
      (where_none (result_differs mode called.result) (begun mode called.result) (λ s. []) f k.0 k.1))))
  behind_result e mode one called types f is name takes tells (inr (s, gave, failed)) =
      let result = known_ok (result_differs mode called.result) (begun mode called.result) s gave in
      behind_first e mode one called types s f is
      (record { is_called = name; one_each = takes; from_result = result }) tells
      (bind_failed (first (ops_of scope one.args) types s)
      (λ (z : List Half × Bindings). second (ops_of scope one.args) z.0 types z.1 >>= with_arguments scope mode called)
      f failed)

  behind_types : (e : PlainExpression) (mode : Mode) (one : Call) (called : Callable) (f : Fault)
      → IsCall e one → scope.outside.callable one.name ≡ Some called → EachTells scope one.args
      → (known_or (one.mistaken called.parameters) (one.takes called.parameters) ≡ Err f)
      ⊎ ((types : List Meaning)
      × (known_or (one.mistaken called.parameters) (one.takes called.parameters) ≡ Ok types)
      × (from_called scope mode one called types ≡ Err f)) → FirstFault scope e mode f
  behind_types e mode one called f is name tells (inl failed) =
      let k = known_failed (one.mistaken called.parameters) (one.takes called.parameters) f failed in
      of_the_node e mode f (a_callee e mode f one is
      (where_some (unknown one.name) (scope.outside.callable one.name)
      (λ c. must_be (one.mistaken c.parameters) (one.takes c.parameters)
      (λ ts. must_be (result_differs mode c.result) (begun mode c.result) (λ s. []))) f called name
      (where_none (one.mistaken called.parameters) (one.takes called.parameters)
      (λ ts. must_be (result_differs mode called.result) (begun mode called.result) (λ s. [])) f k.0 k.1)))
  behind_types e mode one called f is name tells (inr (types, gave, failed)) =
      behind_result e mode one called types f is name
      (known_ok (one.mistaken called.parameters) (one.takes called.parameters) types gave) tells
      (bind_failed (known_or (result_differs mode called.result) (begun mode called.result))
      (from_types scope mode one called types) f failed)

  behind_name : (e : PlainExpression) (mode : Mode) (one : Call) (f : Fault) → IsCall e one
      → EachTells scope one.args
      → (known_or (unknown one.name) (scope.outside.callable one.name) ≡ Err f)
      ⊎ ((called : Callable) × (known_or (unknown one.name) (scope.outside.callable one.name) ≡ Ok called)
      × (from_name scope mode one called ≡ Err f)) → FirstFault scope e mode f
  behind_name e mode one f is tells (inl failed) =
      let k = known_failed (unknown one.name) (scope.outside.callable one.name) f failed in
      of_the_node e mode f (a_callee e mode f one is
      (where_none (unknown one.name) (scope.outside.callable one.name)
      (λ c. must_be (one.mistaken c.parameters) (one.takes c.parameters)
      (λ ts. must_be (result_differs mode c.result) (begun mode c.result) (λ s. []))) f k.0 k.1))
  behind_name e mode one f is tells (inr (called, gave, failed)) =
      behind_types e mode one called f is
      (known_ok (unknown one.name) (scope.outside.callable one.name) called gave) tells
      (bind_failed (known_or (one.mistaken called.parameters) (one.takes called.parameters))
      (from_called scope mode one called) f failed)

  pub call_tells : (e : PlainExpression) (mode : Mode) (one : Call) (f : Fault) → IsCall e one
      → EachTells scope one.args → noted_call scope one mode ≡ Err f → FirstFault scope e mode f
  call_tells e mode one f is tells h =
      behind_name e mode one f is tells
      (bind_failed (known_or (unknown one.name) (scope.outside.callable one.name)) (from_name scope mode one) f h)
