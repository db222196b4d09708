-- What stops the noting of a call, both ways.
use Rattle.std.proofs.Common.{◌≡◌, ◌⊎◌, inl, inr, ℕ, zero, suc, Bool, true, false, List, [], ◌∷◌, refl, sym}
use Rattle.std.proofs.Common.{ap, subst, ◌∙◌, Option, Some, None, Ok, Err, length}
use Rattle.au_base.proofs.BoolLemmas.{never_both}
use Rattle.au_syntax.specs.Plain.{Bytes, PlainExpression}
use Rattle.au_types.specs.Types.{Meaning}
use Rattle.au_matching.specs.Bindings.{Bindings}
use Rattle.au_matching.specs.Fixed.{fixed}
use Rattle.au_judged_types.specs.Bounds.{parameters}
use Rattle.au_typing.specs.Scopes.{Callable, Scope}
use Rattle.au_typing.specs.Bare.{is_bare}
use Rattle.au_typing.specs.Faults.{Fault, Noting, ◌>>=◌}
use Rattle.au_typing.specs.Notes.{Mode, NotedExpression, note_of}
use Rattle.au_typing.specs.Calls.{Taken, TakenBare}
use Rattle.au_typing.specs.Operands.{Noter}
use Rattle.au_typing.specs.Search.{note_expression}
use Rattle.au_typing.specs.SearchCalls.{Half, Operand, first, first_step, half_of, put_before, second}
use Rattle.au_typing.specs.SearchCalls.{second_step, taken, taken_bare}
use Rattle.au_typing.proofs.Steps.{bind_found, bind_ok, ok_same}
use Rattle.au_typing.proofs.OrderLemmas.{bind_fails}
use Rattle.au_laws.specs.CallClauses.{ComesTo, FirstTaken, GoesOver, SecondTaken, at_first, behind_one}
use Rattle.au_laws.specs.CallClauses.{is_taken, is_taken_bare, waits, was_taken}
use Rattle.au_laws.specs.FirstFaults.{FirstFault}
use Rattle.au_laws.proofs.ClauseLemmas.{bind_failed}
use Rattle.au_laws.proofs.PassLemmas.{EachTells, FailsFirst, FailsSecond, none_left, ops_of, same_fault}
use Rattle.au_laws.proofs.PassLemmas.{suc_is, taken_bare_failed, taken_bare_gave, taken_bare_goes}
use Rattle.au_laws.proofs.PassLemmas.{taken_failed, taken_gave, taken_goes}

module _ (scope : Scope) where
  -- what the first pass leaves of an argument fits whether it is bare
  abbrev IsHalf : PlainExpression → Half → Type 0
  IsHalf p None = is_bare p ≡ true
  IsHalf p (Some a) = is_bare p ≡ false

  abbrev pub AreHalves : List PlainExpression → List Half → Type 0
  AreHalves [] [] = Unit {0}
  AreHalves (p ∷ ps) (half ∷ halves) = IsHalf p half × AreHalves ps halves
  AreHalves [] (half ∷ halves) = ⊥
  AreHalves (p ∷ ps) [] = ⊥

  never : {A : Type 0} (y : A) (f : Fault) → ◌≡◌ {A = Noting A} (Ok y) (Err f) → ⊥
  never y f h = cc

  -- ---- the first pass

  first_step_failed : (b : Bool) (p : PlainExpression) (t : Meaning) (s : Bindings) (f : Fault) → is_bare p ≡ b
      → ((mode : Mode) (f : Fault) → note_expression scope p mode ≡ Err f → FirstFault scope p mode f)
      → first_step b (note_expression scope p) t s ≡ Err f → (is_bare p ≡ false) × FailsFirst scope p t s f
  first_step_failed true p t s f is tells h = absurd (never (None, s) f h)
  first_step_failed false p t s f is tells h =
      by (bind_failed (taken (fixed s t) (note_expression scope p) t s) half_of f h)
    where
      by : (taken (fixed s t) (note_expression scope p) t s ≡ Err f)
          ⊎ ((y : NotedExpression × Bindings) × (taken (fixed s t) (note_expression scope p) t s ≡ Ok y)
          × (half_of y ≡ Err f)) → (is_bare p ≡ false) × FailsFirst scope p t s f
      by (inl failed) = (is, taken_failed scope (fixed s t) p t s f refl tells failed)
      by (inr z) = absurd (never (Some z.0.0, z.0.1) f z.2)

  -- what the first pass makes of an argument
  abbrev FirstMade : PlainExpression → Meaning → Bindings → Half × Bindings → Type 0
  FirstMade p t s z = FirstTaken scope p t s z.1 × IsHalf p z.0

  first_step_gave : (b : Bool) (p : PlainExpression) (t : Meaning) (s : Bindings) (z : Half × Bindings)
      → is_bare p ≡ b → first_step b (note_expression scope p) t s ≡ Ok z → FirstMade p t s z
  first_step_gave true p t s z is h = subst (FirstMade p t s) (ok_same (None, s) z h) (waits p t s is, is)
  first_step_gave false p t s z is h =
      let y = bind_ok (taken (fixed s t) (note_expression scope p) t s) half_of z h in
      let k = taken_gave scope (fixed s t) p t s y.0 y.1 in
      subst (FirstMade p t s) (ok_same (Some y.0.0, y.0.1) z y.2)
      (is_taken p t s y.0.1 y.0.0 is k.0 k.1 k.2, is)

  first_step_goes : (p : PlainExpression) (t : Meaning) (s q : Bindings) → FirstTaken scope p t s q
      → (half : Half) × (first_step (is_bare p) (note_expression scope p) t s ≡ Ok (half, q)) × IsHalf p half
  first_step_goes p t s q (waits e u r bare) =
      (None, ap (λ b. first_step b (note_expression scope e) u r) bare, bare)
  first_step_goes p t s q (is_taken e u r m a bare good is h) = (
    Some a,
    ap (λ b. first_step b (note_expression scope e) u r) bare
        ∙ bind_found half_of (taken_goes scope (fixed r u) e a u r m good is h),
    bare,
  )

  -- where the first pass fails
  abbrev pub FailsInFirst : List PlainExpression → List Meaning → Bindings → Fault → Type 0
  FailsInFirst ps ts s f =
      (d : PlainExpression) × (t : Meaning) × (r : Bindings) × ComesTo (FirstTaken scope) ps ts s d t r
      × (is_bare d ≡ false) × FailsFirst scope d t r f

  pub first_failed : (ps : List PlainExpression) (ts : List Meaning) (s : Bindings) (f : Fault)
      → length ts ≡ length ps → EachTells scope ps → first (ops_of scope ps) ts s ≡ Err f
      → FailsInFirst ps ts s f
  first_failed [] [] s f even tells h = absurd (never ([], s) f h)
  first_failed (p ∷ ps) (t ∷ ts) s f even tells h =
      by (first_failed ps ts)
      (bind_failed (first_step (is_bare p) (note_expression scope p) t s)
      (λ y. first (ops_of scope ps) ts y.1 >>= put_before y.0) f h)
    where
      rest_failed : (y : Half × Bindings) → FirstTaken scope p t s y.1 → FailsInFirst ps ts y.1 f
          → FailsInFirst (p ∷ ps) (t ∷ ts) s f
      rest_failed y made k =
          (k.0, k.1, k.2, behind_one p k.0 ps t k.1 ts s y.1 k.2 made k.3, k.4, k.5)

      rest : ((q : Bindings) (g : Fault) → length ts ≡ length ps → EachTells scope ps
          → first (ops_of scope ps) ts q ≡ Err g → FailsInFirst ps ts q g)
          → (y : Half × Bindings) → FirstTaken scope p t s y.1
          → (first (ops_of scope ps) ts y.1 ≡ Err f)
          ⊎ ((z : List Half × Bindings) × (first (ops_of scope ps) ts y.1 ≡ Ok z)
          × (put_before y.0 z ≡ Err f)) → FailsInFirst (p ∷ ps) (t ∷ ts) s f
      rest more y made (inl failed) =
          rest_failed y made (more y.1 f (suc_is (length ts) (length ps) even) tells.1 failed)
      rest more y made (inr z) = absurd (never (y.0 ∷ z.0.0, z.0.1) f z.2)

      by : ((q : Bindings) (g : Fault) → length ts ≡ length ps → EachTells scope ps
          → first (ops_of scope ps) ts q ≡ Err g → FailsInFirst ps ts q g)
          → (first_step (is_bare p) (note_expression scope p) t s ≡ Err f)
          ⊎ ((y : Half × Bindings) × (first_step (is_bare p) (note_expression scope p) t s ≡ Ok y)
          × ((first (ops_of scope ps) ts y.1 >>= put_before y.0) ≡ Err f)) → FailsInFirst (p ∷ ps) (t ∷ ts) s f
      by more (inl failed) =
          let k = first_step_failed (is_bare p) p t s f refl tells.0 failed in
          (p, t, s, at_first p ps t ts s, k.0, k.1)
      by more (inr y) =
          rest more y.0 (first_step_gave (is_bare p) p t s y.0 refl y.1).0
          (bind_failed (first (ops_of scope ps) ts y.0.1) (put_before y.0.0) f y.2)
  first_failed [] (t ∷ ts) s f even tells h = absurd (none_left (length ts) even)
  first_failed (p ∷ ps) [] s f even tells h = absurd (none_left (length ps) (sym even))

  -- what the first pass makes of arguments
  abbrev FirstDone : List PlainExpression → List Meaning → Bindings → List Half × Bindings → Type 0
  FirstDone ps ts s z = GoesOver (FirstTaken scope) ps ts s z.1 × AreHalves ps z.0

  pub first_gave : (ps : List PlainExpression) (ts : List Meaning) (s : Bindings) (z : List Half × Bindings)
      → first (ops_of scope ps) ts s ≡ Ok z → FirstDone ps ts s z
  first_gave [] [] s z h = subst (FirstDone [] [] s) (ok_same ([], s) z h) (refl, tt)
  first_gave (p ∷ ps) (t ∷ ts) s z h =
      let y = bind_ok (first_step (is_bare p) (note_expression scope p) t s)
      (λ (w : Half × Bindings). first (ops_of scope ps) ts w.1 >>= put_before w.0) z h in
      let k = first_step_gave (is_bare p) p t s y.0 refl y.1 in
      let x = bind_ok (first (ops_of scope ps) ts y.0.1) (put_before y.0.0) z y.2 in
      let rest = first_gave ps ts y.0.1 x.0 x.1 in
      subst (FirstDone (p ∷ ps) (t ∷ ts) s) (ok_same (y.0.0 ∷ x.0.0, x.0.1) z x.2)
      ((y.0.1, k.0, rest.0), (k.1, rest.1))
  first_gave [] (t ∷ ts) s z h = absurd cc
  first_gave (p ∷ ps) [] s z h = absurd cc

  pub first_goes : (ps : List PlainExpression) (ts : List Meaning) (s q : Bindings)
      → GoesOver (FirstTaken scope) ps ts s q
      → (halves : List Half) × (first (ops_of scope ps) ts s ≡ Ok (halves, q)) × AreHalves ps halves
  first_goes [] [] s q g = ([], ap (λ (r : Bindings). Ok ([], r)) (sym g), tt)
  first_goes (p ∷ ps) (t ∷ ts) s q g =
      let one = first_step_goes p t s g.0 g.1 in
      let rest = first_goes ps ts g.0 q g.2 in (
        one.0 ∷ rest.0,
        bind_found (λ (w : Half × Bindings). first (ops_of scope ps) ts w.1 >>= put_before w.0) one.1
            ∙ bind_found (put_before one.0) rest.1,
        (one.2, rest.2),
      )
  first_goes [] (t ∷ ts) s q g = absurd g
  first_goes (p ∷ ps) [] s q g = absurd g

  pub first_fails_at : (ps : List PlainExpression) (ts : List Meaning) (s : Bindings) (d : PlainExpression)
      (t : Meaning) (r : Bindings) (f : Fault) → ComesTo (FirstTaken scope) ps ts s d t r → is_bare d ≡ false
      → taken (fixed r t) (note_expression scope d) t r ≡ Err f → first (ops_of scope ps) ts s ≡ Err f
  first_fails_at ps ts s d t r f (at_first p more u others q) bare h =
      bind_fails (λ (w : Half × Bindings). first (ops_of scope more) others w.1 >>= put_before w.0)
      (ap (λ b. first_step b (note_expression scope d) t r) bare ∙ bind_fails half_of h)
  first_fails_at ps ts s d t r f (behind_one p e more u v others a q b step comes) bare h =
      let one = first_step_goes p u a q step in
      bind_found (λ (w : Half × Bindings). first (ops_of scope more) others w.1 >>= put_before w.0) one.1
      ∙ bind_fails (put_before one.0) (first_fails_at more others q d t r f comes bare h)

  -- ---- the second pass

  second_step_failed : (half : Half) (p : PlainExpression) (t : Meaning) (s : Bindings) (f : Fault)
      → IsHalf p half
      → ((mode : Mode) (f : Fault) → note_expression scope p mode ≡ Err f → FirstFault scope p mode f)
      → second_step half (note_expression scope p) t s ≡ Err f → (is_bare p ≡ true) × FailsSecond scope p t s f
  second_step_failed (Some a) p t s f is tells h = absurd (never (a, s) f h)
  second_step_failed None p t s f is tells h =
      (is, taken_bare_failed scope (fixed s t) p t s f refl tells h)

  second_step_gave : (half : Half) (p : PlainExpression) (t : Meaning) (s : Bindings)
      (z : NotedExpression × Bindings) → IsHalf p half
      → second_step half (note_expression scope p) t s ≡ Ok z → SecondTaken scope p t s z.1
  second_step_gave (Some a) p t s z is h =
      subst (λ (y : NotedExpression × Bindings). SecondTaken scope p t s y.1) (ok_same (a, s) z h)
      (was_taken p t s is)
  second_step_gave None p t s z is h =
      let k = taken_bare_gave scope (fixed s t) p t s z h in
      is_taken_bare p t s z.1 z.0 is k.0 k.1 k.2

  second_step_goes : (half : Half) (p : PlainExpression) (t : Meaning) (s q : Bindings) → IsHalf p half
      → SecondTaken scope p t s q
      → (a : NotedExpression) × (second_step half (note_expression scope p) t s ≡ Ok (a, q))
  second_step_goes (Some x) p t s q is (was_taken e u r bare) = (x, refl)
  second_step_goes None p t s q is (was_taken e u r bare) = never_both (is_bare e) is bare
  second_step_goes (Some x) p t s q is (is_taken_bare e u r m a bare good erased h) =
      never_both (is_bare e) bare is
  second_step_goes None p t s q is (is_taken_bare e u r m a bare good erased h) =
      (a, taken_bare_goes scope (fixed r u) e a u r m good erased h)

  -- where the second pass fails
  abbrev pub FailsInSecond : List PlainExpression → List Meaning → Bindings → Fault → Type 0
  FailsInSecond ps ts s f =
      (d : PlainExpression) × (t : Meaning) × (r : Bindings) × ComesTo (SecondTaken scope) ps ts s d t r
      × (is_bare d ≡ true) × FailsSecond scope d t r f

  pub second_failed : (ps : List PlainExpression) (halves : List Half) (ts : List Meaning) (s : Bindings)
      (f : Fault) → length ts ≡ length ps → AreHalves ps halves → EachTells scope ps
      → second (ops_of scope ps) halves ts s ≡ Err f → FailsInSecond ps ts s f
  second_failed [] [] [] s f even is tells h = absurd (never ([], s) f h)
  second_failed (p ∷ ps) (half ∷ halves) (t ∷ ts) s f even is tells h =
      by (second_failed ps halves ts)
      (bind_failed (second_step half (note_expression scope p) t s)
      (λ y. second (ops_of scope ps) halves ts y.1 >>= put_before y.0) f h)
    where
      rest : ((q : Bindings) (g : Fault) → length ts ≡ length ps → AreHalves ps halves → EachTells scope ps
          → second (ops_of scope ps) halves ts q ≡ Err g → FailsInSecond ps ts q g)
          → (y : NotedExpression × Bindings) → SecondTaken scope p t s y.1
          → (second (ops_of scope ps) halves ts y.1 ≡ Err f)
          ⊎ ((z : List NotedExpression × Bindings) × (second (ops_of scope ps) halves ts y.1 ≡ Ok z)
          × (put_before y.0 z ≡ Err f)) → FailsInSecond (p ∷ ps) (t ∷ ts) s f
      rest more y made (inl failed) =
          let k = more y.1 f (suc_is (length ts) (length ps) even) is.1 tells.1 failed in
          (k.0, k.1, k.2, behind_one p k.0 ps t k.1 ts s y.1 k.2 made k.3, k.4, k.5)
      rest more y made (inr z) = absurd (never (y.0 ∷ z.0.0, z.0.1) f z.2)

      by : ((q : Bindings) (g : Fault) → length ts ≡ length ps → AreHalves ps halves → EachTells scope ps
          → second (ops_of scope ps) halves ts q ≡ Err g → FailsInSecond ps ts q g)
          → (second_step half (note_expression scope p) t s ≡ Err f)
          ⊎ ((y : NotedExpression × Bindings) × (second_step half (note_expression scope p) t s ≡ Ok y)
          × ((second (ops_of scope ps) halves ts y.1 >>= put_before y.0) ≡ Err f))
          → FailsInSecond (p ∷ ps) (t ∷ ts) s f
      by more (inl failed) =
          let k = second_step_failed half p t s f is.0 tells.0 failed in
          (p, t, s, at_first p ps t ts s, k.0, k.1)
      by more (inr y) =
          rest more y.0 (second_step_gave half p t s y.0 is.0 y.1)
          (bind_failed (second (ops_of scope ps) halves ts y.0.1) (put_before y.0.0) f y.2)
  second_failed [] [] (t ∷ ts) s f even is tells h = absurd (none_left (length ts) even)
  second_failed (p ∷ ps) halves [] s f even is tells h = absurd (none_left (length ps) (sym even))
  second_failed [] (half ∷ halves) ts s f even is tells h = absurd is
  second_failed (p ∷ ps) [] (t ∷ ts) s f even is tells h = absurd is

  pub second_gave : (ps : List PlainExpression) (halves : List Half) (ts : List Meaning) (s : Bindings)
      (z : List NotedExpression × Bindings) → AreHalves ps halves
      → second (ops_of scope ps) halves ts s ≡ Ok z → GoesOver (SecondTaken scope) ps ts s z.1
  second_gave [] [] [] s z is h =
      subst (λ (y : List NotedExpression × Bindings). GoesOver (SecondTaken scope) [] [] s y.1)
      (ok_same ([], s) z h) refl
  second_gave (p ∷ ps) (half ∷ halves) (t ∷ ts) s z is h =
      let y = bind_ok (second_step half (note_expression scope p) t s)
      (λ (w : NotedExpression × Bindings). second (ops_of scope ps) halves ts w.1 >>= put_before w.0) z h in
      let k = second_step_gave half p t s y.0 is.0 y.1 in
      let x = bind_ok (second (ops_of scope ps) halves ts y.0.1) (put_before y.0.0) z y.2 in
      let rest = second_gave ps halves ts y.0.1 x.0 is.1 x.1 in
      subst (λ (w : List NotedExpression × Bindings). GoesOver (SecondTaken scope) (p ∷ ps) (t ∷ ts) s w.1)
      (ok_same (y.0.0 ∷ x.0.0, x.0.1) z x.2) (y.0.1, k, rest)
  second_gave [] [] (t ∷ ts) s z is h = absurd cc
  second_gave (p ∷ ps) (half ∷ halves) [] s z is h = absurd cc
  second_gave [] (half ∷ halves) ts s z is h = absurd is
  second_gave (p ∷ ps) [] ts s z is h = absurd is

  pub second_goes : (ps : List PlainExpression) (halves : List Half) (ts : List Meaning) (s q : Bindings)
      → AreHalves ps halves → GoesOver (SecondTaken scope) ps ts s q
      → (args : List NotedExpression) × (second (ops_of scope ps) halves ts s ≡ Ok (args, q))
  second_goes [] [] [] s q is g = ([], ap (λ (r : Bindings). Ok ([], r)) (sym g))
  second_goes (p ∷ ps) (half ∷ halves) (t ∷ ts) s q is g =
      let one = second_step_goes half p t s g.0 is.0 g.1 in
      let rest = second_goes ps halves ts g.0 q is.1 g.2 in (
        one.0 ∷ rest.0,
        bind_found (λ (w : NotedExpression × Bindings). second (ops_of scope ps) halves ts w.1 >>= put_before w.0)
            one.1 ∙ bind_found (put_before one.0) rest.1,
      )
  second_goes [] [] (t ∷ ts) s q is g = absurd g
  second_goes (p ∷ ps) (half ∷ halves) [] s q is g = absurd g
  second_goes [] (half ∷ halves) ts s q is g = absurd is
  second_goes (p ∷ ps) [] ts s q is g = absurd is

  pub second_fails_at : (ps : List PlainExpression) (halves : List Half) (ts : List Meaning) (s : Bindings)
      (d : PlainExpression) (t : Meaning) (r : Bindings) (f : Fault) → AreHalves ps halves
      → ComesTo (SecondTaken scope) ps ts s d t r → is_bare d ≡ true
      → taken_bare (fixed r t) (note_expression scope d) t r ≡ Err f
      → second (ops_of scope ps) halves ts s ≡ Err f
  second_fails_at ps (None ∷ halves) ts s d t r f is (at_first p more u others q) bare h =
      bind_fails (λ (w : NotedExpression × Bindings). second (ops_of scope more) halves others w.1 >>= put_before w.0) h
  second_fails_at ps (Some a ∷ halves) ts s d t r f is (at_first p more u others q) bare h =
      never_both (is_bare d) bare is.0
  second_fails_at ps (half ∷ halves) ts s d t r f is (behind_one p e more u v others a q b step comes) bare h =
      let one = second_step_goes half p u a q is.0 step in
      bind_found (λ (w : NotedExpression × Bindings). second (ops_of scope more) halves others w.1 >>= put_before w.0)
      one.1 ∙ bind_fails (put_before one.0) (second_fails_at more halves others q d t r f is.1 comes bare h)
  second_fails_at ps [] ts s d t r f is (at_first p more u others q) bare h = absurd is
  second_fails_at ps [] ts s d t r f is (behind_one p e more u v others a q b step comes) bare h = absurd is
