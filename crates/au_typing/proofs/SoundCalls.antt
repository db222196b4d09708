-- What the search gives of calls is good.
use Rattle.std.proofs.Common.{◌≡◌, Bool, true, false, List, [], ◌∷◌, refl, sym, ap, subst, ◌∙◌, Option, Some, None, Ok}
use Rattle.au_syntax.specs.Plain.{Bytes, PlainExpression}
use Rattle.au_types.specs.Types.{Meaning, parameter}
use Rattle.au_matching.specs.Bindings.{Bindings}
use Rattle.au_matching.specs.Fixed.{fixed}
use Rattle.au_matching.specs.Matched.{matched}
use Rattle.au_matching.specs.Substituted.{substituted}
use Rattle.au_judged_types.specs.Bounds.{parameters}
use Rattle.au_typing.specs.Scopes.{Callable, Scope, Typed}
use Rattle.au_typing.specs.Bare.{is_bare}
use Rattle.au_typing.specs.Calls.{begun, first_lacking, first_misfit, first_unfixed, types_of_call, wanted_of}
use Rattle.au_typing.specs.Calls.{FirstStep, GoodCall, Passes, SecondStep, Taken, TakenBare}
use Rattle.au_typing.specs.Faults.{◌>>=◌, Why, known_or, unknown, different, unfixed}
use Rattle.au_typing.specs.Good.{AllGood, shown}
use Rattle.au_typing.specs.Limits.{are_within, within}
use Rattle.au_typing.specs.Notes.{Mode, Note, NotedExpression, erase, note_of, type_of}
use Rattle.au_typing.specs.Operands.{Noter}
use Rattle.au_typing.specs.Rules.{int32}
use Rattle.au_typing.specs.SearchCalls.{Half, Operand, beside, call_note, call_noted, called_note, first}
use Rattle.au_typing.specs.SearchCalls.{first_step, half_of, lacks, misfit, put_before, result_differs}
use Rattle.au_typing.specs.SearchCalls.{second, second_step, taken, taken_as, taken_bare, unless_why}
use Rattle.au_typing.specs.SearchCalls.{with_arguments}
use Rattle.au_typing.proofs.Steps.{bind_ok, known_ok, ok_same, unless_ok, within_ok}
use Rattle.au_typing.proofs.SoundParts.{Sounds}
use Rattle.au_typing.proofs.Found.{bare_kept}

module _ (scope : Scope) where
  -- each argument is noted well, and it is told whether it is bare
  abbrev pub AllSound : List Operand → List PlainExpression → Type 0
  AllSound [] [] = Unit {0}
  AllSound (one ∷ rest) (p ∷ ps) = (one.bare ≡ is_bare p) × Sounds scope one.noter p × AllSound rest ps
  AllSound [] (p ∷ ps) = ⊥
  AllSound (one ∷ rest) [] = ⊥

  -- good notings of trees, in any modes
  abbrev pub AreNotings : List PlainExpression → List NotedExpression → Type 0
  AreNotings [] [] = Unit {0}
  AreNotings (p ∷ ps) (a ∷ args) = AllGood scope a × (erase a ≡ p) × AreNotings ps args
  AreNotings [] (a ∷ args) = ⊥
  AreNotings (p ∷ ps) [] = ⊥

  -- ---- one argument

  -- a good noting of a tree, taken by a rule
  abbrev IsTaken : (Note → Bindings → Bindings → Type 0) → PlainExpression → Bindings → NotedExpression
      × Bindings → Type 0
  IsTaken rule p s z = AllGood scope z.0 × (erase z.0 ≡ p) × rule (note_of z.0) s z.1

  taken_sound : (b : Bool) (e : Noter) (p : PlainExpression) (t : Meaning) (s : Bindings)
      (z : NotedExpression × Bindings) → Sounds scope e p → taken b e t s ≡ Ok z → IsTaken (Taken b t) p s z
  taken_sound true e p t s z f h =
      let a = bind_ok (e (Some (substituted s t))) (beside s) z h in
      let i = f (Some (substituted s t)) a.0 a.1 in
      subst (IsTaken (Taken true t) p s) (ok_same (a.0, s) z a.2) (i.0, i.2, (i.1, refl))
  taken_sound false e p t s z f h =
      let a = bind_ok (e None) (λ (x : NotedExpression). taken_as t (type_of x) s x) z h in
      let i = f None a.0 a.1 in
      let cause = different (substituted s t) (type_of a.0) in
      let m = bind_ok (known_or cause (matched t (type_of a.0) s)) (λ (r : Bindings). Ok (a.0, r)) z a.2 in
      subst (IsTaken (Taken false t) p s) (ok_same (a.0, m.0) z m.2)
      (i.0, i.2, (i.1, known_ok cause (matched t (type_of a.0) s) m.0 m.1))

  taken_bare_sound : (b : Bool) (e : Noter) (p : PlainExpression) (t : Meaning) (s : Bindings)
      (z : NotedExpression × Bindings) → Sounds scope e p → taken_bare b e t s ≡ Ok z →
      IsTaken (TakenBare b t) p s z
  taken_bare_sound true e p t s z f h =
      let a = bind_ok (e (Some (substituted s t))) (beside s) z h in
      let i = f (Some (substituted s t)) a.0 a.1 in
      subst (IsTaken (TakenBare true t) p s) (ok_same (a.0, s) z a.2) (i.0, i.2, (i.1, refl))
  taken_bare_sound false e p (parameter name) s z f h =
      let t = parameter name in
      let a = bind_ok (e None) (taken_as t int32 s) z h in
      let i = f None a.0 a.1 in
      let cause = different (substituted s t) int32 in
      let m = bind_ok (known_or cause (matched t int32 s)) (λ (r : Bindings). Ok (a.0, r)) z a.2 in
      subst (IsTaken (TakenBare false t) p s) (ok_same (a.0, m.0) z m.2)
      (i.0, i.2, (i.1, known_ok cause (matched t int32 s) m.0 m.1))
  taken_bare_sound false e p t s z f h = absurd cc

  -- ---- the first pass

  -- what the first pass left of one argument
  abbrev IsHalf : PlainExpression → Meaning → Bindings → Half → Bindings → Type 0
  IsHalf p t s None q = (is_bare p ≡ true) × (q ≡ s)
  IsHalf p t s (Some a) q = (is_bare p ≡ false) × AllGood scope a × (erase a ≡ p) × Taken (fixed s t) t (note_of a) s q

  -- what the first pass left of arguments
  abbrev Halved : List PlainExpression → List Meaning → List Half → Bindings → Bindings → Type 0
  Halved [] [] [] s r = r ≡ s
  Halved (p ∷ ps) (t ∷ ts) (half ∷ halves) s r = (q : Bindings) × IsHalf p t s half q × Halved ps ts halves q r
  Halved [] [] (half ∷ halves) s r = ⊥
  Halved [] (t ∷ ts) halves s r = ⊥
  Halved (p ∷ ps) [] halves s r = ⊥
  Halved (p ∷ ps) (t ∷ ts) [] s r = ⊥

  first_step_sound : (x : Bool) (e : Noter) (p : PlainExpression) (t : Meaning) (s : Bindings)
      (y : Half × Bindings) → x ≡ is_bare p → Sounds scope e p → first_step x e t s ≡ Ok y →
      IsHalf p t s y.0 y.1
  first_step_sound true e p t s y is f h =
      subst (λ (w : Half × Bindings). IsHalf p t s w.0 w.1) (ok_same (None, s) y h) (sym is, refl)
  first_step_sound false e p t s y is f h =
      let b = bind_ok (taken (fixed s t) e t s) half_of y h in
      let k = taken_sound (fixed s t) e p t s b.0 f b.1 in
      subst (λ (w : Half × Bindings). IsHalf p t s w.0 w.1) (ok_same (Some b.0.0, b.0.1) y b.2) (sym is, k.0, k.1, k.2)

  first_sound : (ops : List Operand) (ps : List PlainExpression) (ts : List Meaning) (s : Bindings)
      (z : List Half × Bindings) → AllSound ops ps → first ops ts s ≡ Ok z → Halved ps ts z.0 s z.1
  first_sound [] [] [] s z f h = subst (λ (w : List Half × Bindings). Halved [] [] w.0 s w.1) (ok_same ([], s) z h) refl
  first_sound (one ∷ rest) (p ∷ ps) (t ∷ ts) s z f h =
      let b = bind_ok (first_step one.bare one.noter t s)
      (λ (y : Half × Bindings). first rest ts y.1 >>= put_before y.0) z h in
      let c = bind_ok (first rest ts b.0.1) (put_before b.0.0) z b.2 in
      let one_is = first_step_sound one.bare one.noter p t s b.0 f.0 f.1 b.1 in
      subst (λ (w : List Half × Bindings). Halved (p ∷ ps) (t ∷ ts) w.0 s w.1)
      (ok_same (b.0.0 ∷ c.0.0, c.0.1) z c.2) (b.0.1, one_is, first_sound rest ps ts b.0.1 c.0 f.2 c.1)
  first_sound [] [] (t ∷ ts) s z f h = absurd cc
  first_sound (one ∷ rest) (p ∷ ps) [] s z f h = absurd cc
  first_sound [] (p ∷ ps) ts s z f h = absurd f
  first_sound (one ∷ rest) [] ts s z f h = absurd f

  -- ---- the second pass

  -- the steps of both passes at one argument
  abbrev IsStepped : PlainExpression → Meaning → Bindings → Bindings → Bindings → NotedExpression × Bindings → Type 0
  IsStepped p t s q m z =
      AllGood scope z.0 × (erase z.0 ≡ p) × FirstStep (is_bare z.0) t (note_of z.0) s q
      × SecondStep (is_bare z.0) t (note_of z.0) m z.1

  by_kind : (x : Bool) (p : PlainExpression) (t : Meaning) (s q m r : Bindings) (a : NotedExpression) →
      is_bare p ≡ x → AllGood scope a → erase a ≡ p → FirstStep x t (note_of a) s q →
      SecondStep x t (note_of a) m r → IsStepped p t s q m (a, r)
  by_kind x p t s q m r a is good erased one two =
      let bare : x ≡ is_bare a = sym is ∙ (ap is_bare (sym erased) ∙ bare_kept a) in (
        good,
        erased,
        subst (λ (b : Bool). FirstStep b t (note_of a) s q) bare one,
        subst (λ (b : Bool). SecondStep b t (note_of a) m r) bare two,
      )

  second_step_sound : (half : Half) (e : Noter) (p : PlainExpression) (t : Meaning) (s q m : Bindings)
      (z : NotedExpression × Bindings) → Sounds scope e p → IsHalf p t s half q → second_step half e t m
      ≡ Ok z → IsStepped p t s q m z
  second_step_sound None e p t s q m z f i h =
      let k = taken_bare_sound (fixed m t) e p t m z f h in
      by_kind true p t s q m z.1 z.0 i.0 k.0 k.1 i.1 k.2
  second_step_sound (Some a) e p t s q m z f i h =
      subst (IsStepped p t s q m) (ok_same (a, m) z h) (by_kind false p t s q m m a i.0 i.1 i.2 i.3 refl)

  -- good notings of arguments that both passes take
  abbrev ArePassed : List PlainExpression → List Meaning → Bindings → Bindings → Bindings →
      List NotedExpression × Bindings → Type 0
  ArePassed ps ts s q m z =
      AreNotings ps z.0 × Passes FirstStep ts (shown z.0) s q × Passes SecondStep ts (shown z.0) m z.1

  second_sound : (ops : List Operand) (ps : List PlainExpression) (halves : List Half) (ts : List Meaning)
      (s q m : Bindings) (z : List NotedExpression × Bindings) → AllSound ops ps → Halved ps ts halves s q →
      second ops halves ts m ≡ Ok z → ArePassed ps ts s q m z
  second_sound [] [] [] [] s q m z f i h = subst (ArePassed [] [] s q m) (ok_same ([], m) z h) (tt, i, refl)
  second_sound (one ∷ rest) (p ∷ ps) (half ∷ halves) (t ∷ ts) s q m z f i h =
      let b = bind_ok (second_step half one.noter t m)
      (λ (y : NotedExpression × Bindings). second rest halves ts y.1 >>= put_before y.0) z h in
      let c = bind_ok (second rest halves ts b.0.1) (put_before b.0.0) z b.2 in
      let k = second_step_sound half one.noter p t s i.0 m b.0 f.1 i.1 b.1 in
      let r = second_sound rest ps halves ts i.0 q b.0.1 c.0 f.2 i.2 c.1 in
      subst (ArePassed (p ∷ ps) (t ∷ ts) s q m) (ok_same (b.0.0 ∷ c.0.0, c.0.1) z c.2)
      ((k.0, k.1, r.0), (i.0, k.2, r.1), (b.0.1, k.3, r.2))
  second_sound [] [] (half ∷ halves) [] s q m z f i h = absurd i
  second_sound [] [] halves (t ∷ ts) s q m z f i h = absurd i
  second_sound (one ∷ rest) (p ∷ ps) halves [] s q m z f i h = absurd i
  second_sound (one ∷ rest) (p ∷ ps) [] (t ∷ ts) s q m z f i h = absurd i
  second_sound [] (p ∷ ps) halves ts s q m z f i h = absurd f
  second_sound (one ∷ rest) [] halves ts s q m z f i h = absurd f

  -- ---- the whole call

  -- the facts on the note of a call
  abbrev IsCallNote : Mode → Callable → Bindings → Note → Type 0
  IsCallNote mode called s n =
      (first_unfixed s (parameters called.generics) ≡ None)
      × (are_within (types_of_call mode called s) ≡ true)
      × (first_misfit scope s (parameters called.generics) ≡ None)
      × (first_lacking scope s (wanted_of called) ≡ None) × (call_note mode called s ≡ n)

  note_sound : (mode : Mode) (called : Callable) (s : Bindings) (n : Note) → called_note scope mode called s
      ≡ Ok n → IsCallNote mode called s n
  note_sound mode called s n h =
      let hold = unless_why lacks (first_lacking scope s (wanted_of called)) (Ok (call_note mode called s)) in
      let fit = unless_why (misfit s) (first_misfit scope s (parameters called.generics)) hold in
      let a = unless_ok unfixed (first_unfixed s (parameters called.generics))
      (within (types_of_call mode called s) fit) n h in
      let b = within_ok (types_of_call mode called s) fit n a.1 in
      let c = unless_ok (misfit s) (first_misfit scope s (parameters called.generics)) hold n b.1 in
      let d = unless_ok lacks (first_lacking scope s (wanted_of called)) (Ok (call_note mode called s)) n c.1 in
      (a.0, b.0, c.0, d.0, ok_same (call_note mode called s) n d.1)

  -- a good call with good arguments
  abbrev pub IsCall : Bytes → (List Typed → Option (List Meaning)) → Mode → List PlainExpression → Note
      × List NotedExpression → Type 0
  IsCall name takes mode ps z =
      GoodCall scope z.0 name takes (shown z.1) × (z.0.mode ≡ mode) × AreNotings ps z.1

  -- what every rule of a call says makes a good call
  given_sound : (name : Bytes) (takes : List Typed → Option (List Meaning)) (mode : Mode)
      (ps : List PlainExpression) (called : Callable) (types : List Meaning) (begins goes_on s : Bindings)
      (m : Note) (args : List NotedExpression) (z : Note × List NotedExpression) → scope.outside.callable name
      ≡ Some called → takes called.parameters ≡ Some types → begun mode called.result ≡ Some begins →
      ArePassed ps types begins goes_on goes_on (args, s) → IsCallNote mode called s m → (m, args) ≡ z →
      IsCall name takes mode ps z
  given_sound name takes mode ps called types begins goes_on s m args z is_called one_each from_result passed
      facts whole =
      let good : GoodCall scope (call_note mode called s) name takes (shown args) = record {
        called = called;
        is_called = is_called;
        types = types;
        one_each = one_each;
        begins = begins;
        from_result = from_result;
        goes_on = goes_on;
        not_bare = passed.1;
        ends = s;
        bare = passed.2;
        all_fixed = facts.0;
        limited = facts.1;
        all_fit = facts.2;
        all_hold = facts.3;
        is_noted = refl;
      } in
      subst (IsCall name takes mode ps) (ap (λ (note : Note). (note, args)) facts.4 ∙ whole) (good, refl, passed.0)

  pub call_sound : (name : Bytes) (takes : List Typed → Option (List Meaning)) (mistaken : List Typed → Why)
      (mode : Mode) (ops : List Operand) (ps : List PlainExpression) (z : Note × List NotedExpression) →
      AllSound ops ps → call_noted scope name takes mistaken mode ops ≡ Ok z → IsCall name takes mode ps z
  call_sound name takes mistaken mode ops ps z f h =
      let a = bind_ok (known_or (unknown name) (scope.outside.callable name))
      (λ (called : Callable). known_or (mistaken called.parameters) (takes called.parameters) >>=
      λ (types : List Meaning). known_or (result_differs mode called.result) (begun mode called.result) >>=
      λ (s : Bindings). first ops types s >>= λ (y : List Half × Bindings). second ops y.0 types y.1 >>=
      with_arguments scope mode called) z h in
      let called : Callable = a.0 in
      let b = bind_ok (known_or (mistaken called.parameters) (takes called.parameters))
      (λ (types : List Meaning). known_or (result_differs mode called.result) (begun mode called.result) >>=
      λ (s : Bindings). first ops types s >>= λ (y : List Half × Bindings). second ops y.0 types y.1 >>=
      with_arguments scope mode called) z a.2 in
      let types : List Meaning = b.0 in
      let c = bind_ok (known_or (result_differs mode called.result) (begun mode called.result))
      (λ (s : Bindings). first ops types s >>= λ (y : List Half × Bindings). second ops y.0 types y.1 >>=
      with_arguments scope mode called) z b.2 in
      let s : Bindings = c.0 in
      let d = bind_ok (first ops types s) (λ (y : List Half × Bindings). second ops y.0 types y.1 >>=
      with_arguments scope mode called) z c.2 in
      let e = bind_ok (second ops d.0.0 types d.0.1) (with_arguments scope mode called) z d.2 in
      let n = bind_ok (called_note scope mode called e.0.1) (λ (m : Note). Ok (m, e.0.0)) z e.2 in
      let facts = note_sound mode called e.0.1 n.0 n.1 in
      let passed = second_sound ops ps d.0.0 types s d.0.1 d.0.1 e.0 f (first_sound ops ps types s d.0 f d.1) e.1 in
      given_sound name takes mode ps called types s d.0.1 e.0.1 n.0 e.0.0 z
      (known_ok (unknown name) (scope.outside.callable name) called a.1)
      (known_ok (mistaken called.parameters) (takes called.parameters) types b.1)
      (known_ok (result_differs mode called.result) (begun mode called.result) s c.1) passed facts
      (ok_same (n.0, e.0.0) z n.2)
