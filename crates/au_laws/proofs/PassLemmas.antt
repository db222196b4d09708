-- The two passes over the arguments of a call: what they go over, and where they fail.
use Rattle.std.proofs.Common.{◌≡◌, ◌⊎◌, inl, inr, ℕ, suc, ◌==◌, Bool, true, false, List, [], ◌∷◌, refl, sym}
use Rattle.std.proofs.Common.{ap, subst, ◌∙◌, Option, Some, None, Ok, Err, length}
use Rattle.std.proofs.Common.{if◌then◌else◌}
use Rattle.au_syntax.specs.Expressions.{no_expressions, expressions, no_arguments, arguments}
use Rattle.au_syntax.specs.Plain.{PlainArguments, PlainExpression, PlainExpressions}
use Rattle.au_types.specs.Types.{Meaning, parameter, unit, truth, integer, text, named, reads, writes}
use Rattle.au_matching.specs.Bindings.{Bindings}
use Rattle.au_matching.specs.Fixed.{fixed}
use Rattle.au_matching.specs.Matched.{matched}
use Rattle.au_matching.specs.Substituted.{substituted}
use Rattle.au_typing.specs.Scopes.{Scope, Typed}
use Rattle.au_typing.specs.Bare.{is_bare}
use Rattle.au_typing.specs.Calls.{Taken, TakenBare, by_labels, each_is_named_once, in_order, labelled_types}
use Rattle.au_typing.specs.Faults.{Fault, Noting, ◌>>=◌, Why, why, known_or, different}
use Rattle.au_typing.specs.Good.{AllGood, IsNoting, count_of, items_of, labels_of, values_of}
use Rattle.au_typing.specs.Notes.{Mode, NotedExpression, erase, mode_of, note_of, type_of}
use Rattle.au_typing.specs.Rules.{int32}
use Rattle.au_typing.specs.Search.{labelled_operands, note_expression, operands}
use Rattle.au_typing.specs.SearchCalls.{Half, Operand, beside, first, first_step, half_of, put_before, second}
use Rattle.au_typing.specs.SearchCalls.{second_step, taken, taken_as, taken_bare}
use Rattle.au_typing.proofs.Refused.{noting_is_given}
use Rattle.au_typing.proofs.Sound.{sound}
use Rattle.au_typing.proofs.Steps.{bind_found, bind_ok, known_found, known_ok, ok_same}
use Rattle.au_typing.proofs.LabelledLemmas.{where_named, labelled_length, ordered}
use Rattle.au_laws.specs.CallClauses.{ComesTo, FirstTaken, GoesOver, SecondTaken, at_first, behind_one}
use Rattle.au_laws.specs.CallClauses.{is_taken, is_taken_bare, waits, wanted_under, was_taken}
use Rattle.au_laws.specs.FirstFaults.{BareWants, FirstFault, is_parameter, its_type, nothing}
use Rattle.au_laws.proofs.ClauseLemmas.{bind_failed, fault_of}

pub same_fault : {A : Type 0} (f g : Fault) → ◌≡◌ {A = Noting A} (Err f) (Err g) → f ≡ g
same_fault f g h = cc

pub known_failed : {A : Type 0} (cause : Why) (o : Option A) (f : Fault) → known_or cause o ≡ Err f
    → (o ≡ None) × (f ≡ why cause)
known_failed cause None f h = (refl, sym (same_fault (why cause) f h))
known_failed cause (Some x) f h = absurd cc

-- ---- there are as many types as arguments

items_length : (es : PlainExpressions) → count_of es ≡ length (items_of es)
items_length no_expressions = refl
items_length (expressions e es) = ap suc (items_length es)

values_length : (es : PlainArguments) → length (labels_of es) ≡ length (values_of es)
values_length no_arguments = refl
values_length (arguments label e es) = ap suc (values_length es)

pub in_order_length : (es : PlainExpressions) (params : List Typed) (types : List Meaning)
    → in_order (count_of es) params ≡ Some types → length types ≡ length (items_of es)
in_order_length es params types h =
    ordered (length params == count_of es) (count_of es) params types refl h ∙ items_length es

pub by_labels_length : (es : PlainArguments) (params : List Typed) (types : List Meaning)
    → by_labels (labels_of es) params ≡ Some types → length types ≡ length (values_of es)
by_labels_length es params types h =
    where_named (each_is_named_once (labels_of es) params) (labelled_types (labels_of es) params)
    (length (labels_of es)) types (λ ts is. labelled_length (labels_of es) params ts is) h
    ∙ values_length es

pub suc_is : (m n : ℕ) → suc m ≡ suc n → m ≡ n
suc_is m n h = cc

pub none_left : (n : ℕ) → suc n ≡ 0 → ⊥
none_left n h = cc

-- ---- the arguments as they are to be noted

module _ (scope : Scope) where
  abbrev pub ops_of : List PlainExpression → List Operand
  ops_of [] = []
  ops_of (p ∷ ps) = record { bare = is_bare p; noter = note_expression scope p } ∷ ops_of ps

  pub operands_are : (es : PlainExpressions) → operands scope es ≡ ops_of (items_of es)
  operands_are no_expressions = refl
  operands_are (expressions e es) =
      ap (λ rest. record { bare = is_bare e; noter = note_expression scope e } ∷ rest) (operands_are es)

  pub labelled_are : (es : PlainArguments) → labelled_operands scope es ≡ ops_of (values_of es)
  labelled_are no_arguments = refl
  labelled_are (arguments label e es) =
      ap (λ rest. record { bare = is_bare e; noter = note_expression scope e } ∷ rest) (labelled_are es)

  -- what stops each argument is told
  abbrev pub EachTells : List PlainExpression → Type 0
  EachTells [] = Unit {0}
  EachTells (p ∷ ps) =
      ((mode : Mode) (f : Fault) → note_expression scope p mode ≡ Err f → FirstFault scope p mode f)
      × EachTells ps

  -- ---- one argument that isn't bare

  never : (y : NotedExpression × Bindings) (f : Fault)
      → ◌≡◌ {A = Noting (NotedExpression × Bindings)} (Ok y) (Err f) → ⊥
  never y f h = cc

  -- what stops it: itself, or that the parameter's type can't become its type
  abbrev pub FailsFirst : PlainExpression → Meaning → Bindings → Fault → Type 0
  FailsFirst p t s f =
      (FirstFault scope p (wanted_under s t) f)
      ⊎ ((x : NotedExpression) × (fixed s t ≡ false) × IsNoting scope p None x
      × (matched t (type_of x) s ≡ None) × (f ≡ why (different (substituted s t) (type_of x))))

  pub wants_it : (b : Bool) (t : Meaning) (s : Bindings) → fixed s t ≡ b
      → wanted_under s t ≡ (if b then Some (substituted s t) else None)
  wants_it b t s h = ap (λ c. if c then Some (substituted s t) else None) h

  pub taken_failed : (b : Bool) (p : PlainExpression) (t : Meaning) (s : Bindings) (f : Fault) → fixed s t ≡ b
      → ((mode : Mode) (f : Fault) → note_expression scope p mode ≡ Err f → FirstFault scope p mode f)
      → taken b (note_expression scope p) t s ≡ Err f → FailsFirst p t s f
  taken_failed true p t s f is tells h =
      by (bind_failed (note_expression scope p (Some (substituted s t))) (beside s) f h)
    where
      by : (note_expression scope p (Some (substituted s t)) ≡ Err f)
          ⊎ ((x : NotedExpression) × (note_expression scope p (Some (substituted s t)) ≡ Ok x)
          × (beside s x ≡ Err f)) → FailsFirst p t s f
      by (inl failed) =
          inl (subst (λ m. FirstFault scope p m f) (sym (wants_it true t s is))
          (tells (Some (substituted s t)) f failed))
      by (inr z) = absurd (never (z.0, s) f z.2)

      never : (y : NotedExpression × Bindings) (f : Fault)
          → ◌≡◌ {A = Noting (NotedExpression × Bindings)} (Ok y) (Err f) → ⊥
      never y f h = cc
  taken_failed false p t s f is tells h =
      by (bind_failed (note_expression scope p None) (λ x. taken_as t (type_of x) s x) f h)
    where
      of_type : (x : NotedExpression) → note_expression scope p None ≡ Ok x
          → (known_or (different (substituted s t) (type_of x)) (matched t (type_of x) s) ≡ Err f)
          ⊎ ((r : Bindings)
          × (known_or (different (substituted s t) (type_of x)) (matched t (type_of x) s) ≡ Ok r)
          × (◌≡◌ {A = Noting (NotedExpression × Bindings)} (Ok (x, r)) (Err f))) → FailsFirst p t s f
      of_type x noted (inl failed) =
          let k = known_failed (different (substituted s t) (type_of x)) (matched t (type_of x) s) f failed in
          inr (x, is, sound scope p None x noted, k.0, k.1)
      of_type x noted (inr z) = absurd (never (x, z.0) f z.2)

      by : (note_expression scope p None ≡ Err f)
          ⊎ ((x : NotedExpression) × (note_expression scope p None ≡ Ok x)
          × (taken_as t (type_of x) s x ≡ Err f)) → FailsFirst p t s f
      by (inl failed) =
          inl (subst (λ m. FirstFault scope p m f) (sym (wants_it false t s is)) (tells None f failed))
      by (inr z) =
          of_type z.0 z.1
          (bind_failed (known_or (different (substituted s t) (type_of z.0)) (matched t (type_of z.0) s))
          (λ r. Ok (z.0, r)) f z.2)

  -- what takes it
  abbrev IsTaken : (NotedExpression → Bindings → Type 0) → PlainExpression → NotedExpression × Bindings → Type 0
  IsTaken rule p z = AllGood scope z.0 × (erase z.0 ≡ p) × rule z.0 z.1

  pub taken_gave : (b : Bool) (p : PlainExpression) (t : Meaning) (s : Bindings) (z : NotedExpression × Bindings)
      → taken b (note_expression scope p) t s ≡ Ok z → IsTaken (λ a r. Taken b t (note_of a) s r) p z
  taken_gave true p t s z h =
      let a = bind_ok (note_expression scope p (Some (substituted s t))) (beside s) z h in
      let i = sound scope p (Some (substituted s t)) a.0 a.1 in
      subst (IsTaken (λ x r. Taken true t (note_of x) s r) p) (ok_same (a.0, s) z a.2) (i.0, i.2, (i.1, refl))
  taken_gave false p t s z h =
      let a = bind_ok (note_expression scope p None) (λ (x : NotedExpression). taken_as t (type_of x) s x) z h in
      let i = sound scope p None a.0 a.1 in
      let cause = different (substituted s t) (type_of a.0) in
      let m = bind_ok (known_or cause (matched t (type_of a.0) s)) (λ (r : Bindings). Ok (a.0, r)) z a.2 in
      subst (IsTaken (λ x r. Taken false t (note_of x) s r) p) (ok_same (a.0, m.0) z m.2)
      (i.0, i.2, (i.1, known_ok cause (matched t (type_of a.0) s) m.0 m.1))

  pub taken_goes : (b : Bool) (p : PlainExpression) (a : NotedExpression) (t : Meaning) (s q : Bindings)
      → AllGood scope a → erase a ≡ p → Taken b t (note_of a) s q
      → taken b (note_expression scope p) t s ≡ Ok (a, q)
  taken_goes true p a t s q good is h =
      bind_found (beside s) (noting_is_given scope p (Some (substituted s t)) a (good, h.0, is))
      ∙ ap (λ (r : Bindings). Ok (a, r)) (sym h.1)
  taken_goes false p a t s q good is h =
      bind_found (λ (x : NotedExpression). taken_as t (type_of x) s x)
      (noting_is_given scope p None a (good, h.0, is))
      ∙ bind_found (λ (r : Bindings). Ok (a, r)) (known_found (different (substituted s t) (type_of a)) h.1)

  -- ---- a bare argument

  -- what stops it: itself, or that the parameter's type can't become Int32
  abbrev pub FailsSecond : PlainExpression → Meaning → Bindings → Fault → Type 0
  FailsSecond p t s f =
      ((own : Mode) × BareWants s t own × FirstFault scope p own f)
      ⊎ (((fixed s t ≡ false) × (is_parameter t ≡ false) × (f ≡ why (different (substituted s t) int32)))
      ⊎ ((x : NotedExpression) × (fixed s t ≡ false) × (is_parameter t ≡ true) × IsNoting scope p None x
      × (matched t int32 s ≡ None) × (f ≡ why (different (substituted s t) int32))))

  no_parameter_fails : (p : PlainExpression) (t : Meaning) (s : Bindings) (f : Fault) → fixed s t ≡ false
      → is_parameter t ≡ false
      → ◌≡◌ {A = Noting (NotedExpression × Bindings)} (Err (why (different (substituted s t) int32))) (Err f)
      → FailsSecond p t s f
  no_parameter_fails p t s f is other h =
      inr (inl (is, other, sym (same_fault (why (different (substituted s t) int32)) f h)))

  pub taken_bare_failed : (b : Bool) (p : PlainExpression) (t : Meaning) (s : Bindings) (f : Fault)
      → fixed s t ≡ b
      → ((mode : Mode) (f : Fault) → note_expression scope p mode ≡ Err f → FirstFault scope p mode f)
      → taken_bare b (note_expression scope p) t s ≡ Err f → FailsSecond p t s f
  taken_bare_failed true p t s f is tells h =
      by (bind_failed (note_expression scope p (Some (substituted s t))) (beside s) f h)
    where
      by : (note_expression scope p (Some (substituted s t)) ≡ Err f)
          ⊎ ((x : NotedExpression) × (note_expression scope p (Some (substituted s t)) ≡ Ok x)
          × (beside s x ≡ Err f)) → FailsSecond p t s f
      by (inl failed) = inl (Some (substituted s t), its_type s t is, tells (Some (substituted s t)) f failed)
      by (inr z) = absurd (never (z.0, s) f z.2)
  taken_bare_failed false p (parameter name) s f is tells h =
      by (bind_failed (note_expression scope p None) (taken_as (parameter name) int32 s) f h)
    where
      of_type : (x : NotedExpression) → note_expression scope p None ≡ Ok x
          → (known_or (different (substituted s (parameter name)) int32) (matched (parameter name) int32 s)
          ≡ Err f)
          ⊎ ((r : Bindings)
          × (known_or (different (substituted s (parameter name)) int32) (matched (parameter name) int32 s)
          ≡ Ok r)
          × (◌≡◌ {A = Noting (NotedExpression × Bindings)} (Ok (x, r)) (Err f)))
          → FailsSecond p (parameter name) s f
      of_type x noted (inl failed) =
          let k = known_failed (different (substituted s (parameter name)) int32)
          (matched (parameter name) int32 s) f failed in
          inr (inr (x, is, refl, sound scope p None x noted, k.0, k.1))
      of_type x noted (inr z) = absurd (never (x, z.0) f z.2)

      by : (note_expression scope p None ≡ Err f)
          ⊎ ((x : NotedExpression) × (note_expression scope p None ≡ Ok x)
          × (taken_as (parameter name) int32 s x ≡ Err f)) → FailsSecond p (parameter name) s f
      by (inl failed) = inl (None, nothing s (parameter name) is refl, tells None f failed)
      by (inr z) =
          of_type z.0 z.1
          (bind_failed (known_or (different (substituted s (parameter name)) int32)
          (matched (parameter name) int32 s)) (λ r. Ok (z.0, r)) f z.2)
  taken_bare_failed false p unit s f is tells h = no_parameter_fails p unit s f is refl h
  taken_bare_failed false p truth s f is tells h = no_parameter_fails p truth s f is refl h
  taken_bare_failed false p (integer kind) s f is tells h =
      no_parameter_fails p (integer kind) s f is refl h
  taken_bare_failed false p text s f is tells h = no_parameter_fails p text s f is refl h
  taken_bare_failed false p (named at args) s f is tells h =
      no_parameter_fails p (named at args) s f is refl h
  taken_bare_failed false p (reads t region) s f is tells h =
      no_parameter_fails p (reads t region) s f is refl h
  taken_bare_failed false p (writes t region) s f is tells h =
      no_parameter_fails p (writes t region) s f is refl h

  pub taken_bare_gave : (b : Bool) (p : PlainExpression) (t : Meaning) (s : Bindings)
      (z : NotedExpression × Bindings) → taken_bare b (note_expression scope p) t s ≡ Ok z
      → IsTaken (λ a r. TakenBare b t (note_of a) s r) p z
  taken_bare_gave true p t s z h =
      let a = bind_ok (note_expression scope p (Some (substituted s t))) (beside s) z h in
      let i = sound scope p (Some (substituted s t)) a.0 a.1 in
      subst (IsTaken (λ x r. TakenBare true t (note_of x) s r) p) (ok_same (a.0, s) z a.2)
      (i.0, i.2, (i.1, refl))
  taken_bare_gave false p (parameter name) s z h =
      let t = parameter name in
      let a = bind_ok (note_expression scope p None) (taken_as t int32 s) z h in
      let i = sound scope p None a.0 a.1 in
      let cause = different (substituted s t) int32 in
      let m = bind_ok (known_or cause (matched t int32 s)) (λ (r : Bindings). Ok (a.0, r)) z a.2 in
      subst (IsTaken (λ x r. TakenBare false t (note_of x) s r) p) (ok_same (a.0, m.0) z m.2)
      (i.0, i.2, (i.1, known_ok cause (matched t int32 s) m.0 m.1))
  taken_bare_gave false p t s z h = absurd cc

  pub taken_bare_goes : (b : Bool) (p : PlainExpression) (a : NotedExpression) (t : Meaning) (s q : Bindings)
      → AllGood scope a → erase a ≡ p → TakenBare b t (note_of a) s q
      → taken_bare b (note_expression scope p) t s ≡ Ok (a, q)
  taken_bare_goes true p a t s q good is h =
      bind_found (beside s) (noting_is_given scope p (Some (substituted s t)) a (good, h.0, is))
      ∙ ap (λ (r : Bindings). Ok (a, r)) (sym h.1)
  taken_bare_goes false p a (parameter name) s q good is h =
      bind_found (taken_as (parameter name) int32 s) (noting_is_given scope p None a (good, h.0, is))
      ∙ bind_found (λ (r : Bindings). Ok (a, r)) (known_found (different (substituted s (parameter name)) int32) h.1)
  taken_bare_goes false p a unit s q good is h = absurd h
  taken_bare_goes false p a truth s q good is h = absurd h
  taken_bare_goes false p a (integer kind) s q good is h = absurd h
  taken_bare_goes false p a text s q good is h = absurd h
  taken_bare_goes false p a (named at args) s q good is h = absurd h
  taken_bare_goes false p a (reads t region) s q good is h = absurd h
  taken_bare_goes false p a (writes t region) s q good is h = absurd h
