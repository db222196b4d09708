-- Operations on numbers and on truth values.
use Rattle.std.proofs.Common.{◌≡◌, ℕ, ◌&&◌, Bool, true, false, List, [], ◌∷◌, Option, Some, refl, sym, ap, subst, ◌∙◌}
use Rattle.std.proofs.Common.{if◌then◌else◌, ℤ, T}
use Rattle.std.specs.Prelude.{None, int_le, not}
use Rattle.std.proofs.lemmas.Bool.{eq-eqb}
use Rattle.au_base.specs.declared.kinds.IntKind.{IntKind}
use Rattle.au_ints.specs.declared.operations.IntOp.{IntOp}
use Rattle.au_ints.specs.declared.operations.Order.TheVariants as order
use Rattle.au_ints.specs.Operations.{converted, exact, has_result, trapped, unwrapped, wrapped}
use Rattle.au_ints.specs.Orders.{truth_of}
use Rattle.au_ints.specs.Ranges.{greatest_of, is_of_kind, least_of}
use Rattle.au_ints.proofs.Turns.{wrapped_turned}
use Rattle.au_effects.specs.Answers.{Result, value}
use Rattle.au_effects.specs.Numbers.{at_kind, compared, converted_value}
use Rattle.au_effects.specs.Numbers.{kind_number, negated, number_of, number_or_fault, on_both}
use Rattle.au_effects.specs.Values.{Value, number, optional, truth}
use Rattle.au_effects.specs.Worlds.{World}
use Rattle.au_types.specs.Types as meaning
use Rattle.au_types.specs.Types.{Meaning}
use Rattle.au_memory.specs.Forests.{Holds, Made}
use Rattle.au_memory.specs.Loans.{Types}
use Rattle.au_borrows.specs.Orders.{Act}
use Rattle.au_borrows.specs.Told.{Open}
use Rattle.au_acting.proofs.ValueLemmas as values
use Rattle.au_agreeing.specs.Stores.{memory_of, told_of}
use Rattle.au_sound_calls.specs.Granting.{IsOptionOf}
use Rattle.au_sound_calls.specs.Operating.{ComesWell, Compares, ComparesTruths, Computes, Converts, HasTwo, Negates, Wraps}
use Rattle.au_sound_calls.specs.Sound.{AreTyped, IsSound}
use Rattle.au_sound_calls.proofs.PrintLemmas.{plain_gone}
use Rattle.au_sound_calls.proofs.SoundLemmas.{number_is, sound_plain, told_well, truth_is}

-- ---- numbers of kinds

-- a number of a kind is one of it
number_here : (kind : IntKind) (z : ℤ) → number_of {T = List ℕ} kind (number kind z) ≡ Some z
number_here kind z =
    ap (λ (b : Bool). if b then Some z else None) (eq-eqb (kind_number kind) (kind_number kind) refl)

first_true : (a b : Bool) → (a && b) ≡ true → a ≡ true
first_true true b h = refl
first_true false b h = absurd cc

is_so : (b : Bool) → T b → b ≡ true
is_so true h = refl
is_so false h = absurd h

-- what is of a kind isn't below its least number
kind_least : (kind : IntKind) (z : ℤ) → is_of_kind kind z ≡ true → int_le (least_of kind) z ≡ true
kind_least kind z h = first_true (int_le (least_of kind) z) (int_le z (greatest_of kind)) h

second_true : (a b : Bool) → (a && b) ≡ true → b ≡ true
second_true true b h = h
second_true false b h = absurd cc

trapped_least : (op : IntOp) (kind : IntKind) (x y z : ℤ) → trapped op kind x y ≡ Some z
    → int_le (least_of kind) z ≡ true
unfolding trapped
trapped_least op kind x y z h =
    by (has_result op y && is_of_kind kind (exact op x y)) refl h
  where
    by : (b : Bool) → (has_result op y && is_of_kind kind (exact op x y)) ≡ b
        → (if b then Some (exact op x y) else None) ≡ Some z → int_le (least_of kind) z ≡ true
    by true e is =
        let same : exact op x y ≡ z = cc in
        subst (λ n. int_le (least_of kind) n ≡ true) same
        (kind_least kind (exact op x y) (second_true (has_result op y) (is_of_kind kind (exact op x y)) e))
    by false e is = absurd cc

converted_least : (to : IntKind) (x z : ℤ) → converted to x ≡ Some z → int_le (least_of to) z ≡ true
unfolding converted
converted_least to x z h = by (is_of_kind to x) refl h
  where
    by : (b : Bool) → is_of_kind to x ≡ b → (if b then Some x else None) ≡ Some z → int_le (least_of to) z ≡ true
    by true e is = let same : x ≡ z = cc in subst (λ n. int_le (least_of to) n ≡ true) same (kind_least to x e)
    by false e is = absurd cc

wrapped_least : (kind : IntKind) (z : ℤ) → int_le (least_of kind) (wrapped kind z) ≡ true
wrapped_least kind z = is_so (int_le (least_of kind) (wrapped kind z)) (wrapped_turned kind z).within.at_least.le

-- an operation on two numbers of a kind
both_here : (kind : IntKind) (go : ℤ → ℤ → Result (List ℕ)) (x y : ℤ)
    → on_both go (number_of {T = List ℕ} kind (number kind x)) (number_of {T = List ℕ} kind (number kind y)) ≡ go x y
both_here kind go x y =
    ap (λ o. on_both go o (number_of {T = List ℕ} kind (number kind y))) (number_here kind x)
    ∙ ap (λ o. on_both go (Some x) o) (number_here kind y)

module _ (B : Type 0) (types : Types) (owner : B → Option (List ℕ)) (acts : List Act) (hold : Holds)
    (names : ℕ → ℕ → Meaning) (under : Made) (lying : List Open) (sizes : List ℕ) (w : World (List ℕ) B) where
  -- what an operation comes to
  abbrev Well : Meaning → Result (List ℕ) → Type 0
  Well t result = ComesWell B types owner acts hold names under lying sizes w t result

  abbrev Sound : Type 0
  Sound = IsSound types owner acts hold names under lying sizes w

  -- the two numbers
  two_numbers : AreTyped types → (kind : IntKind) (a b : Value (List ℕ))
      → HasTwo B types owner acts hold names under lying sizes w a b (meaning.integer kind)
      → (x : ℤ) × (y : ℤ) × (a ≡ number kind x) × (b ≡ number kind y) × Sound
  two_numbers typed kind a b sound =
      let second = plain_gone B types owner acts hold names ((a, meaning.integer kind) ∷ under) lying sizes w typed b
      (meaning.integer kind) tt sound in
      let first = plain_gone B types owner acts hold names under lying sizes w typed a (meaning.integer kind) tt second.1 in
      let x = number_is a kind first.0 in
      let y = number_is b kind second.0 in
      (x.0, y.0, x.1, y.1, first.1)

  -- so an operation on them goes well where it does on these numbers
  on_numbers : (t : Meaning) (kind : IntKind) (a b : Value (List ℕ)) (go : ℤ → ℤ → Result (List ℕ)) (x y : ℤ)
      → a ≡ number kind x → b ≡ number kind y → Well t (go x y)
      → Well t (on_both go (number_of kind a) (number_of kind b))
  on_numbers t kind a b go x y first second good =
      subst (λ v. Well t (on_both go (number_of kind v) (number_of kind b))) (sym first)
      (subst (λ v. Well t (on_both go (number_of {T = List ℕ} kind (number kind x)) (number_of kind v))) (sym second)
      (subst (λ r. Well t r) (sym (both_here kind go x y)) good))

  -- a truth value comes
  truth_comes : Sound → (b : Bool) → Well meaning.truth (value (truth b))
  truth_comes sound b = sound_plain B types owner acts hold names under lying sizes w (truth b) meaning.truth tt sound

  pub computes : Computes B types owner acts hold names under lying sizes w
  computes typed op kind a b sound =
      let two = two_numbers typed kind a b sound in
      on_numbers (meaning.integer kind) kind a b (λ x y. number_or_fault kind (trapped op kind x y)) two.0 two.1 two.2
      two.3 (by two.0 two.1 two.4 (trapped op kind two.0 two.1) refl)
    where
      by : (x y : ℤ) → Sound → (r : Option ℤ) → trapped op kind x y ≡ r
          → Well (meaning.integer kind) (number_or_fault kind r)
      by x y here None is = told_well B types owner acts hold names under lying sizes w here
      by x y here (Some z) is =
          sound_plain B types owner acts hold names under lying sizes w (number kind z) (meaning.integer kind)
          (refl, trapped_least op kind x y z is) here

  pub wraps : Wraps B types owner acts hold names under lying sizes w
  wraps typed op kind a b sound =
      let two = two_numbers typed kind a b sound in
      let z = wrapped kind (exact (unwrapped op) two.0 two.1) in
      on_numbers (meaning.integer kind) kind a b
      (λ x y. value (number kind (wrapped kind (exact (unwrapped op) x y)))) two.0 two.1 two.2 two.3
      (sound_plain B types owner acts hold names under lying sizes w (number kind z) (meaning.integer kind)
      (refl, wrapped_least kind (exact (unwrapped op) two.0 two.1)) two.4)

  pub compares : Compares B types owner acts hold names under lying sizes w
  compares typed how kind a b sound =
      let two = two_numbers typed kind a b sound in
      on_numbers meaning.truth kind a b (λ x y. value (truth (truth_of how x y))) two.0 two.1 two.2 two.3
      (truth_comes two.4 (truth_of how two.0 two.1))

  -- ---- truth values

  pub compares_truths : ComparesTruths B types owner acts hold names under lying sizes w
  compares_truths typed a b sound =
      let second = plain_gone B types owner acts hold names ((a, meaning.truth) ∷ under) lying sizes w typed b meaning.truth tt
      sound in
      let first = plain_gone B types owner acts hold names under lying sizes w typed a meaning.truth tt second.1 in
      let x = truth_is a first.0 in
      let y = truth_is b second.0 in (
        subst (λ v. Well meaning.truth (compared order.Equal None v b)) (sym x.1)
            (subst (λ v. Well meaning.truth (compared order.Equal None (truth x.0) v)) (sym y.1)
            (truth_comes first.1 (if x.0 then y.0 else not y.0))),
        subst (λ v. Well meaning.truth (compared order.NotEqual None v b)) (sym x.1)
            (subst (λ v. Well meaning.truth (compared order.NotEqual None (truth x.0) v)) (sym y.1)
            (truth_comes first.1 (if x.0 then not y.0 else y.0))),
      )

  pub negates : Negates B types owner acts hold names under lying sizes w
  negates typed a sound =
      let gone = plain_gone B types owner acts hold names under lying sizes w typed a meaning.truth tt sound in
      let x = truth_is a gone.0 in
      subst (λ v. Well meaning.truth (negated v)) (sym x.1) (truth_comes gone.1 (not x.0))

  -- ---- conversions

  -- the Option that a number at another kind is
  option_comes : (to : IntKind) (option : Meaning) → IsOptionOf types option (meaning.integer to) → (x : ℤ) → Sound
      → (r : Option ℤ) → converted to x ≡ r → Well option (value (optional (at_kind to r)))
  option_comes to option is x sound None e = record {
    keeps = sound.keeps;
    sized = sound.sized;
    safe = values.makes_free B types owner acts hold names under (memory_of w) (told_of lying w) [] option 0 is.none_is
        is.free sound.safe;
  }
  option_comes to option is x sound (Some z) e =
      let one = sound_plain B types owner acts hold names under lying sizes w (number to z) (meaning.integer to)
      (refl, converted_least to x z e) sound in
      record {
        keeps = sound.keeps;
        sized = sound.sized;
        safe = values.makes_free B types owner acts hold names under (memory_of w) (told_of lying w)
            ((number to z, meaning.integer to) ∷ []) option 1 is.some_is is.free one.safe;
      }

  pub converts : Converts B types owner acts hold names under lying sizes w
  converts typed kind to option a is sound =
      let gone = plain_gone B types owner acts hold names under lying sizes w typed a (meaning.integer kind) tt sound in
      let x = number_is a kind gone.0 in
      subst (λ v. Well option (converted_value to v)) (sym x.1)
      (option_comes to option is x.0 gone.1 (converted to x.0) refl)
