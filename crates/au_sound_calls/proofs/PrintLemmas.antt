-- What is written, aborts, and how long a text is.
use Rattle.std.proofs.Common.{ℕ, List, [], ◌∷◌, Option, refl, sym, subst, length, pos}
use Rattle.std.specs.Prelude.{None}
use Rattle.au_base.specs.declared.kinds.IntKind.TheVariants.{Index}
use Rattle.au_shipped.specs.declared.prims.ShippedCall.{ShippedCall}
use Rattle.au_shipped.specs.declared.prims.ShippedCall.TheVariants as prim
use Rattle.au_effects.specs.Calls.{shipped}
use Rattle.au_effects.specs.Values.{Value, number, unit}
use Rattle.au_effects.specs.Worlds.{World}
use Rattle.au_types.specs.Types as meaning
use Rattle.au_types.specs.Types.{Meaning}
use Rattle.au_memory.specs.Forests.{Holds, Made}
use Rattle.au_memory.specs.Loans.{Types}
use Rattle.au_memory.specs.Shown.{IsPlain}
use Rattle.au_borrows.specs.Orders.{Act}
use Rattle.au_borrows.specs.Told.{Open}
use Rattle.au_acting.specs.Turning.{IsBasic}
use Rattle.au_acting.proofs.TurnLemmas.{drops_plains}
use Rattle.au_agreeing.specs.Stores.{memory_of, told_of}
use Rattle.au_sound_calls.specs.Printing.{Aborts, PrintsNumbers, PrintsTexts, PrintsTruths, SpansHaveLengths}
use Rattle.au_sound_calls.specs.Sound.{AreTyped, GoesWell, IsSound}
use Rattle.au_sound_calls.proofs.NumberLemmas.{index_least}
use Rattle.au_sound_calls.proofs.SoundLemmas.{number_is, sound_plain, text_is, told_well, truth_is}

module _ (B : Type 0) (types : Types) (owner : B → Option (List ℕ)) (acts : List Act) (hold : Holds)
    (names : ℕ → ℕ → Meaning) (under : Made) (lying : List Open) (sizes : List ℕ) (w : World (List ℕ) B) where
  -- the newest value, which holds nothing, is gone
  pub plain_gone : AreTyped types → (v : Value (List ℕ)) (t : Meaning) → IsBasic t
      → IsSound types owner acts hold names ((v, t) ∷ under) lying sizes w
      → IsPlain v t × IsSound types owner acts hold names under lying sizes w
  plain_gone typed v t basic sound =
      let done = drops_plains B types owner acts hold names under (memory_of w) (told_of lying w) typed.forms v t basic
      sound.safe in
      (done.0, record { keeps = sound.keeps; sized = sound.sized; safe = done.1 })

  -- a unit comes in its place
  unit_for : AreTyped types → (v : Value (List ℕ)) (t : Meaning) → IsBasic t
      → IsSound types owner acts hold names ((v, t) ∷ under) lying sizes w
      → IsPlain v t × IsSound types owner acts hold names ((unit, meaning.unit) ∷ under) lying sizes w
  unit_for typed v t basic sound =
      let gone = plain_gone typed v t basic sound in
      (gone.0, sound_plain B types owner acts hold names under lying sizes w unit meaning.unit tt gone.1)

  -- the call of a value of this type
  abbrev Goes : ShippedCall → Meaning → Value (List ℕ) → Type 0
  Goes call t v = GoesWell types owner acts hold names t under lying sizes (shipped (λ t. t) call None w (v ∷ []))

  pub prints_texts : PrintsTexts B types owner acts hold names under lying sizes w
  unfolding shipped
  prints_texts typed v = (
    λ sound.
        let done = unit_for typed v meaning.text tt sound in
        let is = text_is v done.0 in
        subst (λ x. Goes prim.PrintText meaning.unit x) (sym is.1) done.1,
    λ sound.
        let done = unit_for typed v meaning.text tt sound in
        let is = text_is v done.0 in
        subst (λ x. Goes prim.PrintLnText meaning.unit x) (sym is.1) done.1,
  )

  pub prints_truths : PrintsTruths B types owner acts hold names under lying sizes w
  unfolding shipped
  prints_truths typed v = (
    λ sound.
        let done = unit_for typed v meaning.truth tt sound in
        let is = truth_is v done.0 in
        subst (λ x. Goes prim.PrintBool meaning.unit x) (sym is.1) done.1,
    λ sound.
        let done = unit_for typed v meaning.truth tt sound in
        let is = truth_is v done.0 in
        subst (λ x. Goes prim.PrintLnBool meaning.unit x) (sym is.1) done.1,
  )

  pub prints_numbers : PrintsNumbers B types owner acts hold names under lying sizes w
  unfolding shipped
  prints_numbers typed v kind = (
    λ sound.
        let done = unit_for typed v (meaning.integer kind) tt sound in
        let is = number_is v kind done.0 in
        subst (λ x. Goes prim.PrintInt meaning.unit x) (sym is.1) done.1,
    λ sound.
        let done = unit_for typed v (meaning.integer kind) tt sound in
        let is = number_is v kind done.0 in
        subst (λ x. Goes prim.PrintLnInt meaning.unit x) (sym is.1) done.1,
  )

  pub aborts : Aborts B types owner acts hold names under lying sizes w
  unfolding shipped
  aborts typed v t sound =
      let gone = plain_gone typed v meaning.text tt sound in
      let is = text_is v gone.0 in
      subst (λ x. Goes prim.Abort t x) (sym is.1)
      (told_well B types owner acts hold names under lying sizes w gone.1)

  pub spans_have_lengths : SpansHaveLengths B types owner acts hold names under lying sizes w
  unfolding shipped
  spans_have_lengths typed v sound =
      let gone = plain_gone typed v meaning.text tt sound in
      let is = text_is v gone.0 in
      subst (λ x. Goes prim.SpanLength (meaning.integer Index) x) (sym is.1)
      (sound_plain B types owner acts hold names under lying sizes w (number Index (pos (length is.0)))
      (meaning.integer Index) (refl, index_least (length is.0)) gone.1)
