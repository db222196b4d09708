-- Loops over what is given: the first type of which something is told, and keys one behind another.
use Rattle.std.proofs.Common.{◌≡◌, ℕ, ◌+◌, ◌<◌, ◌≤◌, List, ◌∷◌, ◌++◌, append_assoc, drop, get_or, length, sym, ap, ◌∙◌}
use Rattle.std.specs.Prelude.{Option, None, Some}
use Rattle.std.specs.Option.{option_or}
use Rattle.std.proofs.lemmas.List.{append-nil, drop_all, drop_more}
use Rattle.au_base.specs.declared.limits.Limit.{Limit}
use Rattle.au_type_texts.specs.Types.{ClosedType}
use Rattle.au_type_texts.specs.Views.{closed_meaning}
use Rattle.au_type_texts.specs.declared.given_types.GivenType.{GivenType}
use Rattle.au_type_texts.specs.GivenViews.{given_said, pair_said}
use Rattle.au_closing.specs.Keys.{given_key, pair_key}
use Rattle.au_closing.specs.Told.{first_told}

-- what is left from a place on
left : {B : Type 0} (say : List GivenType → B) (given : List GivenType) (i : ℕ) (x : GivenType)
    → i < length given → x ≡ get_or given i x → say (drop i given) ≡ say (x ∷ drop (i + 1) given)
left say given i x inside here =
    ap say (drop_more given i x inside) ∙ ap (λ y. say (y ∷ drop (i + 1) given)) (sym here)

-- ---- the first type of which something is told

module _ (told : ClosedType → Option Limit) (given : List GivenType) (i : ℕ)
    (so_far : first_told told (given_said (drop i given)) ≡ first_told told (given_said given)) where
  module _ (x : GivenType) (inside : i < length given) (here : x ≡ get_or given i x) where
    pub told_here : (limit : Limit) → Some limit ≡ told (closed_meaning x.of)
        → Some limit ≡ first_told told (given_said given)
    told_here limit is =
        sym (sym so_far
        ∙ left (λ xs. first_told told (given_said xs)) given i x inside here
        ∙ ap (λ o. option_or o (first_told told (given_said (drop (i + 1) given)))) (sym is))

    pub told_later : None ≡ told (closed_meaning x.of)
        → first_told told (given_said (drop (i + 1) given)) ≡ first_told told (given_said given)
    told_later is =
        sym (left (λ xs. first_told told (given_said xs)) given i x inside here
        ∙ ap (λ o. option_or o (first_told told (given_said (drop (i + 1) given)))) (sym is))
        ∙ so_far

  pub told_nowhere : length given ≤ i → None ≡ first_told told (given_said given)
  told_nowhere past = sym (ap (λ xs. first_told told (given_said xs)) (drop_all i given past)) ∙ so_far

-- ---- keys one behind another

module _ (made whole : List ℕ) (given : List GivenType) (i : ℕ)
    (so_far : made ++ given_key (given_said (drop i given)) ≡ whole) where
  pub key_next : (x : GivenType) (pushed : List ℕ) → i < length given → x ≡ get_or given i x
      → pushed ≡ made ++ pair_key (pair_said x)
      → pushed ++ given_key (given_said (drop (i + 1) given)) ≡ whole
  key_next x pushed inside here grows =
      let rest = given_key (given_said (drop (i + 1) given)) in
      ap (λ l. l ++ rest) grows
      ∙ append_assoc made (pair_key (pair_said x)) rest
      ∙ ap (λ l. made ++ l) (sym (left (λ xs. given_key (given_said xs)) given i x inside here))
      ∙ so_far

  pub key_ends : length given ≤ i → made ≡ whole
  key_ends past =
      sym (ap (λ xs. made ++ given_key (given_said xs)) (drop_all i given past) ∙ append-nil made) ∙ so_far
