-- Bindings as pairs, step by step, and the place of a name among them.
use Rattle.std.proofs.Common.{◌≡◌, ℕ, ◌+◌, ◌<◌, Bool, true, false, cond, List, [], ◌∷◌, ◌++◌, length, take}
use Rattle.std.proofs.Common.{drop, get_or, refl, sym, ap, ◌∙◌}
use Rattle.std.specs.Prelude.{Some, None}
use Rattle.std.specs.declared.cmp.Ordering.{Ordering}
use Rattle.std.specs.declared.cmp.Ordering.TheVariants.{Less, Equal, Greater}
use Rattle.std.specs.Cmp.Lexicographic.{slice_cmp}
use Rattle.std.specs.FinMap.Entries.{by_order}
use Rattle.std.specs.List.{insert}
use Rattle.std.specs.Ordering.{is_lt, is_eq, nat_cmp}
use Rattle.std.specs.Str.{bytes_eq}
use Rattle.std.proofs.lemmas.List.{append_assoc, map-append, map_more, take-map, drop-map, drop_more}
use Rattle.std.proofs.lemmas.Map.Text.{is_eq-slice_cmp}
use Rattle.au_types.specs.Types.{Argument}
use Rattle.au_matching.specs.Bindings.{Bindings, value_of, with_pair}
use Rattle.au_matching.specs.Listed.{pair_of, pairs}
use Rattle.au_matching.specs.declared.substitutions.Binding.{Binding}

pub pairs_more : (xs : List Binding) (i : ℕ) (d : Binding) → i < length xs → pairs (take (i + 1) xs)
    ≡ pairs (take i xs) ++ pair_of (get_or xs i d) ∷ []
pairs_more xs i d h = map_more pair_of xs i d h

pub pairs_insert : (xs : List Binding) (i : ℕ) (x : Binding) → pairs (insert xs i x) ≡ insert (pairs xs) i (pair_of x)
pairs_insert xs i x =
    map-append pair_of (take i xs) (x ∷ drop i xs)
    ∙ (λ j. sym (take-map pair_of i xs) j ++ pair_of x ∷ sym (drop-map pair_of i xs) j)

-- ---- the place of a name that isn't listed

module _ (name : List ℕ) (p : List ℕ × Argument) (ps : Bindings) where
  still_absent : value_of name (p ∷ ps) ≡ None → value_of name ps ≡ None
  still_absent = by (bytes_eq name p.0)
    where
      by : (b : Bool) → cond b (Some p.1) (value_of name ps) ≡ None → value_of name ps ≡ None
      by true e = absurd cc
      by false e = e

  -- it goes behind a name that it isn't before
  passed : is_lt (slice_cmp nat_cmp name p.0) ≡ false → value_of name (p ∷ ps) ≡ None → (value : Argument) →
      with_pair name value (p ∷ ps) ≡ p ∷ with_pair name value ps
  passed later absent value = by (slice_cmp nat_cmp name p.0) refl
    where
      by : (o : Ordering) → slice_cmp nat_cmp name p.0 ≡ o →
          by_order o ((name, value) ∷ p ∷ ps) ((p.0, value) ∷ ps) (p ∷ with_pair name value ps)
          ≡ p ∷ with_pair name value ps
      by Less e =
          let both : true ≡ false = sym (ap is_lt e) ∙ later in
          absurd cc
      by Equal e =
          let here : bytes_eq name p.0 ≡ true = sym (is_eq-slice_cmp name p.0) ∙ ap is_eq e in
          let both : Some p.1 ≡ None = sym (ap (λ b. cond b (Some p.1) (value_of name ps)) here) ∙ absent in
          absurd cc
      by Greater e = refl

  -- and before a name that it is before
  put_before : is_lt (slice_cmp nat_cmp name p.0) ≡ true → (value : Argument) → with_pair name value (p ∷ ps)
      ≡ (name, value) ∷ p ∷ ps
  put_before earlier value = by (slice_cmp nat_cmp name p.0) refl
    where
      by : (o : Ordering) → slice_cmp nat_cmp name p.0 ≡ o →
          by_order o ((name, value) ∷ p ∷ ps) ((p.0, value) ∷ ps) (p ∷ with_pair name value ps)
          ≡ (name, value) ∷ p ∷ ps
      by Less e = refl
      by Equal e =
          let both : false ≡ true = sym (ap is_lt e) ∙ earlier in
          absurd cc
      by Greater e =
          let both : false ≡ true = sym (ap is_lt e) ∙ earlier in
          absurd cc

-- a name's place is not among the first i bindings, and it isn't listed among the others
pub record Behind (name : List ℕ) (xs : List Binding) (i : ℕ) : Type 0 where
  pub absent : value_of name (pairs (drop i xs)) ≡ None
  pub rest : (value : Argument) → with_pair name value (pairs xs) ≡ pairs (take i xs)
      ++ with_pair name value (pairs (drop i xs))

module _ (name : List ℕ) (xs : List Binding) (i : ℕ) (x : Binding) (h : i < length xs) (here : x ≡ get_or xs i x) where
  left : drop i xs ≡ x ∷ drop (i + 1) xs
  left = drop_more xs i x h ∙ ap (λ y. y ∷ drop (i + 1) xs) (sym here)

  seen : pairs (take (i + 1) xs) ≡ pairs (take i xs) ++ pair_of x ∷ []
  seen = pairs_more xs i x h ∙ ap (λ y. pairs (take i xs) ++ pair_of y ∷ []) (sym here)

  pub behind_more : is_lt (slice_cmp nat_cmp name x.name) ≡ false → Behind name xs i → Behind name xs (i + 1)
  behind_more later b =
      let absent : value_of name (pairs (x ∷ drop (i + 1) xs)) ≡ None =
      ap (λ ys. value_of name (pairs ys)) (sym left) ∙ b.absent in
      record {
        absent = still_absent name (pair_of x) (pairs (drop (i + 1) xs)) absent;
        rest = λ value.
            b.rest value
            ∙ ap (λ ys. pairs (take i xs) ++ with_pair name value (pairs ys)) left
            ∙ ap (λ ps. pairs (take i xs) ++ ps) (passed name (pair_of x) (pairs (drop (i + 1) xs)) later absent value)
            ∙ sym (append_assoc (pairs (take i xs)) (pair_of x ∷ []) (with_pair name value (pairs (drop (i + 1) xs))))
            ∙ ap (λ ps. ps ++ with_pair name value (pairs (drop (i + 1) xs))) (sym seen);
      }

  pub behind_here : is_lt (slice_cmp nat_cmp name x.name) ≡ true → Behind name xs i → (value : Argument) →
      with_pair name value (pairs xs) ≡ insert (pairs xs) i (name, value)
  behind_here earlier b value =
      b.rest value
      ∙ ap (λ ys. pairs (take i xs) ++ with_pair name value (pairs ys)) left
      ∙ ap (λ ps. pairs (take i xs) ++ ps) (put_before name (pair_of x) (pairs (drop (i + 1) xs)) earlier value)
      ∙ ap (λ ys. pairs (take i xs) ++ (name, value) ∷ pairs ys) (sym left)
      ∙ (λ j. sym (take-map pair_of i xs) j ++ (name, value) ∷ sym (drop-map pair_of i xs) j)
