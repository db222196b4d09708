-- Lemmas on tables by name.
use Rattle.std.proofs.Common.{◌≡◌, ℕ, Bool, true, false, cond, List, [], ◌∷◌, ◌++◌, Option, None, Some, refl}
use Rattle.std.proofs.Common.{sym, ap, ◌∙◌, true≢false, length, suc, is_some, IfSome}
use Rattle.std.specs.Option.{option_to_list}
use Rattle.std.specs.Map.{lookup, KeepsOthers}
use Rattle.std.specs.Str.{bytes_eq}
use Rattle.au_base.proofs.TextLemmas.{bytes_self, bytes_same}
use Rattle.au_clearing.specs.Tables.{pairs_by, find, Changes}

other_name : (x name key : List ℕ) → bytes_eq name x ≡ false → bytes_eq name key ≡ true → bytes_eq x key ≡ false
other_name x name key apart is = by (bytes_eq x key) refl
  where
    by : (r : Bool) → bytes_eq x key ≡ r → bytes_eq x key ≡ false
    by true e =
        let same : name ≡ x = bytes_same name key is ∙ sym (bytes_same x key e) in
        absurd (true≢false (sym (bytes_self x) ∙ ap (λ n. bytes_eq n x) (sym same) ∙ apart))
    by false e = e

module _ {K V : Type 0} (name_of : K → List ℕ) where
  -- a name is found among the pairs as among the keys
  pub find_pairs : (name : List ℕ) (es : List (K × V)) →
      find name (pairs_by es name_of) ≡ lookup (λ k. bytes_eq name (name_of k)) es
  find_pairs name [] = refl
  find_pairs name (e ∷ es) = ap (λ r. cond (bytes_eq name (name_of e.0)) (Some e.1) r) (find_pairs name es)

  pub length_pairs : (es : List (K × V)) → length (pairs_by es name_of) ≡ length es
  length_pairs [] = refl
  length_pairs (e ∷ es) = ap (λ n. suc n) (length_pairs es)

  -- a change at one name
  pub changed : (old new : List (K × V)) (name : List ℕ) (value : Option V) →
      lookup (λ k. bytes_eq name (name_of k)) new ≡ value →
      KeepsOthers (λ a b. bytes_eq (name_of a) (name_of b)) (λ k. bytes_eq name (name_of k)) old new →
      Changes (pairs_by old name_of) (pairs_by new name_of) name value
  unfolding KeepsOthers
  changed old new name value here others x =
      find_pairs x new ∙ by (bytes_eq name x) refl
    where
      by : (b : Bool) → bytes_eq name x ≡ b →
          lookup (λ k. bytes_eq x (name_of k)) new ≡ cond (bytes_eq name x) value (find x (pairs_by old name_of))
      by true e =
          ap (λ n. lookup (λ k. bytes_eq n (name_of k)) new) (sym (bytes_same name x e)) ∙ here
          ∙ sym (ap (λ b. cond b value (find x (pairs_by old name_of))) e)
      by false e =
          others (λ k. bytes_eq x (name_of k))
          (λ a b h. ap (λ n. bytes_eq n (name_of b)) (bytes_same x (name_of a) h))
          (λ k h. other_name x name (name_of k) e h)
          ∙ sym (find_pairs x old)
          ∙ sym (ap (λ b. cond b value (find x (pairs_by old name_of))) e)

  -- what is found under the key of the last entry, where no other has it
  lookup_last : (test : K → Bool) (es : List (K × V)) (k : K) (v : V) → lookup test es ≡ None → test k ≡ true →
      lookup test (es ++ (k, v) ∷ []) ≡ Some v
  lookup_last test [] k v h t = ap (λ b. cond b (Some v) None) t
  lookup_last test (e ∷ es) k v h t = by (test e.0) refl (λ fresh. lookup_last test es k v fresh t)
    where
      none_here : {A : Type 0} (a : A) → Some a ≡ None → ⊥
      none_here a n = true≢false (ap is_some n)

      by : (b : Bool) → test e.0 ≡ b →
          (lookup test es ≡ None → lookup test (es ++ (k, v) ∷ []) ≡ Some v) →
          lookup test ((e ∷ es) ++ (k, v) ∷ []) ≡ Some v
      by true q more = absurd (none_here e.1 (sym (ap (λ b. cond b (Some e.1) (lookup test es)) q) ∙ h))
      by false q more =
          ap (λ b. cond b (Some e.1) (lookup test (es ++ (k, v) ∷ []))) q
          ∙ more (sym (ap (λ b. cond b (Some e.1) (lookup test es)) q) ∙ h)

  -- what is taken from the end was found under its name
  pub popped_found : (old new : List (K × V)) (o : Option (K × V)) → old ≡ new ++ option_to_list o →
      IfSome o (λ p. lookup (λ k. bytes_eq (name_of p.0) (name_of k)) new ≡ None) →
      IfSome o (λ p. find (name_of p.0) (pairs_by old name_of) ≡ Some p.1)
  popped_found old new None e h = tt
  popped_found old new (Some p) e h =
      find_pairs (name_of p.0) old
      ∙ ap (lookup (λ k. bytes_eq (name_of p.0) (name_of k))) e
      ∙ lookup_last (λ k. bytes_eq (name_of p.0) (name_of k)) new p.0 p.1 h (bytes_self (name_of p.0))
