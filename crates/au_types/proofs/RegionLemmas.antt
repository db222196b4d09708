-- The regions in scope: the test of what is known, and what entering and leaving make of it.
use Rattle.std.proofs.Common.{◌≡◌, ℕ, ◌-◌, List, [], ◌∷◌, ◌++◌, ◌⊎◌, inl, inr, length, take, refl, sym, ap}
use Rattle.std.proofs.Common.{subst, ◌∙◌, arith, length-append}
use Rattle.std.specs.Prelude.{Contains, Decides, codes}
use Rattle.std.specs.List.{list_any}
use Rattle.std.specs.Str.{bytes_eq}
use Rattle.std.proofs.lemmas.Bool.Decides.{Decides-or, Decides-by_or}
use Rattle.std.proofs.lemmas.List.Elements.{Decides-contains, Contains-append_left, Contains-push, Contains-push_cases}
use Rattle.std.proofs.lemmas.Slice.Eq.{bytes_eq-Decides}
use Rattle.std.proofs.Math.Seq.{take-append_seam}
use Rattle.au_types.specs.Regions.{Knows, entered, knows, left}

name_decides : (name one : List ℕ) → Decides (bytes_eq name one) (one ≡ name)
name_decides name one =
    let decides = bytes_eq-Decides name one in
    (λ h. sym (decides.0 h), λ e. decides.1 (sym e))

among_decides : (scope : List (List ℕ)) (name : List ℕ) → Decides (list_any (bytes_eq name) scope) (Contains scope name)
among_decides scope name =
    Decides-contains scope name (list_any (bytes_eq name) scope)
    (Decides-by_or (bytes_eq name) (λ one. one ≡ name) (list_any (bytes_eq name)) (name_decides name) refl
    (λ x xs. refl) scope)

-- the test decides whether a name is known
pub knows_decides : (scope : List (List ℕ)) (name : List ℕ) → Decides (knows scope name) (Knows scope name)
knows_decides scope name = Decides-or (bytes_eq name (codes "Static")) (list_any (bytes_eq name) scope)
    (bytes_eq-Decides name (codes "Static")) (among_decides scope name)

-- to leave undoes to enter
pub left_entered : (scope : List (List ℕ)) (name : List ℕ) → left (entered scope name) ≡ scope
left_entered scope name =
    let shorter : length (scope ++ name ∷ []) - 1 ≡ length scope = omega (arith, length-append scope (name ∷ [])) in
    ap (λ n. take n (scope ++ name ∷ [])) shorter ∙ take-append_seam scope (name ∷ [])

pub known_first : (name : List ℕ) → Knows [] name → name ≡ codes "Static"
known_first name (inl e) = e
known_first name (inr c) = absurd (omega (arith, c.1))

pub known_before : (scope : List (List ℕ)) (name other : List ℕ) → Knows (entered scope name) other →
    Knows scope other ⊎ (name ≡ other)
known_before scope name other (inl e) = inl (inl e)
known_before scope name other (inr c) = by (Contains-push_cases scope name other c)
  where
    by : Contains scope other ⊎ (name ≡ other) → Knows scope other ⊎ (name ≡ other)
    by (inl old) = inl (inr old)
    by (inr new) = inr new

pub known_after : (scope : List (List ℕ)) (name other : List ℕ) → Knows scope other ⊎ (name ≡ other) →
    Knows (entered scope name) other
known_after scope name other (inl (inl e)) = inl e
known_after scope name other (inl (inr old)) = inr (Contains-append_left scope (name ∷ []) other old)
known_after scope name other (inr new) = inr (subst (Contains (scope ++ name ∷ [])) new (Contains-push scope name))
