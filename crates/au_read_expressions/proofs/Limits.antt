-- Trees within the limits, and trees that pass one: what holds of a tree's parts holds of the tree.
use Rattle.std.proofs.Common.{ℕ, suc, ◌+◌, ◌≤◌, max, List, [], ◌∷◌, ◌++◌, arith, inl, inr, ◌⊎◌}
use Rattle.au_base.specs.declared.limits.Limit.{Limit}
use Rattle.au_syntax.specs.Types.{WrittenType}
use Rattle.au_syntax.specs.Sizes.{type_depth, type_nodes}
use Rattle.au_read_expressions.specs.Bounds.{Bounds, TypePasses, SomeTypePasses, TreePasses}

-- a type is within the limits
abbrev pub TypeFits : Bounds → WrittenType → Type 0
TypeFits b t = (type_depth t ≤ b.depth) × (type_nodes t ≤ b.nodes)

-- some types are
abbrev pub TypesFit : Bounds → List WrittenType → Type 0
TypesFit b [] = Unit {0}
TypesFit b (t ∷ ts) = TypeFits b t × TypesFit b ts

-- a tree of this depth with these types in it is, where so many levels are left
abbrev pub TreeFits : Bounds → ℕ → ℕ → List WrittenType → Type 0
TreeFits b left depth ts = (depth ≤ left) × TypesFit b ts

module _ (b : Bounds) where
  pub both_fit : (ts us : List WrittenType) → TypesFit b ts → TypesFit b us → TypesFit b (ts ++ us)
  both_fit [] us h k = k
  both_fit (t ∷ ts) us h k = (h.0, both_fit ts us h.1 k)

  pub first_passes : (ts us : List WrittenType) (l : Limit) → SomeTypePasses b ts l → SomeTypePasses b (ts ++ us) l
  first_passes [] us l p = absurd p
  first_passes (t ∷ ts) us l p = elim p [ inl q ↦ inl q | inr q ↦ inr (first_passes ts us l q) ]

  pub second_passes : (ts us : List WrittenType) (l : Limit) → SomeTypePasses b us l → SomeTypePasses b (ts ++ us) l
  second_passes [] us l p = p
  second_passes (t ∷ ts) us l p = inr (second_passes ts us l p)

  -- a tree of one part
  pub one_fits : (n d : ℕ) (ts : List WrittenType) → TreeFits b n d ts → TreeFits b (suc n) (1 + d) ts
  one_fits n d ts h = (omega (arith, h.0), h.1)

  pub one_passes : (n d : ℕ) (ts : List WrittenType) (l : Limit) → TreePasses b n d ts l →
      TreePasses b (suc n) (1 + d) ts l
  one_passes n d ts l p = elim p [ inl q ↦ inl (omega (arith, q.0), q.1) | inr q ↦ inr q ]

  -- two parts that stand side by side
  pub beside_fit : (n d e : ℕ) (ts us : List WrittenType) → TreeFits b n d ts → TreeFits b n e us →
      TreeFits b n (max d e) (ts ++ us)
  beside_fit n d e ts us h k = (omega (arith, h.0, k.0), both_fit ts us h.1 k.1)

  pub beside_passes : (n d e : ℕ) (ts us : List WrittenType) (l : Limit) → TreePasses b n d ts l
      ⊎ TreePasses b n e us l → TreePasses b n (max d e) (ts ++ us) l
  beside_passes n d e ts us l p =
      elim p [
        | inl q ↦ elim q [ inl r ↦ inl (omega (arith, r.0), r.1) | inr r ↦ inr (first_passes ts us l r) ]
        | inr q ↦ elim q [ inl r ↦ inl (omega (arith, r.0), r.1) | inr r ↦ inr (second_passes ts us l r) ]
      ]

  -- a tree of two parts
  pub two_fit : (n d e : ℕ) (ts us : List WrittenType) → TreeFits b n d ts → TreeFits b n e us →
      TreeFits b (suc n) (1 + max d e) (ts ++ us)
  two_fit n d e ts us h k = one_fits n (max d e) (ts ++ us) (beside_fit n d e ts us h k)

  pub two_pass : (n d e : ℕ) (ts us : List WrittenType) (l : Limit) → TreePasses b n d ts l
      ⊎ TreePasses b n e us l → TreePasses b (suc n) (1 + max d e) (ts ++ us) l
  two_pass n d e ts us l p = one_passes n (max d e) (ts ++ us) l (beside_passes n d e ts us l p)

  -- types that stand before the parts
  pub types_fit_before : (n d : ℕ) (ts us : List WrittenType) → TypesFit b ts → TreeFits b n d us →
      TreeFits b n d (ts ++ us)
  types_fit_before n d ts us h k = (k.0, both_fit ts us h k.1)

  pub types_pass_before : (n d : ℕ) (ts us : List WrittenType) (l : Limit) → SomeTypePasses b ts l
      ⊎ TreePasses b n d us l → TreePasses b n d (ts ++ us) l
  types_pass_before n d ts us l p =
      elim p [
        | inl q ↦ inr (first_passes ts us l q)
        | inr q ↦ elim q [ inl r ↦ inl r | inr r ↦ inr (second_passes ts us l r) ]
      ]

  -- one type that stands behind the parts
  pub type_fits_behind : (n d : ℕ) (ts : List WrittenType) (t : WrittenType) → TreeFits b n d ts →
      TypeFits b t → TreeFits b n d (ts ++ t ∷ [])
  type_fits_behind n d ts t h k = (h.0, both_fit ts (t ∷ []) h.1 (k, tt))

  pub type_passes_behind : (n d : ℕ) (ts : List WrittenType) (t : WrittenType) (l : Limit) →
      TreePasses b n d ts l ⊎ TypePasses b t l → TreePasses b n d (ts ++ t ∷ []) l
  type_passes_behind n d ts t l p =
      elim p [
        | inl q ↦ elim q [ inl r ↦ inl r | inr r ↦ inr (first_passes ts (t ∷ []) l r) ]
        | inr q ↦ inr (second_passes ts (t ∷ []) l (inl q))
      ]
