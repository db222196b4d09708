-- Keys tell closed types.
use Rattle.std.proofs.Common.{◌≡◌, ℕ, List, [], ◌∷◌, ◌++◌, refl, sym, ap, ◌∙◌, append_assoc}
use Rattle.au_base.specs.declared.kinds.IntKind.{IntKind}
use Rattle.au_base.specs.declared.kinds.IntKind.TheVariants.{Nat8, Nat16, Nat32, Nat64, Int8, Int16, Int32}
use Rattle.au_base.specs.declared.kinds.IntKind.TheVariants.{Int64, Index}
use Rattle.au_types.specs.declared.types.DeclAt.{DeclAt}
use Rattle.au_type_texts.specs.Types.{ClosedType, ClosedTypes, unit, truth, integer, text, named, reads}
use Rattle.au_type_texts.specs.Types.{writes, no_types, types}
use Rattle.au_type_texts.specs.Keys.{kind_key, key_of, list_key}

kind_one : (a b : IntKind) → kind_key a ≡ kind_key b → a ≡ b
kind_one Nat8 Nat8 is = refl
kind_one Nat16 Nat16 is = refl
kind_one Nat32 Nat32 is = refl
kind_one Nat64 Nat64 is = refl
kind_one Int8 Int8 is = refl
kind_one Int16 Int16 is = refl
kind_one Int32 Int32 is = refl
kind_one Int64 Int64 is = refl
kind_one Index Index is = refl
kind_one a b is = absurd cc

pub place_one : (a b : DeclAt) → a.«module» ≡ b.«module» → a.decl ≡ b.decl → a ≡ b
place_one a b these those = λ i. record { «module» = these i; decl = those i }

-- no closed type begins with what ends a list of them
ends : (t : ClosedType) (r s : List ℕ) → key_of t ++ r ≡ 6 ∷ s → ⊥
ends unit r s is = cc
ends truth r s is = cc
ends (integer kind) r s is = cc
ends text r s is = cc
ends (named at args) r s is = cc
ends (reads to) r s is = cc
ends (writes to) r s is = cc

mutual
  pub key_one : (t u : ClosedType) (r s : List ℕ) → key_of t ++ r ≡ key_of u ++ s → (t ≡ u) × (r ≡ s)
  key_one unit unit r s is = (refl, cc)
  key_one truth truth r s is = (refl, cc)
  key_one text text r s is = (refl, cc)
  key_one (integer a) (integer b) r s is = let same : kind_key a ≡ kind_key b = cc
      in (ap integer (kind_one a b same), cc)
  key_one (reads t) (reads u) r s is = let both = key_one t u r s cc in (ap reads both.0, both.1)
  key_one (writes t) (writes u) r s is = let both = key_one t u r s cc in (ap writes both.0, both.1)
  key_one (named a args) (named b others) r s is =
      let these : a.«module» ≡ b.«module» = cc in
      let those : a.decl ≡ b.decl = cc in
      let both = list_one args others r s cc in
      (λ i. named (place_one a b these those i) (both.0 i), both.1)
  key_one t u r s is = absurd cc

  pub list_one : (ts us : ClosedTypes) (r s : List ℕ) → list_key ts ++ r ≡ list_key us ++ s → (ts ≡ us) × (r ≡ s)
  list_one no_types no_types r s is = (refl, cc)
  list_one no_types (types u us) r s is =
      absurd (ends u (list_key us ++ s) r (sym (append_assoc (key_of u) (list_key us) s) ∙ sym is))
  list_one (types t ts) no_types r s is =
      absurd (ends t (list_key ts ++ r) s (sym (append_assoc (key_of t) (list_key ts) r) ∙ is))
  list_one (types t ts) (types u us) r s is =
      let first = key_one t u (list_key ts ++ r) (list_key us ++ s)
      (sym (append_assoc (key_of t) (list_key ts) r) ∙ is ∙ append_assoc (key_of u) (list_key us) s) in
      let rest = list_one ts us r s first.1 in
      (λ i. types (first.0 i) (rest.0 i), rest.1)
