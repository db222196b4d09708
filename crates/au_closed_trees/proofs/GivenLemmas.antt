-- What is given for type parameters that aren't regions, one after another.
use Rattle.std.proofs.Common.{◌≡◌, ℕ, ◌+◌, ◌<◌, ◌≤◌, true, false, List, [], ◌∷◌, ◌++◌, drop, length, get_or}
use Rattle.std.proofs.Common.{map, refl, sym, ap, ◌∙◌, append_assoc}
use Rattle.std.specs.Prelude.{if◌then◌else◌}
use Rattle.std.proofs.lemmas.List.{append-nil, drop_all}
use Rattle.au_base.proofs.ListLemmas.{next_item}
use Rattle.au_syntax.specs.Plain.{Bytes}
use Rattle.au_types.specs.declared.parameters.Parameter.{Parameter}
use Rattle.au_type_texts.specs.declared.types.Closed.{Closed}
use Rattle.au_type_texts.specs.Types.{ClosedType}
use Rattle.au_type_texts.specs.Views.{closed_meaning, closed_meanings}
use Rattle.au_type_texts.specs.Given.{Given}
use Rattle.au_closed_trees.specs.TypeNames.{given_over, is_region, listed, type_names}

-- the closed types of a list as a list
pub listed_meanings : (xs : List Closed) → map closed_meaning xs ≡ listed (closed_meanings xs)
listed_meanings [] = refl
listed_meanings (x ∷ xs) = ap (λ l. closed_meaning x ∷ l) (listed_meanings xs)

-- a region, and what isn't one, before others
module _ (p : Parameter) (params : List Parameter) (args : List ClosedType) where
  pub over_region : is_region p.universe ≡ true
      → given_over (type_names (p ∷ params)) args ≡ given_over (type_names params) args
  over_region is = ap (λ b. given_over (if b then type_names params else p.name ∷ type_names params) args) is

  pub over_type : is_region p.universe ≡ false
      → given_over (type_names (p ∷ params)) args ≡ given_over (p.name ∷ type_names params) args
  over_type is = ap (λ b. given_over (if b then type_names params else p.name ∷ type_names params) args) is

-- nothing is given where no argument is left
no_arguments_left : (names : List Bytes) → given_over names [] ≡ []
no_arguments_left [] = refl
no_arguments_left (name ∷ names) = refl

-- ---- along type parameters and arguments

module _ (made whole : Given) (params : List Parameter) (args : List Closed) (i k : ℕ) where
  -- what is given for the type parameters from a place on, with the arguments from another
  abbrev rest : ℕ → ℕ → Given
  rest j m = given_over (type_names (drop j params)) (map closed_meaning (drop m args))

  module _ (p : Parameter) (so_far : made ++ rest i k ≡ whole) (inside : i < length params)
      (is : p ≡ get_or params i p) where
    -- a region is passed over
    pub region_passed : is_region p.universe ≡ true → made ++ rest (i + 1) k ≡ whole
    region_passed region =
        ap (λ l. made ++ l)
        (sym
        (ap (λ l. given_over (type_names l) (map closed_meaning (drop k args)))
        (next_item params i p is inside)
        ∙ over_region p (drop (i + 1) params) (map closed_meaning (drop k args)) region))
        ∙ so_far

    -- a type is given for what isn't a region
    pub type_given : (t : Closed) (pushed : Given) → is_region p.universe ≡ false → k < length args
        → t ≡ get_or args k t → pushed ≡ made ++ (p.name, closed_meaning t) ∷ []
        → pushed ++ rest (i + 1) (k + 1) ≡ whole
    type_given t pushed no_region within at grows =
        let one : Bytes × ClosedType = (p.name, closed_meaning t) in
        let step : rest i k ≡ one ∷ rest (i + 1) (k + 1) =
        ap (λ l. given_over (type_names l) (map closed_meaning (drop k args)))
        (next_item params i p is inside)
        ∙ over_type p (drop (i + 1) params) (map closed_meaning (drop k args)) no_region
        ∙ ap (λ l. given_over (p.name ∷ type_names (drop (i + 1) params)) (map closed_meaning l))
        (next_item args k t at within) in
        ap (λ l. l ++ rest (i + 1) (k + 1)) grows
        ∙ append_assoc made (one ∷ []) (rest (i + 1) (k + 1))
        ∙ ap (λ l. made ++ l) (sym step)
        ∙ so_far

  -- no argument is left
  pub arguments_end : made ++ rest i k ≡ whole → length args ≤ k → made ≡ whole
  arguments_end so_far past =
      sym
      (ap (λ l. made ++ l)
      (ap (λ l. given_over (type_names (drop i params)) (map closed_meaning l)) (drop_all k args past)
      ∙ no_arguments_left (type_names (drop i params)))
      ∙ append-nil made)
      ∙ so_far
