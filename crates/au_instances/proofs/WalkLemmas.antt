-- Walks through two lists at once, and through arguments for the types among them.
use Rattle.std.proofs.Common.{◌≡◌, ℕ, suc, ◌+◌, ◌-◌, ◌<◌, ◌≤◌, ◌&&◌, Bool, true, false, List, [], ◌∷◌, ◌++◌}
use Rattle.std.proofs.Common.{length, drop, get_or, Option, None, Some, refl, sym, ap, subst, ◌∙◌, arith}
use Prim.Native.Nat.{zero}
use Rattle.std.specs.Prelude.{slice_get}
use Rattle.std.proofs.lemmas.List.{drop_more, drop_all}
use Rattle.std.proofs.lemmas.Option.{slice_get-get_or}
use Rattle.au_base.proofs.ListLemmas.{drop_at}
use Rattle.au_types.specs.declared.types.Arg.{Arg}
use Rattle.au_types.specs.declared.types.Region.{Region}
use Rattle.au_types.specs.Types.{Meaning, of_type, in_region}
use Rattle.au_types.specs.Views.{argument, argument_all}
use Rattle.au_instances.specs.ClosedInstances.{type_in, types_in}
use Rattle.au_instances.proofs.StandingLemmas.{arguments_left}

pub item_left : {X : Type 0} (xs items : List X) (i : ℕ) (x : X) → items ≡ xs → i < length items →
    x ≡ get_or items i x → drop i xs ≡ x ∷ drop (i + 1) xs
item_left xs items i x same inside is =
    drop_more xs i x (subst (λ ys. i < length ys) same inside)
    ∙ ap (λ y. y ∷ drop (i + 1) xs) (sym (is ∙ ap (λ ys. get_or ys i x) same))

-- ---- two lists

module _ {A B : Type 0} (F : List A → List B → Bool) (G : A → B → Bool)
    (both : (a : A) (xs : List A) (b : B) (ys : List B) → F (a ∷ xs) (b ∷ ys) ≡ (G a b && F xs ys)) where
  -- the first of both lists that are left, and the others
  pub zip_step : (xs : List A) (ys items : List B) (i : ℕ) (a : A) (b : B) →
      F xs ys ≡ F (drop i xs) (drop i ys) → slice_get xs i ≡ Some a → items ≡ ys → i < length items →
      b ≡ get_or items i b
      → F xs ys ≡ (G a b && F (drop (i + 1) xs) (drop (i + 1) ys))
  zip_step xs ys items i a b rest here same inside is =
      rest
      ∙ ap (λ zs. F zs (drop i ys)) (drop_at xs i a here)
      ∙ ap (F (a ∷ drop (i + 1) xs)) (item_left ys items i b same inside is)
      ∙ both a (drop (i + 1) xs) b (drop (i + 1) ys)

  -- none are left
  pub zip_end : F [] [] ≡ true → (xs : List A) (ys items : List B) (i : ℕ) → length xs ≡ length ys →
      F xs ys ≡ F (drop i xs) (drop i ys) → items ≡ ys → length items ≤ i → true ≡ F xs ys
  zip_end none xs ys items i lengths rest same past =
      let done : length ys ≤ i = subst (λ zs. length zs ≤ i) same past in
      let done_too : length xs ≤ i = subst (λ n. n ≤ i) (sym lengths) done in
      sym (rest ∙ ap (λ zs. F zs (drop i ys)) (drop_all i xs done_too) ∙ ap (F []) (drop_all i ys done) ∙ none)

  -- lists of two lengths
  pub zip_unequal : ((b : B) (ys : List B) → F [] (b ∷ ys) ≡ false) →
      ((a : A) (xs : List A) → F (a ∷ xs) [] ≡ false) → (xs : List A) (ys : List B) →
      (length xs ≡ length ys → ⊥) → F xs ys ≡ false
  zip_unequal more less [] [] other = absurd (other refl)
  zip_unequal more less [] (b ∷ ys) other = more b ys
  zip_unequal more less (a ∷ xs) [] other = less a xs
  zip_unequal more less (a ∷ xs) (b ∷ ys) other = both a xs b ys
      ∙ only (G a b) (zip_unequal more less xs ys (λ e. other (ap suc e)))
    where
      only : (x : Bool) → F xs ys ≡ false → (x && F xs ys) ≡ false
      only true e = e
      only false e = refl

-- an index within a list finds something there
pub found_within : {X : Type 0} (xs : List X) (i : ℕ) → i < length xs → slice_get xs i ≡ None → ⊥
found_within {X} [] i inside none = absurd (omega arith)
found_within {X} (x ∷ xs) i inside none =
    let both : ◌≡◌ {A = Option X} (Some (get_or (x ∷ xs) i x)) None =
    sym (slice_get-get_or (x ∷ xs) i x inside) ∙ none in
    absurd cc

-- ---- the types among arguments

types_left : (xs : List Arg) (i : ℕ) (x : Arg) → i < length xs → x ≡ get_or xs i x →
    types_in (argument_all (drop i xs)) ≡ type_in (argument x) ++ types_in (argument_all (drop (i + 1) xs))
types_left xs i x inside is =
    ap types_in (arguments_left xs i x inside)
    ∙ ap (λ y. type_in (argument y) ++ types_in (argument_all (drop (i + 1) xs))) (sym is)

-- where the first argument that is left is a region, and where it is a type
pub region_left : (xs : List Arg) (i : ℕ) (x : Arg) (region : Region) → i < length xs → x ≡ get_or xs i x →
    argument x ≡ in_region region → types_in (argument_all (drop i xs))
    ≡ types_in (argument_all (drop (i + 1) xs))
region_left xs i x region inside is what = types_left xs i x inside is
    ∙ ap (λ one. type_in one ++ types_in (argument_all (drop (i + 1) xs))) what

pub type_left : (xs : List Arg) (i : ℕ) (x : Arg) (t : Meaning) → i < length xs → x ≡ get_or xs i x →
    argument x ≡ of_type t → types_in (argument_all (drop i xs)) ≡ t ∷ types_in (argument_all (drop (i + 1) xs))
type_left xs i x t inside is what = types_left xs i x inside is
    ∙ ap (λ one. type_in one ++ types_in (argument_all (drop (i + 1) xs))) what

-- what stands behind the first of a list
pub later_nth : {X : Type 0} (x : X) (xs : List X) (n : ℕ) → (n ≡ 0 → ⊥) → slice_get (x ∷ xs) n ≡ slice_get xs (n - 1)
later_nth x xs zero other = absurd (other refl)
later_nth x xs (suc n) other = let less : n ≡ suc n - 1 = omega arith in ap (slice_get xs) less
