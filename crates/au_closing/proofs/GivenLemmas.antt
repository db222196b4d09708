-- What a row and what a call give, one type parameter after another.
use Rattle.std.proofs.Common.{◌≡◌, ℕ, ◌+◌, ◌<◌, ◌≤◌, true, false, List, [], ◌∷◌, ◌++◌, append_assoc, drop}
use Rattle.std.proofs.Common.{get_or, length, map, refl, sym, ap, ◌∙◌}
use Rattle.std.specs.Prelude.{Option, None, Some, if◌then◌else◌}
use Rattle.std.proofs.lemmas.List.{append-nil, drop_all, drop_more}
use Rattle.au_syntax.specs.Plain.{Bytes}
use Rattle.au_types.specs.declared.parameters.Parameter.{Parameter}
use Rattle.au_types.specs.declared.types.Arg.{Arg, Of, In}
use Rattle.au_types.specs.declared.types.Region.{Region}
use Rattle.au_types.specs.declared.types.Ty.{Ty}
use Rattle.au_types.specs.Types.{Meaning, arguments}
use Rattle.au_types.specs.Views.{argument, argument_all, meaning}
use Rattle.au_types.proofs.TypeLemmas.{region_argument_means, type_argument_means}
use Rattle.au_matching.specs.Bindings.{Bindings}
use Rattle.au_type_texts.specs.declared.types.Closed.{Closed}
use Rattle.au_type_texts.specs.Types.{ClosedType}
use Rattle.au_type_texts.specs.Views.{closed_meaning}
use Rattle.au_instances.specs.ClosedInstances.{type_in, types_in}
use Rattle.au_instances.specs.Forms.{type_name}
use Rattle.au_type_texts.specs.Given.{Given, given_by}
use Rattle.au_closed_trees.specs.TypeNames.{is_region, type_names}
use Rattle.au_closing.specs.Instances.{pair_before, paired, picked}

-- a pair alone, before others
pub pair_alone : (name : Option Bytes) (t : ClosedType) (rest : Given)
    → pair_before name t [] ++ rest ≡ pair_before name t rest
pair_alone None t rest = refl
pair_alone (Some name) t rest = refl

-- ---- pairs of types and closed types

paired_none : (ts : List Meaning) → paired ts [] ≡ []
paired_none [] = refl
paired_none (t ∷ ts) = refl

module _ (args : List Arg) (i : ℕ) where
  -- the types among the arguments that are left
  abbrev types_left : List Meaning
  types_left = types_in (argument_all (drop i args))

  abbrev types_after : List Meaning
  types_after = types_in (argument_all (drop (i + 1) args))

  module _ (x : Arg) (inside : i < length args) (here : x ≡ get_or args i x) where
    one_left : types_left ≡ types_in (arguments (argument x) (argument_all (drop (i + 1) args)))
    one_left =
        ap (λ l. types_in (argument_all l)) (drop_more args i x inside)
        ∙ ap (λ y. types_in (argument_all (y ∷ drop (i + 1) args))) (sym here)

    type_left : (of : Ty) → x ≡ Of of → types_left ≡ meaning of ∷ types_after
    type_left of is =
        one_left
        ∙ ap (λ y. type_in (argument y) ++ types_after) is
        ∙ ap (λ a. type_in a ++ types_after) (type_argument_means of)

    region_left : (region : Region) → x ≡ In region → types_left ≡ types_after
    region_left region is =
        one_left
        ∙ ap (λ y. type_in (argument y) ++ types_after) is
        ∙ ap (λ a. type_in a ++ types_after) (region_argument_means region)

    module _ (made whole : Given) (list : List Closed) (at : ℕ)
        (so_far : made ++ paired types_left (map closed_meaning (drop at list)) ≡ whole) where
      -- a region is passed over
      pub pairs_pass : (region : Region) → x ≡ In region
          → made ++ paired types_after (map closed_meaning (drop at list)) ≡ whole
      pairs_pass region is =
          ap (λ ts. made ++ paired ts (map closed_meaning (drop at list))) (sym (region_left region is)) ∙ so_far

      -- a type is paired with the closed type in its place
      pub pairs_next : (of : Ty) (to : Closed) (pushed : Given)
          → x ≡ Of of
          → at < length list
          → to ≡ get_or list at to
          → pushed ≡ made ++ pair_before (type_name (meaning of)) (closed_meaning to) []
          → pushed ++ paired types_after (map closed_meaning (drop (at + 1) list)) ≡ whole
      pairs_next of to pushed is less there grows =
          let rest = paired types_after (map closed_meaning (drop (at + 1) list)) in
          ap (λ l. l ++ rest) grows
          ∙ append_assoc made (pair_before (type_name (meaning of)) (closed_meaning to) []) rest
          ∙ ap (λ l. made ++ l) (pair_alone (type_name (meaning of)) (closed_meaning to) rest)
          ∙ ap (λ l. made ++ paired (meaning of ∷ types_after) (map closed_meaning l))
          (sym (drop_more list at to less ∙ ap (λ y. y ∷ drop (at + 1) list) (sym there)))
          ∙ ap (λ ts. made ++ paired ts (map closed_meaning (drop at list))) (sym (type_left of is))
          ∙ so_far

  module _ (made whole : Given) (list : List Closed) (at : ℕ)
      (so_far : made ++ paired types_left (map closed_meaning (drop at list)) ≡ whole) where
    -- no closed type is left, and no argument
    pub pairs_full : length list ≤ at → made ≡ whole
    pairs_full past =
        sym (ap (λ l. made ++ l)
        (ap (λ l. paired types_left (map closed_meaning l)) (drop_all at list past) ∙ paired_none types_left)
        ∙ append-nil made)
        ∙ so_far

    pub pairs_all : length args ≤ i → made ≡ whole
    pairs_all past =
        sym (ap (λ l. made ++ paired (types_in (argument_all l)) (map closed_meaning (drop at list)))
        (drop_all i args past)
        ∙ append-nil made)
        ∙ so_far

-- ---- regions, and what isn't one

module _ (p : Parameter) (params : List Parameter) where
  pub picked_region : (pairs : Given) → is_region p.universe ≡ true
      → picked pairs (type_names (p ∷ params)) ≡ picked pairs (type_names params)
  picked_region pairs is =
      ap (λ b. picked pairs (if b then type_names params else p.name ∷ type_names params)) is

  pub picked_type : (pairs : Given) → is_region p.universe ≡ false
      → picked pairs (type_names (p ∷ params)) ≡ picked pairs (p.name ∷ type_names params)
  picked_type pairs is =
      ap (λ b. picked pairs (if b then type_names params else p.name ∷ type_names params)) is

  pub given_region : (given : Given) (s : Bindings) → is_region p.universe ≡ true
      → given_by given s (type_names (p ∷ params)) ≡ given_by given s (type_names params)
  given_region given s is =
      ap (λ b. given_by given s (if b then type_names params else p.name ∷ type_names params)) is

  pub given_type : (given : Given) (s : Bindings) → is_region p.universe ≡ false
      → given_by given s (type_names (p ∷ params)) ≡ given_by given s (p.name ∷ type_names params)
  given_type given s is =
      ap (λ b. given_by given s (if b then type_names params else p.name ∷ type_names params)) is
