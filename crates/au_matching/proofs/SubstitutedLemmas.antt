-- What substituting leaves as it is.
use Rattle.std.proofs.Common.{◌≡◌, ℕ, ◌+◌, ◌<◌, List, [], ◌∷◌, ◌++◌, length, take, get_or, refl, sym, ap, ◌∙◌}
use Rattle.std.specs.Prelude.{Option, Some}
use Rattle.au_types.specs.declared.types.Region.{Region}
use Rattle.au_types.specs.declared.types.Region.TheVariants.{Static, Named, Anonymous}
use Rattle.au_types.specs.Types.{Meaning, Argument, Arguments, unit, truth, integer, text, parameter, named}
use Rattle.au_types.specs.Types.{reads, writes, of_type, in_region, no_arguments, arguments}
use Rattle.std.proofs.lemmas.List.{take_more}
use Rattle.au_types.specs.declared.types.Arg.{Arg}
use Rattle.au_types.specs.Views.{argument, argument_all}
use Rattle.au_matching.specs.Bindings.{Bindings, value_of, Extends, GivesType, GivesRegion}
use Rattle.au_matching.specs.Substituted.{type_for, region_for, region_substituted, substituted}
use Rattle.au_matching.specs.Substituted.{argument_substituted, all_substituted, OfRegion, EachName}
use Rattle.au_matching.specs.Substituted.{EachNameOf, EachNameOfAll, Fixes, SaysNothingOf, Suits}

-- ---- what holds of each name holds in other words too

module _ (P P' R R' : List ℕ → Type 0) (types : (name : List ℕ) → P name → P' name)
    (regions : (name : List ℕ) → R name → R' name) where
  region_so : (region : Region) → OfRegion R region → OfRegion R' region
  region_so Static h = tt
  region_so (Named name) h = regions name h
  region_so Anonymous h = tt

  mutual
    pub each_so : (t : Meaning) → EachName P R t → EachName P' R' t
    each_so unit h = tt
    each_so truth h = tt
    each_so (integer kind) h = tt
    each_so text h = tt
    each_so (parameter name) h = types name h
    each_so (named of args) h = each_of_all_so args h
    each_so (reads to region) h = (each_so to h.0, region_so region h.1)
    each_so (writes to region) h = (each_so to h.0, region_so region h.1)

    pub each_of_so : (one : Argument) → EachNameOf P R one → EachNameOf P' R' one
    each_of_so (of_type t) h = each_so t h
    each_of_so (in_region region) h = region_so region h

    pub each_of_all_so : (args : Arguments) → EachNameOfAll P R args → EachNameOfAll P' R' args
    each_of_all_so no_arguments h = tt
    each_of_all_so (arguments one rest) h = (each_of_so one h.0, each_of_all_so rest h.1)

-- ---- two lists that say the same of each name in a type do the same to it

module _ (s r : Bindings) where
  abbrev pub SameType : List ℕ → Type 0
  SameType name = type_for (value_of name s) name ≡ type_for (value_of name r) name

  abbrev pub SameRegion : List ℕ → Type 0
  SameRegion name = region_for (value_of name s) name ≡ region_for (value_of name r) name

  pub region_agrees : (region : Region) → OfRegion SameRegion region → region_substituted s region
      ≡ region_substituted r region
  region_agrees Static h = refl
  region_agrees (Named name) h = h
  region_agrees Anonymous h = refl

  mutual
    pub agrees : (t : Meaning) → EachName SameType SameRegion t → substituted s t ≡ substituted r t
    agrees unit h = refl
    agrees truth h = refl
    agrees (integer kind) h = refl
    agrees text h = refl
    agrees (parameter name) h = h
    agrees (named of args) h = ap (named of) (all_agree args h)
    agrees (reads to region) h = λ i. reads (agrees to h.0 i) (region_agrees region h.1 i)
    agrees (writes to region) h = λ i. writes (agrees to h.0 i) (region_agrees region h.1 i)

    pub argument_agrees : (one : Argument) → EachNameOf SameType SameRegion one → argument_substituted s one
        ≡ argument_substituted r one
    argument_agrees (of_type t) h = ap of_type (agrees t h)
    argument_agrees (in_region region) h = ap in_region (region_agrees region h)

    pub all_agree : (args : Arguments) → EachNameOfAll SameType SameRegion args → all_substituted s args
        ≡ all_substituted r args
    all_agree no_arguments h = refl
    all_agree (arguments one rest) h = λ i. arguments (argument_agrees one h.0 i) (all_agree rest h.1 i)

-- ---- the list that says nothing, and lists that say nothing of a type's names

region_stays : (region : Region) → region_substituted [] region ≡ region
region_stays Static = refl
region_stays (Named name) = refl
region_stays Anonymous = refl

mutual
  pub stays : (t : Meaning) → substituted [] t ≡ t
  stays unit = refl
  stays truth = refl
  stays (integer kind) = refl
  stays text = refl
  stays (parameter name) = refl
  stays (named of args) = ap (named of) (all_stay args)
  stays (reads to region) = λ i. reads (stays to i) (region_stays region i)
  stays (writes to region) = λ i. writes (stays to i) (region_stays region i)

  argument_stays : (one : Argument) → argument_substituted [] one ≡ one
  argument_stays (of_type t) = ap of_type (stays t)
  argument_stays (in_region region) = ap in_region (region_stays region)

  all_stay : (args : Arguments) → all_substituted [] args ≡ args
  all_stay no_arguments = refl
  all_stay (arguments one rest) = λ i. arguments (argument_stays one i) (all_stay rest i)

pub untouched : (s : Bindings) (t : Meaning) → SaysNothingOf s t → substituted s t ≡ t
untouched s t h =
    agrees s [] t (each_so _ _ _ _ (λ name e. ap (λ o. type_for o name) e)
    (λ name e. ap (λ o. region_for o name) e) t h) ∙ stays t

-- ---- what is fixed stays as it is in each list that goes on

module _ (s r : Bindings) (goes_on : Extends s r) where
  type_kept : (name : List ℕ) → GivesType s name → GivesType r name
  type_kept name h = (h.0, goes_on name (of_type h.0) h.1)

  region_kept : (name : List ℕ) → GivesRegion s name → GivesRegion r name
  region_kept name h = (h.0, goes_on name (in_region h.0) h.1)

  type_same : (name : List ℕ) → GivesType s name → SameType s r name
  type_same name h = ap (λ o. type_for o name) (h.1 ∙ sym (goes_on name (of_type h.0) h.1))

  region_same : (name : List ℕ) → GivesRegion s name → SameRegion s r name
  region_same name h = ap (λ o. region_for o name) (h.1 ∙ sym (goes_on name (in_region h.0) h.1))

  pub fixes_on : (t : Meaning) → Fixes s t → Fixes r t
  fixes_on t h = each_so _ _ _ _ type_kept region_kept t h

  pub fixed_stays : (t : Meaning) → Fixes s t → substituted s t ≡ substituted r t
  fixed_stays t h = agrees s r t (each_so _ _ _ _ type_same region_same t h)

  pub fixes_on_of : (one : Argument) → EachNameOf (GivesType s) (GivesRegion s) one →
      EachNameOf (GivesType r) (GivesRegion r) one
  fixes_on_of one h = each_of_so _ _ _ _ type_kept region_kept one h

  pub fixed_stays_of : (one : Argument) → EachNameOf (GivesType s) (GivesRegion s) one →
      argument_substituted s one ≡ argument_substituted r one
  fixed_stays_of one h = argument_agrees s r one (each_of_so _ _ _ _ type_same region_same one h)

-- ---- what fixes all names of a type suits it

module _ (s : Bindings) where
  no_region : (name : List ℕ) → GivesType s name → ¬ (GivesRegion s name)
  no_region name h g =
      let both : ◌≡◌ {A = Option Argument} (Some (of_type h.0)) (Some (in_region g.0)) = sym h.1 ∙ g.1 in
      absurd cc

  no_type : (name : List ℕ) → GivesRegion s name → ¬ (GivesType s name)
  no_type name h g =
      let both : ◌≡◌ {A = Option Argument} (Some (in_region h.0)) (Some (of_type g.0)) = sym h.1 ∙ g.1 in
      absurd cc

  pub fixes_suits : (t : Meaning) → Fixes s t → Suits s t
  fixes_suits t h = each_so _ _ _ _ no_region no_type t h

-- ---- one argument more

module _ (s : Bindings) (x y : Arg) (one : argument y ≡ argument_substituted s (argument x)) where
  pub all_substituted_push : (xs ys : List Arg) → argument_all ys ≡ all_substituted s (argument_all xs) →
      argument_all (ys ++ y ∷ []) ≡ all_substituted s (argument_all (xs ++ x ∷ []))
  all_substituted_push [] [] e = ap (λ a. arguments a no_arguments) one
  all_substituted_push [] (b ∷ ys) e = absurd cc
  all_substituted_push (a ∷ xs) [] e = absurd cc
  all_substituted_push (a ∷ xs) (b ∷ ys) e =
      let first : argument b ≡ argument_substituted s (argument a) = cc in
      let rest : argument_all ys ≡ all_substituted s (argument_all xs) = cc in
      λ i. arguments (first i) (all_substituted_push xs ys rest i)

-- what the first arguments have become, with one more
pub all_substituted_more : (s : Bindings) (xs ys : List Arg) (i : ℕ) (x y : Arg) → i < length xs →
    x ≡ get_or xs i x → argument y ≡ argument_substituted s (argument x) →
    argument_all ys ≡ all_substituted s (argument_all (take i xs)) → argument_all (ys ++ y ∷ [])
    ≡ all_substituted s (argument_all (take (i + 1) xs))
all_substituted_more s xs ys i x y h here one before =
    all_substituted_push s x y one (take i xs) ys before
    ∙ ap (λ zs. all_substituted s (argument_all zs)) (ap (λ z. take i xs ++ z ∷ []) here ∙ sym (take_more xs i x h))
