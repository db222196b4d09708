-- The test is true exactly where all names of a type are fixed.
use Rattle.std.proofs.Common.{◌≡◌, ℕ, true, List, refl, ap}
use Rattle.std.specs.Prelude.{Option, Some, None}
use Rattle.std.specs.Bool.{Decides}
use Rattle.std.proofs.lemmas.Bool.{and_parts, and_from}
use Rattle.au_types.specs.declared.types.Region.{Region}
use Rattle.au_types.specs.declared.types.Region.TheVariants.{Static, Named, Anonymous}
use Rattle.au_types.specs.Types.{Meaning, Argument, Arguments, unit, truth, integer, text, parameter, named}
use Rattle.au_types.specs.Types.{reads, writes, of_type, in_region, no_arguments, arguments}
use Rattle.au_matching.specs.Bindings.{Bindings, value_of, GivesType, GivesRegion}
use Rattle.au_matching.specs.Fixed.{is_a_type, is_a_region, region_fixed, fixed, argument_fixed, all_fixed}
use Rattle.au_matching.specs.Substituted.{OfRegion, EachNameOf, EachNameOfAll, Fixes}

module _ (s : Bindings) where
  gives_type : (name : List ℕ) → is_a_type (value_of name s) ≡ true → GivesType s name
  gives_type name = by (value_of name s) refl
    where
      by : (o : Option Argument) → value_of name s ≡ o → is_a_type o ≡ true → GivesType s name
      by None e h = absurd cc
      by (Some (of_type t)) e h = (t, e)
      by (Some (in_region region)) e h = absurd cc

  gives_region : (name : List ℕ) → is_a_region (value_of name s) ≡ true → GivesRegion s name
  gives_region name = by (value_of name s) refl
    where
      by : (o : Option Argument) → value_of name s ≡ o → is_a_region o ≡ true → GivesRegion s name
      by None e h = absurd cc
      by (Some (of_type t)) e h = absurd cc
      by (Some (in_region region)) e h = (region, e)

  region_is_fixed : (region : Region) → region_fixed s region ≡ true → OfRegion (GivesRegion s) region
  region_is_fixed Static h = tt
  region_is_fixed (Named name) h = gives_region name h
  region_is_fixed Anonymous h = tt

  fixed_region : (region : Region) → OfRegion (GivesRegion s) region → region_fixed s region ≡ true
  fixed_region Static h = refl
  fixed_region (Named name) h = ap is_a_region h.1
  fixed_region Anonymous h = refl

  mutual
    is_fixed : (t : Meaning) → fixed s t ≡ true → Fixes s t
    is_fixed unit h = tt
    is_fixed truth h = tt
    is_fixed (integer kind) h = tt
    is_fixed text h = tt
    is_fixed (parameter name) h = gives_type name h
    is_fixed (named of args) h = all_are_fixed args h
    is_fixed (reads to region) h =
        let both = and_parts (fixed s to) (region_fixed s region) h in
        (is_fixed to both.0, region_is_fixed region both.1)
    is_fixed (writes to region) h =
        let both = and_parts (fixed s to) (region_fixed s region) h in
        (is_fixed to both.0, region_is_fixed region both.1)

    argument_is_fixed : (one : Argument) → argument_fixed s one ≡ true → EachNameOf (GivesType s) (GivesRegion s) one
    argument_is_fixed (of_type t) h = is_fixed t h
    argument_is_fixed (in_region region) h = region_is_fixed region h

    all_are_fixed : (args : Arguments) → all_fixed s args ≡ true → EachNameOfAll (GivesType s) (GivesRegion s) args
    all_are_fixed no_arguments h = tt
    all_are_fixed (arguments one rest) h =
        let both = and_parts (argument_fixed s one) (all_fixed s rest) h in
        (argument_is_fixed one both.0, all_are_fixed rest both.1)

  mutual
    fixed_type : (t : Meaning) → Fixes s t → fixed s t ≡ true
    fixed_type unit h = refl
    fixed_type truth h = refl
    fixed_type (integer kind) h = refl
    fixed_type text h = refl
    fixed_type (parameter name) h = ap is_a_type h.1
    fixed_type (named of args) h = fixed_all args h
    fixed_type (reads to region) h = and_from _ _ (fixed_type to h.0) (fixed_region region h.1)
    fixed_type (writes to region) h = and_from _ _ (fixed_type to h.0) (fixed_region region h.1)

    fixed_argument : (one : Argument) → EachNameOf (GivesType s) (GivesRegion s) one → argument_fixed s one ≡ true
    fixed_argument (of_type t) h = fixed_type t h
    fixed_argument (in_region region) h = fixed_region region h

    fixed_all : (args : Arguments) → EachNameOfAll (GivesType s) (GivesRegion s) args → all_fixed s args ≡ true
    fixed_all no_arguments h = refl
    fixed_all (arguments one rest) h = and_from _ _ (fixed_argument one h.0) (fixed_all rest h.1)

  pub fixed_decides : (t : Meaning) → Decides (fixed s t) (Fixes s t)
  fixed_decides t = (is_fixed t, fixed_type t)
