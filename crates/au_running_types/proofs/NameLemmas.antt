-- What running types make of names and regions.
use Rattle.std.proofs.Common.{◌≡◌, ℕ, Bool, true, false, cond, List, [], ◌∷◌, refl, sym, ap, ◌∙◌}
use Rattle.std.specs.Prelude.{Some}
use Rattle.std.specs.Option.{option_map}
use Rattle.std.specs.Str.{bytes_eq}
use Rattle.std.proofs.lemmas.Bool.{and_parts}
use Rattle.au_types.specs.declared.types.Region.{Region}
use Rattle.au_types.specs.declared.types.Region.TheVariants.{Static, Named, Anonymous}
use Rattle.au_types.specs.Types.{Meaning, Argument, Arguments, unit, truth, integer, text, parameter, named}
use Rattle.au_types.specs.Types.{reads, writes, of_type, in_region, no_arguments, arguments}
use Rattle.au_matching.specs.Bindings.{Bindings, value_of, with_pair, GivesType, GivesRegion}
use Rattle.au_matching.specs.Substituted.{type_for, region_for, region_substituted, substituted}
use Rattle.au_matching.specs.Substituted.{argument_substituted, all_substituted, OfRegion, EachName}
use Rattle.au_matching.specs.Substituted.{EachNameOf, EachNameOfAll, Fixes}
use Rattle.au_matching.proofs.BindingLemmas.{value_of-with}
use Rattle.au_running_types.specs.Running.{region_running, running, argument_running, all_running, Runs}
use Rattle.au_running_types.specs.Running.{called, is_lasting_region, is_lasting, argument_lasting, are_lasting}

-- ---- bindings of what is called

pub callees_run : (s noted : Bindings) (z : ℕ) → Runs s z noted (called s z noted)
callees_run s [] z name = refl
callees_run s (p ∷ noted) z name = by (bytes_eq name p.0) (callees_run s noted z name)
  where
    by : (b : Bool)
        → value_of name (called s z noted) ≡ option_map (argument_running s z) (value_of name noted)
        → cond b (Some (argument_running s z p.1)) (value_of name (called s z noted))
        ≡ option_map (argument_running s z) (cond b (Some p.1) (value_of name noted))
    by true rest = refl
    by false rest = rest

pub more_run : (s first second : Bindings) (z : ℕ) (name : List ℕ) (value : Argument) → Runs s z first second
    → Runs s z (with_pair name value first) (with_pair name (argument_running s z value) second)
more_run s first second z name value runs other =
    value_of-with other name (argument_running s z value) second
    ∙ by (bytes_eq other name)
    ∙ ap (option_map (argument_running s z)) (sym (value_of-with other name value first))
  where
    by : (b : Bool) → cond b (Some (argument_running s z value)) (value_of other second)
        ≡ option_map (argument_running s z) (cond b (Some value) (value_of other first))
    by true = refl
    by false = runs other

-- ---- calls

module _ (s first second : Bindings) (z y : ℕ) (runs : Runs s z first second) where
  region_called : (region : Region) → is_lasting_region region ≡ true → OfRegion (GivesRegion first) region
      → region_running second y region ≡ region_running s z (region_substituted first region)
  region_called Static lasts fixed = refl
  region_called (Named name) lasts fixed =
      ap (λ o. region_for o name) (runs name ∙ ap (option_map (argument_running s z)) fixed.1)
      ∙ ap (λ o. region_running s z (region_for o name)) (sym fixed.1)
  region_called Anonymous lasts fixed = absurd cc

  parameter_called : (name : List ℕ) → GivesType first name
      → type_for (value_of name second) name ≡ running s z (type_for (value_of name first) name)
  parameter_called name fixed =
      ap (λ o. type_for o name) (runs name ∙ ap (option_map (argument_running s z)) fixed.1)
      ∙ ap (λ o. running s z (type_for o name)) (sym fixed.1)

  mutual
    pub type_called : (t : Meaning) → is_lasting t ≡ true → Fixes first t
        → running second y t ≡ running s z (substituted first t)
    type_called unit lasts fixed = refl
    type_called truth lasts fixed = refl
    type_called (integer kind) lasts fixed = refl
    type_called text lasts fixed = refl
    type_called (parameter name) lasts fixed = parameter_called name fixed
    type_called (named of args) lasts fixed = ap (named of) (all_called args lasts fixed)
    type_called (reads to region) lasts fixed =
        let both = and_parts (is_lasting to) (is_lasting_region region) lasts in
        λ i. reads (type_called to both.0 fixed.0 i) (region_called region both.1 fixed.1 i)
    type_called (writes to region) lasts fixed =
        let both = and_parts (is_lasting to) (is_lasting_region region) lasts in
        λ i. writes (type_called to both.0 fixed.0 i) (region_called region both.1 fixed.1 i)

    argument_called : (one : Argument) → argument_lasting one ≡ true
        → EachNameOf (GivesType first) (GivesRegion first) one
        → argument_running second y one ≡ argument_running s z (argument_substituted first one)
    argument_called (of_type t) lasts fixed = ap of_type (type_called t lasts fixed)
    argument_called (in_region region) lasts fixed = ap in_region (region_called region lasts fixed)

    all_called : (args : Arguments) → are_lasting args ≡ true
        → EachNameOfAll (GivesType first) (GivesRegion first) args
        → all_running second y args ≡ all_running s z (all_substituted first args)
    all_called no_arguments lasts fixed = refl
    all_called (arguments one rest) lasts fixed =
        let both = and_parts (argument_lasting one) (are_lasting rest) lasts in
        λ i. arguments (argument_called one both.0 fixed.0 i) (all_called rest both.1 fixed.1 i)

-- ---- types without `~`

module _ (s : Bindings) (z y : ℕ) where
  region_lasts : (region : Region) → is_lasting_region region ≡ true
      → region_running s z region ≡ region_running s y region
  region_lasts Static lasts = refl
  region_lasts (Named name) lasts = refl
  region_lasts Anonymous lasts = absurd cc

  mutual
    pub type_lasts : (t : Meaning) → is_lasting t ≡ true → running s z t ≡ running s y t
    type_lasts unit lasts = refl
    type_lasts truth lasts = refl
    type_lasts (integer kind) lasts = refl
    type_lasts text lasts = refl
    type_lasts (parameter name) lasts = refl
    type_lasts (named of args) lasts = ap (named of) (all_last args lasts)
    type_lasts (reads to region) lasts =
        let both = and_parts (is_lasting to) (is_lasting_region region) lasts in
        λ i. reads (type_lasts to both.0 i) (region_lasts region both.1 i)
    type_lasts (writes to region) lasts =
        let both = and_parts (is_lasting to) (is_lasting_region region) lasts in
        λ i. writes (type_lasts to both.0 i) (region_lasts region both.1 i)

    argument_lasts : (one : Argument) → argument_lasting one ≡ true
        → argument_running s z one ≡ argument_running s y one
    argument_lasts (of_type t) lasts = ap of_type (type_lasts t lasts)
    argument_lasts (in_region region) lasts = ap in_region (region_lasts region lasts)

    all_last : (args : Arguments) → are_lasting args ≡ true → all_running s z args ≡ all_running s y args
    all_last no_arguments lasts = refl
    all_last (arguments one rest) lasts =
        let both = and_parts (argument_lasting one) (are_lasting rest) lasts in
        λ i. arguments (argument_lasts one both.0 i) (all_last rest both.1 i)

-- ---- the names in a type

module _ (s r : Bindings) (z : ℕ) where
  abbrev Alike : List ℕ → Type 0
  Alike name = value_of name s ≡ value_of name r

  region_alike : (region : Region) → OfRegion Alike region → region_running s z region ≡ region_running r z region
  region_alike Static h = refl
  region_alike (Named name) h = ap (λ o. region_for o name) h
  region_alike Anonymous h = refl

  mutual
    pub type_alike : (t : Meaning) → EachName Alike Alike t → running s z t ≡ running r z t
    type_alike unit h = refl
    type_alike truth h = refl
    type_alike (integer kind) h = refl
    type_alike text h = refl
    type_alike (parameter name) h = ap (λ o. type_for o name) h
    type_alike (named of args) h = ap (named of) (all_alike args h)
    type_alike (reads to region) h = λ i. reads (type_alike to h.0 i) (region_alike region h.1 i)
    type_alike (writes to region) h = λ i. writes (type_alike to h.0 i) (region_alike region h.1 i)

    argument_alike : (one : Argument) → EachNameOf Alike Alike one
        → argument_running s z one ≡ argument_running r z one
    argument_alike (of_type t) h = ap of_type (type_alike t h)
    argument_alike (in_region region) h = ap in_region (region_alike region h)

    all_alike : (args : Arguments) → EachNameOfAll Alike Alike args → all_running s z args ≡ all_running r z args
    all_alike no_arguments h = refl
    all_alike (arguments one rest) h = λ i. arguments (argument_alike one h.0 i) (all_alike rest h.1 i)
