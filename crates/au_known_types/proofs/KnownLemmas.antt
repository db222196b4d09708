-- Known types, by matching and by substituting.
use Rattle.std.proofs.Common.{◌≡◌, inl, inr, ℕ, Bool, true, false, ◌||◌, cond, true≢false, List, [], ◌∷◌, Option}
use Rattle.std.proofs.Common.{None, Some, refl, sym, ◌∙◌, subst}
use Rattle.std.specs.Prelude.{if◌then◌else◌}
use Rattle.std.specs.List.{list_any}
use Rattle.std.specs.Str.{bytes_eq}
use Rattle.std.proofs.lemmas.Bool.{and_from, and_parts}
use Rattle.std.proofs.lemmas.Option.{none-some, same_Some}
use Rattle.au_syntax.specs.declared.declarations.Universe.{Universe}
use Rattle.au_syntax.specs.Plain.{Bytes}
use Rattle.au_types.specs.declared.headings.Head.{Head}
use Rattle.au_types.specs.declared.parameters.Parameter.{Parameter}
use Rattle.au_types.specs.declared.types.DeclAt.{DeclAt}
use Rattle.au_types.specs.declared.types.Region.{Region}
use Rattle.au_types.specs.declared.types.Region.TheVariants.{Static, Named, Anonymous}
use Rattle.au_types.specs.Rows.{head_of, same_place}
use Rattle.au_types.specs.Same.{same, same_argument, same_region}
use Rattle.au_types.specs.Types.{Meaning, Argument, Arguments, unit, truth, integer, text, parameter, named}
use Rattle.au_types.specs.Types.{reads, writes, of_type, in_region, no_arguments, arguments}
use Rattle.au_matching.specs.Bindings.{Bindings, value_of, with_pair}
use Rattle.au_matching.specs.Fitting.{BindingsFit}
use Rattle.au_matching.specs.Forming.{IsWellFormed, all_fit, all_formed, argument_formed, fit_row, fits, is_formed}
use Rattle.au_matching.specs.Matched.{all_matched, argument_matched, bound, matched, only_if, region_matched}
use Rattle.au_matching.specs.Substituted.{EachName, EachNameOf, EachNameOfAll, OfRegion, all_substituted}
use Rattle.au_matching.specs.Substituted.{argument_substituted, region_for, region_substituted, substituted, type_for}
use Rattle.au_matching.specs.Universes.{universe_of}
use Rattle.au_matching.proofs.BindingLemmas.{value_of-with}
use Rattle.au_matching.proofs.LawLemmas.{well_formed_stands}
use Rattle.au_matching.proofs.MatchedLemmas.{and_then_gave}
use Rattle.au_matching.proofs.SubstitutedLemmas.{each_so, stays}
use Rattle.au_matching.proofs.SubstitutingFormedLemmas.{formation_kept, takes_kept}
use Rattle.au_matching.proofs.SubstitutingUniverseLemmas.{universe_kept}
use Rattle.au_written_types.specs.Written.{IsRegionName, IsTypeName}
use Rattle.au_known_types.specs.Known.{IsDeclared, IsKnown, IsKnownArgument, ValuesAreKnown}

module _ (heads : List (DeclAt × Head)) (params : List Parameter) (regions : List Bytes) where
  abbrev pub Known : Meaning → Type 0
  Known t = IsKnown heads params regions t

  abbrev pub RegionKnown : Region → Type 0
  RegionKnown region = OfRegion (IsRegionName regions params) region

  abbrev pub ArgumentKnown : Argument → Type 0
  ArgumentKnown one = IsKnownArgument heads params regions one

  abbrev pub AllKnown : Arguments → Type 0
  AllKnown args =
      (all_formed (fits heads params) heads params args ≡ true)
      × EachNameOfAll (IsTypeName params) (IsRegionName regions params) args

  abbrev pub ValuesKnown : Bindings → Type 0
  ValuesKnown s = ValuesAreKnown heads params regions s

  -- ---- types by their parts

  pub reads_known : (t : Meaning) (region : Region) → Known t → RegionKnown region → Known (reads t region)
  unfolding is_formed
  reads_known t region known its = (known.0, (known.1, its))

  pub writes_known : (t : Meaning) (region : Region) → Known t → RegionKnown region → Known (writes t region)
  unfolding is_formed
  writes_known t region known its = (known.0, (known.1, its))

  pub reads_parts : (t : Meaning) (region : Region) → Known (reads t region) → Known t × RegionKnown region
  unfolding is_formed
  reads_parts t region known = ((known.0, known.1.0), known.1.1)

  pub writes_parts : (t : Meaning) (region : Region) → Known (writes t region) → Known t × RegionKnown region
  unfolding is_formed
  writes_parts t region known = ((known.0, known.1.0), known.1.1)

  pub unit_known : Known unit
  unfolding is_formed
  unit_known = (refl, tt)

  pub truth_known : Known truth
  unfolding is_formed
  truth_known = (refl, tt)

  pub text_known : Known text
  unfolding is_formed
  text_known = (refl, tt)

  pub integer_known : (kind : _) → Known (integer kind)
  unfolding is_formed
  integer_known kind = (refl, tt)

  pub none_known : ValuesKnown []
  none_known name value e = absurd (none-some value e)

  pub first_known : (one : Argument) (rest : Arguments) → AllKnown (arguments one rest) → ArgumentKnown one
  unfolding all_formed argument_formed
  first_known (of_type t) rest all = (
    (and_parts (argument_formed (fits heads params) heads params (of_type t))
        (all_formed (fits heads params) heads params rest) all.0).0,
    all.1.0,
  )
  first_known (in_region region) rest all = all.1.0

  pub rest_known : (one : Argument) (rest : Arguments) → AllKnown (arguments one rest) → AllKnown rest
  unfolding all_formed
  rest_known one rest all = (
    (and_parts (argument_formed (fits heads params) heads params one)
        (all_formed (fits heads params) heads params rest) all.0).1,
    all.1.1,
  )

  pub named_parts : (at : DeclAt) (args : Arguments) → Known (named at args) → AllKnown args
  unfolding is_formed
  named_parts at args known = (
    (and_parts (fit_row (fits heads params) (head_of heads at) args)
        (all_formed (fits heads params) heads params args) known.0).1,
    known.1,
  )

  -- ---- matching

  only_same : (b : Bool) (s r : Bindings) → only_if b s ≡ Some r → ValuesKnown s → ValuesKnown r
  only_same true s r e values = subst ValuesKnown (same_Some s r e) values
  only_same false s r e values = absurd (none-some r e)

  bound_known : (name : List ℕ) (value : Argument) (o : Option Argument) (s r : Bindings) →
      bound name value o s ≡ Some r → ArgumentKnown value → ValuesKnown s → ValuesKnown r
  bound_known name value (Some known) s r e its values = only_same (same_argument known value) s r e values
  bound_known name value None s r e its values = subst ValuesKnown (same_Some (with_pair name value s) r e) with_it
    where
      by : (b : Bool) (other : List ℕ) (one : Argument) → cond b (Some value) (value_of other s) ≡ Some one →
          ArgumentKnown one
      by true other one e = subst ArgumentKnown (same_Some value one e) its
      by false other one e = values other one e

      with_it : ValuesKnown (with_pair name value s)
      with_it other one e = by (bytes_eq other name) other one (sym (value_of-with other name value s) ∙ e)

  region_bound : (p q : Region) (s r : Bindings) → region_matched p q s ≡ Some r → RegionKnown q → ValuesKnown s
      → ValuesKnown r
  region_bound Static q s r e its values = only_same (same_region Static q) s r e values
  region_bound (Named name) q s r e its values = bound_known name (in_region q) (value_of name s) s r e its values
  region_bound Anonymous q s r e its values = only_same (same_region Anonymous q) s r e values

  if_some : (b : Bool) (o : Option Bindings) (r : Bindings) → (if b then o else None) ≡ Some r → o ≡ Some r
  if_some true o r e = e
  if_some false o r e = absurd (none-some r e)

  mutual
    pub matched_known : (p t : Meaning) (s r : Bindings) → matched p t s ≡ Some r → Known t → ValuesKnown s →
        ValuesKnown r
    matched_known unit t s r e known values = only_same (same unit t) s r e values
    matched_known truth t s r e known values = only_same (same truth t) s r e values
    matched_known (integer kind) t s r e known values = only_same (same (integer kind) t) s r e values
    matched_known text t s r e known values = only_same (same text t) s r e values
    matched_known (parameter name) t s r e known values =
        bound_known name (of_type t) (value_of name s) s r e known values
    matched_known (named a args) (named b others) s r e known values =
        all_bound args others s r (if_some (same_place a b) (all_matched args others s) r e)
        (named_parts b others known) values
    matched_known (named a args) unit s r e known values = absurd (none-some r e)
    matched_known (named a args) truth s r e known values = absurd (none-some r e)
    matched_known (named a args) (integer kind) s r e known values = absurd (none-some r e)
    matched_known (named a args) text s r e known values = absurd (none-some r e)
    matched_known (named a args) (parameter name) s r e known values = absurd (none-some r e)
    matched_known (named a args) (reads to region) s r e known values = absurd (none-some r e)
    matched_known (named a args) (writes to region) s r e known values = absurd (none-some r e)
    matched_known (reads p q) (reads t region) s r e known values =
        let its = and_then_gave (matched p t s) (region_matched q region) r e in
        let parts = reads_parts t region known in
        region_bound q region its.0 r its.2 parts.1 (matched_known p t s its.0 its.1 parts.0 values)
    matched_known (reads p q) unit s r e known values = absurd (none-some r e)
    matched_known (reads p q) truth s r e known values = absurd (none-some r e)
    matched_known (reads p q) (integer kind) s r e known values = absurd (none-some r e)
    matched_known (reads p q) text s r e known values = absurd (none-some r e)
    matched_known (reads p q) (parameter name) s r e known values = absurd (none-some r e)
    matched_known (reads p q) (named b others) s r e known values = absurd (none-some r e)
    matched_known (reads p q) (writes to region) s r e known values = absurd (none-some r e)
    matched_known (writes p q) (writes t region) s r e known values =
        let its = and_then_gave (matched p t s) (region_matched q region) r e in
        let parts = writes_parts t region known in
        region_bound q region its.0 r its.2 parts.1 (matched_known p t s its.0 its.1 parts.0 values)
    matched_known (writes p q) unit s r e known values = absurd (none-some r e)
    matched_known (writes p q) truth s r e known values = absurd (none-some r e)
    matched_known (writes p q) (integer kind) s r e known values = absurd (none-some r e)
    matched_known (writes p q) text s r e known values = absurd (none-some r e)
    matched_known (writes p q) (parameter name) s r e known values = absurd (none-some r e)
    matched_known (writes p q) (named b others) s r e known values = absurd (none-some r e)
    matched_known (writes p q) (reads to region) s r e known values = absurd (none-some r e)

    argument_bound : (p t : Argument) (s r : Bindings) → argument_matched p t s ≡ Some r → ArgumentKnown t
        → ValuesKnown s → ValuesKnown r
    argument_bound (of_type p) (of_type t) s r e known values = matched_known p t s r e known values
    argument_bound (in_region p) (in_region q) s r e known values = region_bound p q s r e known values
    argument_bound (of_type p) (in_region q) s r e known values = absurd (none-some r e)
    argument_bound (in_region p) (of_type t) s r e known values = absurd (none-some r e)

    all_bound : (p t : Arguments) (s r : Bindings) → all_matched p t s ≡ Some r → AllKnown t → ValuesKnown s
        → ValuesKnown r
    all_bound no_arguments no_arguments s r e known values = subst ValuesKnown (same_Some s r e) values
    all_bound (arguments p args) (arguments t others) s r e known values =
        let its = and_then_gave (argument_matched p t s) (all_matched args others) r e in
        all_bound args others its.0 r its.2 (rest_known t others known)
        (argument_bound p t s its.0 its.1 (first_known t others known) values)
    all_bound no_arguments (arguments t others) s r e known values = absurd (none-some r e)
    all_bound (arguments p args) no_arguments s r e known values = absurd (none-some r e)

  -- ---- substituting

  module _ (inner : List Parameter) (s : Bindings) (fit : BindingsFit heads inner params s) where
    -- a name stands for a type that is known, and for a region in scope
    abbrev pub TypeThere : List ℕ → Type 0
    TypeThere name = (u : Meaning) × (value_of name s ≡ Some (of_type u)) × Known u

    abbrev pub RegionThere : List ℕ → Type 0
    RegionThere name = (region : Region) × (value_of name s ≡ Some (in_region region)) × RegionKnown region

    fits_under : (wanted : Universe) (one : Argument) → argument_formed (fits heads inner) heads inner one ≡ true
        → fits heads inner wanted one ≡ true → fits heads params wanted (argument_substituted s one) ≡ true
    unfolding argument_formed
    fits_under wanted (of_type t) formed taken =
        takes_kept wanted (universe_of heads inner t) (universe_of heads params (substituted s t))
        (universe_kept heads inner params s fit t (well_formed_stands heads inner t formed)) taken
    fits_under wanted (in_region region) formed taken = taken

    all_fit_under : (expected : List Parameter) (args : Arguments)
        → all_formed (fits heads inner) heads inner args ≡ true → all_fit (fits heads inner) expected args ≡ true
        → all_fit (fits heads params) expected (all_substituted s args) ≡ true
    unfolding all_formed
    all_fit_under [] no_arguments formed fitting = refl
    all_fit_under [] (arguments first rest) formed fitting = absurd cc
    all_fit_under (one ∷ more) no_arguments formed fitting = absurd cc
    all_fit_under (one ∷ more) (arguments first rest) formed fitting =
        let each = and_parts (argument_formed (fits heads inner) heads inner first)
        (all_formed (fits heads inner) heads inner rest) formed in
        let both = and_parts (fits heads inner one.universe first) (all_fit (fits heads inner) more rest) fitting in
        and_from (fits heads params one.universe (argument_substituted s first))
        (all_fit (fits heads params) more (all_substituted s rest)) (fits_under one.universe first each.0 both.0)
        (all_fit_under more rest each.1 both.1)

    row_under : (row : Option Head) (args : Arguments) → all_formed (fits heads inner) heads inner args ≡ true
        → fit_row (fits heads inner) row args ≡ true → fit_row (fits heads params) row (all_substituted s args) ≡ true
    row_under None args formed fitting = absurd cc
    row_under (Some head) args formed fitting = all_fit_under head.params args formed fitting

    region_under : (region : Region) → OfRegion RegionThere region → RegionKnown (region_substituted s region)
    region_under Static there = tt
    region_under (Named name) there =
        subst (λ o. RegionKnown (region_for o name)) (sym there.1) there.2
    region_under Anonymous there = tt

    mutual
      unfolding is_formed argument_formed all_formed

      pub under_known : (t : Meaning) → is_formed (fits heads inner) heads inner t ≡ true
          → EachName TypeThere RegionThere t → Known (substituted s t)
      under_known unit formed there = unit_known
      under_known truth formed there = truth_known
      under_known (integer kind) formed there = integer_known kind
      under_known text formed there = text_known
      under_known (parameter name) formed there = subst (λ o. Known (type_for o name)) (sym there.1) there.2
      under_known (named at args) formed there =
          let both = and_parts (fit_row (fits heads inner) (head_of heads at) args)
          (all_formed (fits heads inner) heads inner args) formed in
          let all = all_under args both.1 there in (
            and_from (fit_row (fits heads params) (head_of heads at) (all_substituted s args))
                (all_formed (fits heads params) heads params (all_substituted s args))
                (row_under (head_of heads at) args both.1 both.0) all.0,
            all.1,
          )
      under_known (reads t region) formed there =
          reads_known (substituted s t) (region_substituted s region) (under_known t formed there.0)
          (region_under region there.1)
      under_known (writes t region) formed there =
          writes_known (substituted s t) (region_substituted s region) (under_known t formed there.0)
          (region_under region there.1)

      one_under : (one : Argument) → argument_formed (fits heads inner) heads inner one ≡ true
          → EachNameOf TypeThere RegionThere one
          → (argument_formed (fits heads params) heads params (argument_substituted s one) ≡ true)
          × EachNameOf (IsTypeName params) (IsRegionName regions params) (argument_substituted s one)
      one_under (of_type t) formed there = under_known t formed there
      one_under (in_region region) formed there = (refl, region_under region there)

      all_under : (args : Arguments) → all_formed (fits heads inner) heads inner args ≡ true
          → EachNameOfAll TypeThere RegionThere args → AllKnown (all_substituted s args)
      all_under no_arguments formed there = (refl, tt)
      all_under (arguments one rest) formed there =
          let parts = and_parts (argument_formed (fits heads inner) heads inner one)
          (all_formed (fits heads inner) heads inner rest) formed in
          let first = one_under one parts.0 there.0 in
          let others = all_under rest parts.1 there.1 in (
            and_from (argument_formed (fits heads params) heads params (argument_substituted s one))
                (all_formed (fits heads params) heads params (all_substituted s rest)) first.0 others.0,
            (first.1, others.1),
          )

  -- ---- what is declared over no type parameter

  pub weakened : (t : Meaning) → IsDeclared heads [] t → Known t
  weakened t declared = (
    subst (IsWellFormed heads params) (stays t)
        (formation_kept heads [] params [] t (λ name universe e. absurd (none-some universe e)) declared.0),
    each_so (IsTypeName []) (IsTypeName params) (IsRegionName [] []) (IsRegionName regions params)
        (λ name some. absurd (true≢false (sym some))) no_region t declared.1.names,
  )
    where
      no_region : (name : List ℕ) → IsRegionName [] [] name → IsRegionName regions params name
      no_region name (inl e) = absurd (true≢false (sym e))
      no_region name (inr e) = absurd (none-some _ e)

  -- where one more region is open
  pub opened_known : (region : Bytes) (t : Meaning) → Known t → IsKnown heads params (region ∷ regions) t
  opened_known region t known = (
    known.0,
    each_so (IsTypeName params) (IsTypeName params) (IsRegionName regions params)
        (IsRegionName (region ∷ regions) params) (λ name is. is) more t known.1,
  )
    where
      by : (a b : Bool) → b ≡ true → a || b ≡ true
      by true b e = refl
      by false b e = e

      more : (name : List ℕ) → IsRegionName regions params name → IsRegionName (region ∷ regions) params name
      more name (inl e) = inl (by (bytes_eq name region) (list_any (bytes_eq name) regions) e)
      more name (inr e) = inr e
