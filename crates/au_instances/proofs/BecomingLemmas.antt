-- The test whether a head becomes a type is true exactly where some substitution that fits makes it so.
use Rattle.std.proofs.Common.{◌≡◌, ◌⊎◌, Bool, true, false, cond, not, List, [], ◌∷◌, Option, None, Some, refl}
use Rattle.std.proofs.Common.{sym, ap, subst, ◌∙◌, inl, inr, true≢false}
use Rattle.std.specs.Str.{bytes_eq}
use Rattle.std.proofs.lemmas.Bool.{and_parts, and_from, or_cases, or_parts, not-true}
use Rattle.std.proofs.lemmas.Slice.Eq.{bytes_eq-Decides}
use Rattle.au_base.proofs.TextLemmas.{bytes_differ, bytes_self}
use Rattle.au_syntax.specs.declared.declarations.Universe.{Universe}
use Rattle.au_syntax.specs.Plain.{Bytes}
use Rattle.au_types.specs.declared.headings.Head.{Head}
use Rattle.au_types.specs.declared.parameters.Parameter.{Parameter}
use Rattle.au_types.specs.declared.types.DeclAt.{DeclAt}
use Rattle.au_types.specs.declared.types.Region.{Region}
use Rattle.au_types.specs.declared.types.Region.TheVariants.{Named}
use Rattle.au_types.specs.Types.{Meaning, Argument, Arguments, parameter, of_type, in_region, no_arguments, arguments}
use Rattle.au_types.specs.Universes.{universe_in}
use Rattle.au_matching.specs.Bindings.{Bindings, value_of, GivesType, GivesRegion}
use Rattle.au_matching.specs.Substituted.{type_for, region_for, argument_substituted, all_substituted}
use Rattle.au_matching.specs.Substituted.{EachNameOf, EachNameOfAll}
use Rattle.au_matching.specs.Fitting.{stand_in, BindingsFit}
use Rattle.au_matching.specs.Forming.{fits, wants_region}
use Rattle.au_matching.proofs.LawLemmas.{fits_kind}
use Rattle.au_instances.specs.Becoming.{taken_by, stands_for, all_stand_for}
use Rattle.au_instances.specs.Forms.{name_of, of_kind, is_one_of, are_parameters, are_distinct, is_again}
use Rattle.au_instances.specs.Forms.{is_called, stands_in, all_stand}

module _ (heads : List (DeclAt × Head)) (scope params : List Parameter) where
  -- ---- where a substitution that fits is given, arguments that are parameters become arguments that fit

  module _ (s : Bindings) (fit : BindingsFit heads params scope s) where
    -- what a name stands for fits, where the name is a parameter
    pub value_taken : (name : Bytes) (one : Argument) (kind : Argument) →
        of_kind (universe_in params name) kind ≡ true → value_of name s ≡ Some one →
        taken_by heads scope (universe_in params name) one ≡ true
    value_taken name one kind own value = by (universe_in params name) refl own
      where
        by : (o : Option Universe) → universe_in params name ≡ o → of_kind o kind ≡ true →
            taken_by heads scope o one ≡ true
        by None e own = absurd cc
        by (Some universe) e own = subst (λ o. fits heads scope universe (stand_in o universe name) ≡ true)
            value (fit name universe e)

    stands_forward : (one : Argument) → is_one_of params (name_of one) one ≡ true →
        EachNameOf (GivesType s) (GivesRegion s) one → stands_for heads scope params (name_of one)
        (argument_substituted s one) ≡ true
    stands_forward (of_type (parameter name)) own fixed =
        subst (λ o. taken_by heads scope (universe_in params name) (of_type (type_for o name)) ≡ true)
        (sym fixed.1) (value_taken name (of_type fixed.0) (of_type (parameter name)) own fixed.1)
    stands_forward (of_type t) own fixed = absurd cc
    stands_forward (in_region (Named name)) own fixed =
        subst (λ o. taken_by heads scope (universe_in params name) (in_region (region_for o name)) ≡ true)
        (sym fixed.1) (value_taken name (in_region fixed.0) (in_region (Named name)) own fixed.1)
    stands_forward (in_region region) own fixed = absurd cc

    pub all_forward : (names : Arguments) → are_parameters params names ≡ true →
        EachNameOfAll (GivesType s) (GivesRegion s) names → all_stand_for heads scope params names
        (all_substituted s names) ≡ true
    all_forward no_arguments own fixed = refl
    all_forward (arguments one rest) own fixed =
        let both = and_parts (is_one_of params (name_of one) one) (are_parameters params rest) own in
        and_from (stands_for heads scope params (name_of one) (argument_substituted s one))
        (all_stand_for heads scope params rest (all_substituted s rest))
        (stands_forward one both.0 fixed.0) (all_forward rest both.1 fixed.1)

-- ---- the substitution that gives each name the argument in its place

abbrev pub pair_for : Option Bytes → Argument → Bindings → Bindings
pair_for None one s = s
pair_for (Some name) one s = (name, one) ∷ s

abbrev pub bound_to : Arguments → Arguments → Bindings
bound_to (arguments name names) (arguments one rest) = pair_for (name_of name) one (bound_to names rest)
bound_to names args = []

-- a substitution gives each name the argument in its place
abbrev pub GivesOne : Bindings → Option Bytes → Argument → Type 0
GivesOne s None one = Unit {0}
GivesOne s (Some name) one = value_of name s ≡ Some one

abbrev pub Gives : Bindings → Arguments → Arguments → Type 0
Gives s (arguments name names) (arguments one rest) = GivesOne s (name_of name) one × Gives s names rest
Gives s names args = Unit {0}

-- a pair in front changes nothing of other names
one_past : (s : Bindings) (name : Bytes) (value : Argument) (o : Option Bytes) (one : Argument) →
    is_called name o ≡ false → GivesOne s o one → GivesOne ((name, value) ∷ s) o one
one_past s name value None one other gives = tt
one_past s name value (Some known) one other gives = ap (λ b. cond b (Some value) (value_of known s))
    (bytes_differ name known other) ∙ gives

gives_past : (s : Bindings) (name : Bytes) (value : Argument) (names args : Arguments) → stands_in name names
    ≡ false → Gives s names args → Gives ((name, value) ∷ s) names args
gives_past s name value no_arguments args other gives = tt
gives_past s name value (arguments known names) no_arguments other gives = tt
gives_past s name value (arguments known names) (arguments one rest) other gives =
    let both = or_parts (is_called name (name_of known)) (stands_in name names) other in
    (one_past s name value (name_of known) one both.0 gives.0, gives_past s name value names rest both.1 gives.1)

pub bound_gives : (names args : Arguments) → are_distinct names ≡ true → Gives (bound_to names args) names args
bound_gives no_arguments args distinct = tt
bound_gives (arguments name names) no_arguments distinct = tt
bound_gives (arguments name names) (arguments one rest) distinct =
    let both = and_parts (not (is_again (name_of name) names)) (are_distinct names) distinct in
    by (name_of name) both.0 (bound_gives names rest both.1)
  where
    by : (o : Option Bytes) → not (is_again o names) ≡ true → Gives (bound_to names rest) names rest →
        GivesOne (pair_for o one (bound_to names rest)) o one × Gives (pair_for o one (bound_to names rest))
        names rest
    by None again others = (tt, others)
    by (Some known) again others = (
      ap (λ b. cond b (Some one) (value_of known (bound_to names rest))) (bytes_self known),
      gives_past (bound_to names rest) known one names rest (not-true (stands_in known names) again)
          others,
    )

-- ---- where arguments fit, a substitution that gives each name its argument fits and makes the one of the other

module _ (heads : List (DeclAt × Head)) (scope : List Parameter) where
  -- an argument that may stand for a type parameter is a type, and one for a region is a region
  type_given : (o : Option Universe) (t : Meaning) (one : Argument) → of_kind o (of_type t) ≡ true →
      taken_by heads scope o one ≡ true → (u : Meaning) × (one ≡ of_type u)
  type_given None t one own taken = absurd cc
  type_given (Some universe) t (of_type u) own taken = (u, refl)
  type_given (Some universe) t (in_region region) own taken =
      absurd (true≢false (sym taken ∙ not-true (wants_region universe) own))

  region_given : (o : Option Universe) (region : Region) (one : Argument) → of_kind o (in_region region)
      ≡ true → taken_by heads scope o one ≡ true → (other : Region) × (one ≡ in_region other)
  region_given None region one own taken = absurd cc
  region_given (Some universe) region (in_region other) own taken = (other, refl)
  region_given (Some universe) region (of_type u) own taken =
      absurd (true≢false (sym own ∙ not-true (wants_region universe)
      (fits_kind heads scope universe (of_type u) taken)))

  module _ (params : List Parameter) (s : Bindings) where
    one_back : (name one : Argument) → is_one_of params (name_of name) name ≡ true →
        stands_for heads scope params (name_of name) one ≡ true → GivesOne s (name_of name) one →
        EachNameOf (GivesType s) (GivesRegion s) name × (argument_substituted s name ≡ one)
    one_back (of_type (parameter name)) one own stands gives =
        let u = type_given (universe_in params name) (parameter name) one own stands in
        let value : value_of name s ≡ Some (of_type u.0) = gives ∙ ap Some u.1 in
        ((u.0, value), ap (λ o. of_type (type_for o name)) value ∙ sym u.1)
    one_back (of_type t) one own stands gives = absurd cc
    one_back (in_region (Named name)) one own stands gives =
        let r = region_given (universe_in params name) (Named name) one own stands in
        let value : value_of name s ≡ Some (in_region r.0) = gives ∙ ap Some r.1 in
        ((r.0, value), ap (λ o. in_region (region_for o name)) value ∙ sym r.1)
    one_back (in_region region) one own stands gives = absurd cc

    pub all_back : (names args : Arguments) → are_parameters params names ≡ true →
        all_stand_for heads scope params names args ≡ true → Gives s names args →
        EachNameOfAll (GivesType s) (GivesRegion s) names × (all_substituted s names ≡ args)
    all_back no_arguments no_arguments own stand gives = (tt, refl)
    all_back no_arguments (arguments one rest) own stand gives = absurd cc
    all_back (arguments name names) no_arguments own stand gives = absurd cc
    all_back (arguments name names) (arguments one rest) own stand gives =
        let mine = and_parts (is_one_of params (name_of name) name) (are_parameters params names) own in
        let fit = and_parts (stands_for heads scope params (name_of name) one)
        (all_stand_for heads scope params names rest) stand in
        let here = one_back name one mine.0 fit.0 gives.0 in
        let there = all_back names rest mine.1 fit.1 gives.1 in
        ((here.0, there.0), λ i. arguments (here.1 i) (there.1 i))

    -- each name among the arguments has a value that fits
    found_here : (o : Option Bytes) (one : Argument) (name : Bytes) → is_called name o ≡ true →
        stands_for heads scope params o one ≡ true → GivesOne s o one → (value : Argument)
        × (value_of name s ≡ Some value) × (taken_by heads scope (universe_in params name) value ≡ true)
    found_here None one name called stands gives = absurd cc
    found_here (Some known) one name called stands gives =
        let is : known ≡ name = sym ((bytes_eq-Decides name known).0 called) in (
          one,
          subst (λ n. value_of n s ≡ Some one) is gives,
          subst (λ n. taken_by heads scope (universe_in params n) one ≡ true) is stands,
        )

    found_value : (names args : Arguments) (name : Bytes) → stands_in name names ≡ true →
        all_stand_for heads scope params names args ≡ true → Gives s names args → (value : Argument)
        × (value_of name s ≡ Some value) × (taken_by heads scope (universe_in params name) value ≡ true)
    found_value no_arguments args name there stand gives = absurd cc
    found_value (arguments known names) no_arguments name there stand gives = absurd cc
    found_value (arguments known names) (arguments one rest) name there stand gives =
        let fit = and_parts (stands_for heads scope params (name_of known) one)
        (all_stand_for heads scope params names rest) stand in
        by fit.0 (λ h. found_value names rest name h fit.1 gives.1)
        (or_cases (is_called name (name_of known)) (stands_in name names) there)
      where
        by : stands_for heads scope params (name_of known) one ≡ true →
            (stands_in name names ≡ true → (value : Argument) × (value_of name s ≡ Some value)
            × (taken_by heads scope (universe_in params name) value ≡ true))
            → (is_called name (name_of known) ≡ true) ⊎ (stands_in name names ≡ true) → (value : Argument)
            × (value_of name s ≡ Some value) × (taken_by heads scope (universe_in params name) value ≡ true)
        by fits others (inl h) = found_here (name_of known) one name h fits gives.0
        by fits others (inr h) = others h

    -- a parameter stands among the arguments, if all do
    pub parameter_stands : (all : List Parameter) (args : Arguments) (name : Bytes) (universe : Universe) →
        all_stand all args ≡ true → universe_in all name ≡ Some universe → stands_in name args ≡ true
    parameter_stands [] args name universe stand e = absurd cc
    parameter_stands (one ∷ rest) args name universe stand e =
        let both = and_parts (stands_in one.name args) (all_stand rest args) stand in
        by (bytes_eq one.name name) refl both.0 (parameter_stands rest args name universe both.1) e
      where
        by : (b : Bool) → bytes_eq one.name name ≡ b → stands_in one.name args ≡ true →
            (universe_in rest name ≡ Some universe → stands_in name args ≡ true) →
            cond b (Some one.universe) (universe_in rest name) ≡ Some universe → stands_in name args ≡ true
        by true is mine others e = subst (λ n. stands_in n args ≡ true) ((bytes_eq-Decides one.name name).0 is) mine
        by false is mine others e = others e

    pub fit_back : (names args : Arguments) → all_stand params names ≡ true →
        all_stand_for heads scope params names args ≡ true → Gives s names args →
        BindingsFit heads params scope s
    fit_back names args stand all gives name universe e =
        let found = found_value names args name (parameter_stands params names name universe stand e) all gives in
        subst (λ o. fits heads scope universe (stand_in o universe name) ≡ true) (sym found.1)
        (subst (λ o. taken_by heads scope o found.0 ≡ true) e found.2)
