-- What written types of the code are judged to mean, case by case. The definition is opaque; these equations
-- stand for it.
use Rattle.std.proofs.Common.{◌≡◌, inl, inr, ℕ, ◌+◌, ◌<◌, ◌≤◌, List, [], ◌∷◌, ◌++◌, map, length, drop, get_or}
use Rattle.std.proofs.Common.{true, false, Some, refl, sym, ap, subst, ◌∙◌}
use Rattle.std.specs.Prelude.{◌==◌, if◌then◌else◌, slice_get}
use Rattle.std.proofs.lemmas.Bool.{and_from, and_parts, eq-eqb}
use Rattle.std.proofs.lemmas.Bool.Decides.{eqb_tells}
use Rattle.std.proofs.lemmas.List.{drop_more, drop_all, length-map}
use Rattle.std.proofs.lemmas.Option.{slice_get_within, get_or_from_slice_get}
use Rattle.std.specs.Global.{Global}
use Rattle.std.specs.declared.boxed.Box.{Box}
use Rattle.au_base.specs.declared.places.Pos.{Pos}
use Rattle.au_syntax.specs.declared.types.Access.{Access}
use Rattle.au_syntax.specs.declared.types.TypeName.{TypeName}
use Rattle.au_syntax.specs.declared.types.TypeText.{TypeText, Reference}
use Rattle.au_syntax.proofs.TypeLemmas.{reference_written}
use Rattle.au_syntax.specs.Names.{Placed}
use Rattle.au_syntax.specs.Plain.{Bytes}
use Rattle.au_syntax.specs.Types.{WrittenType, named, reference}
use Rattle.au_syntax.specs.Views.{written, written_all, type_name}
use Rattle.au_types.specs.declared.headings.Head.{Head}
use Rattle.au_types.specs.declared.parameters.Parameter.{Parameter}
use Rattle.au_types.specs.declared.types.Arg.{Arg}
use Rattle.au_types.specs.declared.types.DeclAt.{DeclAt}
use Rattle.au_types.specs.declared.types.Region.{Region}
use Rattle.au_types.specs.Types as mean
use Rattle.au_types.specs.Types.{Meaning, Argument, Arguments}
use Rattle.au_types.specs.Views.{argument, argument_all}
use Rattle.au_matching.specs.Forming.{all_fit, all_formed, argument_formed, fits, fits_in_kind, is_formed}
use Rattle.au_matching.proofs.LawLemmas.{well_formed_stands}
use Rattle.au_types.proofs.MeantLemmas.{joined, joined_none, joined_push, joined_start as option_start}
use Rattle.au_types.specs.Senses.{sense_of}
use Rattle.au_types.specs.Meant as meant
use Rattle.au_judged_types.specs.Judging.{Given, alone, all_given, applied, argument_judged, arguments_judged}
use Rattle.au_judged_types.specs.Judging.{declared_judged, fitted, judged, refers, region_judged}
use Rattle.au_judged_types.specs.Judging.{region_named, region_with, span_of, span_with}
use Rattle.au_judged_types.specs.Reasons.{Reason, number_wanted, Outcome, means, fails, kept, in_order}
use Rattle.au_judged_types.specs.Standing.{StandFor}
use Rattle.au_judged_types.proofs.AgreementLemmas.{Agree, all_formed_of, region_agrees, judged_agrees}
use Rattle.au_judged_types.proofs.UnfitLemmas.{arguments_kinds}

-- ---- regions with arguments

pub region_alone : (one : Outcome Region) (args : List TypeText) → args ≡ [] → region_with one (written_all args) ≡ one
region_alone one [] none = refl
region_alone one (t ∷ rest) none = absurd cc

pub region_more : (region : Region) (args : List TypeText) → (args ≡ [] → ⊥) →
    region_with (means region) (written_all args) ≡ fails (number_wanted 0)
region_more region [] some = absurd (some refl)
region_more region (t ∷ rest) some = refl

pub region_fails : (why : Reason) (args : List TypeText) → region_with (fails why) (written_all args) ≡ fails why
region_fails why [] = refl
region_fails why (t ∷ rest) = refl

pub ruleset region_steps = (region_alone, region_more, region_fails)

-- ---- types without arguments, and `Span`

pub alone_more : {A : Type 0} (f : A → Given) (t : Meaning) (args : List A) → (args ≡ [] → ⊥) →
    alone t (map f args) ≡ fails (number_wanted 0)
alone_more f t [] some = absurd (some refl)
alone_more f t (one ∷ rest) some = refl

pub ruleset alone_steps = (alone_more)

pub span_of_two : {A : Type 0} (f : A → Given) (args : List A) (d e : A) → length args ≡ 2 →
    span_with (map f args) ≡ span_of (f (get_or args 0 d)).as_type (f (get_or args 1 e)).as_region
span_of_two f [] d e two = absurd cc
span_of_two f (t ∷ []) d e two = absurd cc
span_of_two f (t ∷ region ∷ []) d e two = refl
span_of_two f (t ∷ region ∷ more ∷ rest) d e two = absurd cc

pub span_of_others : {A : Type 0} (f : A → Given) (args : List A) → (length args ≡ 2 → ⊥) →
    span_with (map f args) ≡ fails (number_wanted 2)
span_of_others f [] other = refl
span_of_others f (t ∷ []) other = refl
span_of_others f (t ∷ region ∷ []) other = absurd (other refl)
span_of_others f (t ∷ region ∷ more ∷ rest) other = refl

-- ---- arguments in order

-- an argument more before others
pub joined_more : (before : List Arg) (one : Arg) (rest : Outcome Arguments) →
    kept (joined (argument_all before)) (in_order mean.arguments (means (argument one)) rest)
    ≡ kept (joined (argument_all (before ++ one ∷ []))) rest
joined_more before one (fails why) = refl
joined_more before one (means rest) = ap means (sym (joined_push before one rest))

pub joined_start : (rest : Outcome Arguments) → kept (joined mean.no_arguments) rest ≡ rest
joined_start (fails why) = refl
joined_start (means rest) =
    let same : Some (joined mean.no_arguments rest) ≡ Some rest = option_start (Some rest) in
    ap means (cc)

-- the first of the arguments that are left
arguments_step : {A : Type 0} (f : A → Given) (expected : List Parameter) (args : List A) (i : ℕ)
    (one : Parameter) (d : A) → slice_get expected i ≡ Some one → i < length args →
    arguments_judged (drop i expected) (map f (drop i args)) ≡ in_order mean.arguments
    (argument_judged one.universe (f (get_or args i d)))
    (arguments_judged (drop (i + 1) expected) (map f (drop (i + 1) args)))
arguments_step f expected args i one d stands inside =
    let first = drop_more expected i one (slice_get_within expected i one stands) in
    let same = get_or_from_slice_get expected i one one stands in
    ap (λ ps. arguments_judged ps (map f (drop i args))) (first ∙ ap (λ p. p ∷ drop (i + 1) expected) same)
    ∙ ap (λ ts. arguments_judged (one ∷ drop (i + 1) expected) (map f ts)) (drop_more args i d inside)

-- arguments that are left are judged as the first of them and then the others are
pub taken : {A : Type 0} (f : A → Given) (expected : List Parameter) (args items : List A) (i : ℕ)
    (one : Parameter) (item : A) (before : Arguments) (found : Outcome Argument) →
    arguments_judged expected (map f args) ≡ kept (joined before)
    (arguments_judged (drop i expected) (map f (drop i args))) →
    slice_get expected i ≡ Some one → items ≡ args → i < length items → item ≡ get_or items i item →
    found ≡ argument_judged one.universe (f item) →
    arguments_judged expected (map f args) ≡ kept (joined before)
    (in_order mean.arguments found (arguments_judged (drop (i + 1) expected) (map f (drop (i + 1) args))))
taken f expected args items i one item before found so_far stands same inside is judging =
    let within : i < length args = subst (λ xs. i < length xs) same inside in
    let here : item ≡ get_or args i item = is ∙ ap (λ xs. get_or xs i item) same in
    let gives : argument_judged one.universe (f (get_or args i item)) ≡ found =
    sym (judging ∙ ap (λ t. argument_judged one.universe (f t)) here) in
    so_far
    ∙ ap (kept (joined before)) (arguments_step f expected args i one item stands within
    ∙ ap (λ x. in_order mean.arguments x (arguments_judged (drop (i + 1) expected) (map f (drop (i + 1) args)))) gives)

-- what was found is all where no arguments are left
pub finished : {A : Type 0} (f : A → Given) (expected : List Parameter) (args items : List A) (i : ℕ)
    (before : Arguments) →
    length args ≡ length expected →
    arguments_judged expected (map f args) ≡ kept (joined before)
    (arguments_judged (drop i expected) (map f (drop i args))) →
    items ≡ args → length items ≤ i → means before ≡ arguments_judged expected (map f args)
finished f expected args items i before lengths so_far same done =
    let past : length args ≤ i = subst (λ xs. length xs ≤ i) same done in
    let past_too : length expected ≤ i = subst (λ n. n ≤ i) lengths past in
    sym (so_far
    ∙ ap (λ ps. kept (joined before) (arguments_judged ps (map f (drop i args)))) (drop_all i expected past_too)
    ∙ ap (λ ts. kept (joined before) (arguments_judged [] (map f ts))) (drop_all i args past)
    ∙ ap means (joined_none before))

-- ---- declared types

not_equal : (a b : ℕ) → (a ≡ b → ⊥) → (a == b) ≡ false
not_equal a b unequal = elim (eqb_tells a b) [ inl e ↦ absurd (unequal e.1) | inr e ↦ e.0 ]

module _ {A : Type 0} (heads : List (DeclAt × Head)) (params : List Parameter) (f : A → Given) (at : DeclAt)
    (expected : List Parameter) (args : List A) where
  by_number : (length (map f args) == length expected) ≡ (length args == length expected)
  by_number = ap (λ n. n == length expected) (length-map args f)

  pub declared_equal : length args ≡ length expected → declared_judged heads params at expected (map f args)
      ≡ fitted heads params at expected (arguments_judged expected (map f args))
  declared_equal equal = ap (λ b. if b then fitted heads params at expected
      (arguments_judged expected (map f args)) else fails (number_wanted (length expected)))
      (by_number ∙ eq-eqb (length args) (length expected) equal)

  pub declared_unequal : (length args ≡ length expected → ⊥) → declared_judged heads params at expected
      (map f args) ≡ fails (number_wanted (length expected))
  declared_unequal unequal = ap (λ b. if b then fitted heads params at expected
      (arguments_judged expected (map f args)) else fails (number_wanted (length expected)))
      (by_number ∙ not_equal (length args) (length expected) unequal)

-- ---- types of the code

module _ (opened : List Bytes) (params : List Parameter) (visible : List (Bytes × DeclAt))
    (heads : List (DeclAt × Head)) where
  abbrev given : TypeText → Given
  given t = record {
    as_type = judged opened params visible heads (written t);
    as_region =
        region_judged opened params visible heads (written t);
  }

  given_is : (args : List TypeText) → all_given opened params visible heads (written_all args) ≡ map given args
  unfolding all_given
  given_is [] = refl
  given_is (t ∷ rest) = ap (λ all. given t ∷ all) (given_is rest)

  pub named_judged : (name : Placed (List ℕ)) (args : List TypeText) →
      judged opened params visible heads (named name (written_all args)) ≡ applied heads params name.name
      (sense_of opened params visible heads name.name)
      (map (λ t. record {
        as_type = judged opened params visible heads (written t);
        as_region =
            region_judged opened params visible heads (written t);
      }) args)
  unfolding judged
  named_judged name args = ap (applied heads params name.name
      (sense_of opened params visible heads name.name)) (given_is args)

  pub reference_judged : (at : Pos) (kind : Access) (target : WrittenType) (region : Placed (List ℕ)) →
      judged opened params visible heads (reference at kind target region) ≡ in_order (refers kind)
      (judged opened params visible heads target)
      (region_named region.name (sense_of opened params visible heads region.name))
  unfolding judged
  reference_judged at kind target region = refl

  -- a reference whose type means something
  pub reference_is : (node : TypeText) (at : Pos) (kind : Access) (target : Box TypeText Global)
      (inner : TypeText) (region : TypeName) (t : Meaning) →
      node ≡ Reference at kind target region → inner ≡ target.value → means t ≡ judged opened params visible
      heads (written inner) →
      kept (refers kind t) (region_named region.name (sense_of opened params visible heads region.name))
      ≡ judged opened params visible heads (written node)
  reference_is node at kind target inner region t is inside type_is =
      sym (ap (λ n. judged opened params visible heads (written n)) is
      ∙ ap (judged opened params visible heads) (reference_written at kind target region)
      ∙ reference_judged at kind (written target.value) (type_name region)
      ∙ ap (λ o. in_order (refers kind) o (region_named region.name (sense_of opened params visible heads region.name)))
      (ap (λ n. judged opened params visible heads (written n)) (sym inside) ∙ sym type_is))

  -- ---- arguments that were judged stand for the type parameters

  all_stand : (all : Arguments) → all_formed (fits heads params) heads params all ≡ true →
      all_formed fits_in_kind heads params all ≡ true
  unfolding all_formed argument_formed
  all_stand mean.no_arguments formed = refl
  all_stand (mean.arguments (mean.of_type t) rest) formed =
      let parts = and_parts (is_formed (fits heads params) heads params t)
      (all_formed (fits heads params) heads params rest) formed in
      and_from (is_formed fits_in_kind heads params t) (all_formed fits_in_kind heads params rest)
      (well_formed_stands heads params t parts.0) (all_stand rest parts.1)
  all_stand (mean.arguments (mean.in_region region) rest) formed = all_stand rest formed

  given_agree : (args : List TypeText) →
      Agree heads params (map given args)
      (map (λ t. record {
        as_type = meant.meant opened params visible heads (written t);
        as_region =
            meant.region_meant opened params visible heads (written t);
      }) args)
  given_agree [] = tt
  given_agree (t ∷ rest) = (
    judged_agrees heads params opened visible (written t),
    region_agrees heads params opened visible (written t),
    given_agree rest,
  )

  pub stand_for : (expected : List Parameter) (args : List TypeText) (all : Arguments) →
      length args ≡ length expected → means all ≡ arguments_judged expected (map given args) →
      StandFor heads params expected all
  stand_for expected args all lengths is =
      let equal : length (map given args) ≡ length expected = length-map args given ∙ lengths in
      and_from (all_fit fits_in_kind expected all) (all_formed fits_in_kind heads params all)
      (arguments_kinds expected (map given args) all equal (sym is))
      (all_stand all (all_formed_of heads params expected (map given args)
      (map (λ t. record {
        as_type = meant.meant opened params visible heads (written t);
        as_region =
            meant.region_meant opened params visible heads (written t);
      }) args) all equal (given_agree args)
      (sym is)))

pub ruleset judged_steps = (named_judged, reference_judged)
