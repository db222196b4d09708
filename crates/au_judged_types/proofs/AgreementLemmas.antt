-- What is judged to mean something is what is meant and well formed.
use Rattle.std.proofs.Common.{◌≡◌, inl, inr, List, [], ◌∷◌, length, suc, Bool, true, false, Option, None}
use Rattle.std.proofs.Common.{Some, refl, sym, ap, ◌∙◌}
use Rattle.std.specs.Prelude.{◌&&◌, ◌↔◌, if◌then◌else◌}
use Rattle.std.specs.Option.{option_map}
use Rattle.std.proofs.lemmas.Bool.Decides.{eqb_tells}
use Rattle.au_base.specs.declared.kinds.IntKind.TheVariants as kinds
use Rattle.au_base.proofs.BoolLemmas.{and_true, and_false}
use Rattle.au_syntax.specs.declared.declarations.Universe.{Universe}
use Rattle.au_syntax.specs.declared.declarations.Universe.TheVariants as universes
use Rattle.au_syntax.specs.declared.types.Access.{Access}
use Rattle.au_syntax.specs.declared.types.Access.TheVariants as access
use Rattle.au_syntax.specs.Plain.{Bytes}
use Rattle.au_syntax.specs.Types.{WrittenType, WrittenTypes, named, reference, no_types, types}
use Rattle.au_types.specs.declared.headings.Head.{Head}
use Rattle.au_types.specs.declared.parameters.Parameter.{Parameter}
use Rattle.au_types.specs.declared.types.DeclAt.{DeclAt}
use Rattle.au_types.specs.declared.types.Region.{Region}
use Rattle.au_types.specs.declared.types.Region.TheVariants as regions
use Rattle.au_types.specs.Rows.{head_of}
use Rattle.au_types.specs.Same.{same, same_region}
use Rattle.au_types.specs.Types as mean
use Rattle.au_types.specs.Types.{Meaning, Argument, Arguments}
use Rattle.au_matching.specs.Forming.{IsWellFormed, all_fit, fit_row, fits, fits_in_kind, is_formed}
use Rattle.au_matching.specs.Forming.{argument_formed, all_formed}
use Rattle.au_types.specs.Meant as meant
use Rattle.au_types.specs.Meant.{followed, region_of, region_meant, arguments_meant, argument_meant}
use Rattle.au_types.specs.Meant.{all_given as all_meant, applied as applied_meant, meant as type_meant}
use Rattle.au_types.specs.Senses.{Sense, a_type, a_span, a_region, declared, a_class, sense_of}
use Rattle.au_types.proofs.MeantLemmas.{followed_none}
use Rattle.au_judged_types.specs.Agreement.{found, only_formed}
use Rattle.au_judged_types.specs.Judging.{Given, alone, all_given, applied, argument_judged, arguments_judged}
use Rattle.au_judged_types.specs.Judging.{declared_judged, first_unfit, fitted, judged, refers, region_judged}
use Rattle.au_judged_types.specs.Judging.{region_named, region_with, span_of, span_with}
use Rattle.au_judged_types.specs.Reasons.{Reason, number_wanted, Outcome, means, fails, kept, in_order, unless}
use Rattle.au_judged_types.proofs.SenseLemmas.{Good, sense_good}
use Rattle.au_judged_types.proofs.UnfitLemmas.{lets, first_unfit_lets, arguments_kinds}

-- ---- outcomes

module _ {A : Type 0} where
  -- what is kept where a test holds
  only_some : (b : Bool) (x y : A) → Some x ≡ (if b then Some y else None) → (b ≡ true) × (x ≡ y)
  only_some true x y is = (refl, cc)
  only_some false x y is = absurd cc

  only_none : (b : Bool) (y : A) → None ≡ (if b then Some y else None) → b ≡ false
  only_none true y is = absurd cc
  only_none false y is = refl

  pub found_means : (one : Outcome A) (x : A) → found one ≡ Some x → one ≡ means x
  found_means (means y) x is = ap means (cc)
  found_means (fails why) x is = absurd cc

found_kept : {A B : Type 0} (f : A → B) (one : Outcome A) → found (kept f one) ≡ option_map f (found one)
found_kept f (means x) = refl
found_kept f (fails why) = refl

found_order : (first : Outcome Argument) (rest : Outcome Arguments) →
    found (in_order mean.arguments first rest) ≡ followed (found first) (found rest)
found_order (means x) (means xs) = refl
found_order (means x) (fails why) = refl
found_order (fails why) rest = refl

found_unless : {A : Type 0} (why : Option Reason) (x : A) → found (unless why x) ≡ (if lets why then Some x else None)
found_unless None x = refl
found_unless (Some why) x = refl

-- ---- regions

region_found : (name : Bytes) (sense : Option Sense) → found (region_named name sense) ≡ region_of sense
region_found name None = refl
region_found name (Some (a_type t)) = refl
region_found name (Some a_span) = refl
region_found name (Some (a_region region)) = refl
region_found name (Some (declared at expected)) = refl
region_found name (Some (a_class at)) = refl

more_found : (region : Outcome Region) (t : WrittenType) (rest : WrittenTypes) →
    found (region_with region (types t rest)) ≡ None
more_found (means region) t rest = refl
more_found (fails why) t rest = refl

module _ (heads : List (DeclAt × Head)) (params : List Parameter) where
  abbrev formed : Meaning → Bool
  formed t = is_formed (fits heads params) heads params t

  abbrev only_argument : Option Argument → Option Argument
  only_argument None = None
  only_argument (Some one) = if argument_formed (fits heads params) heads params one then Some one else None

  abbrev only_all : Option Arguments → Option Arguments
  only_all None = None
  only_all (Some all) = if all_formed (fits heads params) heads params all then Some all else None

  -- what is found where a type is wanted, and where a region is
  abbrev pub Agree : List Given → List meant.Given → Type 0
  Agree [] [] = Unit {0}
  Agree (one ∷ rest) (other ∷ others) = (found one.as_type ≡ only_formed heads params other.as_type)
      × (found one.as_region ≡ other.as_region) × Agree rest others
  Agree args others = ⊥

  -- ---- `Span`

  span_if : (b : Bool) → found (if b then means mean.text else fails (number_wanted 2)) ≡ only_formed heads
      params (if b then Some mean.text else None)
  unfolding is_formed
  span_if true = refl
  span_if false = refl

  no_byte : (t : Meaning) → formed t ≡ false → same t (mean.integer kinds.Nat8) ≡ false
  unfolding is_formed
  no_byte mean.unit unformed = absurd cc
  no_byte mean.truth unformed = absurd cc
  no_byte (mean.integer kind) unformed = absurd cc
  no_byte mean.text unformed = absurd cc
  no_byte (mean.parameter name) unformed = refl
  no_byte (mean.named at args) unformed = refl
  no_byte (mean.reads t region) unformed = refl
  no_byte (mean.writes t region) unformed = refl

  span_found : (one : Outcome Meaning) (other : Option Meaning) (region : Outcome Region) →
      found one ≡ only_formed heads params other → found (span_of one region) ≡ only_formed heads params
      (meant.span_of other (found region))
  span_found (means t) None region is = absurd cc
  span_found (means t) (Some u) (means region) is =
      ap (λ x. found (if same x (mean.integer kinds.Nat8) && same_region region regions.Static then means
      mean.text else fails (number_wanted 2))) (only_some (formed u) t u is).1
      ∙ span_if (same u (mean.integer kinds.Nat8) && same_region region regions.Static)
  span_found (means t) (Some u) (fails why) is = refl
  span_found (fails why) None region is = refl
  span_found (fails why) (Some u) (means region) is =
      sym (ap (λ b. only_formed heads params
      (if b && same_region region regions.Static then Some mean.text else None))
      (no_byte u (only_none (formed u) u is)))
  span_found (fails why) (Some u) (fails other) is = refl

  spans_found : (args : List Given) (others : List meant.Given) → Agree args others → found (span_with args)
      ≡ only_formed heads params (meant.span_with others)
  spans_found [] [] agree = refl
  spans_found [] (other ∷ others) agree = absurd agree
  spans_found (one ∷ rest) [] agree = absurd agree
  spans_found (t ∷ []) (u ∷ []) agree = refl
  spans_found (t ∷ []) (u ∷ other ∷ others) agree = absurd agree.2
  spans_found (t ∷ one ∷ rest) (u ∷ []) agree = absurd agree.2
  spans_found (t ∷ region ∷ []) (u ∷ other ∷ []) agree =
      span_found t.as_type u.as_type region.as_region agree.0
      ∙ ap (λ r. only_formed heads params (meant.span_of u.as_type r)) agree.2.1
  spans_found (t ∷ region ∷ []) (u ∷ other ∷ more ∷ others) agree = absurd agree.2.2
  spans_found (t ∷ region ∷ one ∷ rest) (u ∷ other ∷ []) agree = absurd agree.2.2
  spans_found (t ∷ region ∷ one ∷ rest) (u ∷ other ∷ more ∷ others) agree = refl

  -- ---- arguments

  map_if : (b : Bool) (u : Meaning) → option_map mean.of_type (if b then Some u else None)
      ≡ (if b then Some (mean.of_type u) else None)
  map_if true u = refl
  map_if false u = refl

  of_type_only : (other : Option Meaning) → option_map mean.of_type (only_formed heads params other)
      ≡ only_argument (option_map mean.of_type other)
  unfolding argument_formed
  of_type_only None = refl
  of_type_only (Some u) = map_if (formed u) u

  in_region_only : (other : Option Region) → option_map mean.in_region other
      ≡ only_argument (option_map mean.in_region other)
  unfolding argument_formed
  in_region_only None = refl
  in_region_only (Some region) = refl

  type_found : (one : Outcome Meaning) (other : Option Meaning) → found one ≡ only_formed heads params other →
      found (kept mean.of_type one) ≡ only_argument (option_map mean.of_type other)
  type_found one other is = found_kept mean.of_type one ∙ ap (option_map mean.of_type) is ∙ of_type_only other

  argument_found : (universe : Universe) (one : Given) (other : meant.Given) →
      found one.as_type ≡ only_formed heads params other.as_type → found one.as_region ≡ other.as_region →
      found (argument_judged universe one) ≡ only_argument (argument_meant universe other)
  argument_found universes.Free one other type_is region_is = type_found one.as_type other.as_type type_is
  argument_found universes.Linear one other type_is region_is = type_found one.as_type other.as_type type_is
  argument_found universes.AnyType one other type_is region_is = type_found one.as_type other.as_type type_is
  argument_found universes.Region one other type_is region_is =
      found_kept mean.in_region one.as_region
      ∙ ap (option_map mean.in_region) region_is
      ∙ in_region_only other.as_region

  follow_if : (b c : Bool) (x : Argument) (xs : Arguments) → followed (if b then Some x else None)
      (if c then Some xs else None) ≡ (if b && c then Some (mean.arguments x xs) else None)
  follow_if true true x xs = refl
  follow_if true false x xs = refl
  follow_if false c x xs = refl

  follow_none : (b : Bool) (x : Argument) → followed (if b then Some x else None) None ≡ None
  follow_none true x = refl
  follow_none false x = refl

  follow_only : (one : Option Argument) (rest : Option Arguments) →
      followed (only_argument one) (only_all rest) ≡ only_all (followed one rest)
  unfolding all_formed
  follow_only None rest = refl
  follow_only (Some x) None = follow_none (argument_formed (fits heads params) heads params x) x
  follow_only (Some x) (Some xs) = follow_if (argument_formed (fits heads params) heads params x)
      (all_formed (fits heads params) heads params xs) x xs

  empty_only : Some mean.no_arguments ≡ only_all (Some mean.no_arguments)
  unfolding all_formed
  empty_only = refl

  pub arguments_found : (expected : List Parameter) (args : List Given) (others : List meant.Given) →
      length args ≡ length expected → Agree args others → found (arguments_judged expected args)
      ≡ only_all (arguments_meant expected others)
  arguments_found [] [] [] lengths agree = empty_only
  arguments_found expected [] (other ∷ more) lengths agree = absurd agree
  arguments_found expected (one ∷ rest) [] lengths agree = absurd agree
  arguments_found [] (one ∷ rest) (other ∷ more) lengths agree = absurd cc
  arguments_found (first ∷ expected) [] [] lengths agree = absurd cc
  arguments_found (first ∷ expected) (one ∷ rest) (other ∷ more) lengths agree =
      let shorter : length rest ≡ length expected = cc in
      found_order (argument_judged first.universe one) (arguments_judged expected rest)
      ∙ ap (λ x. followed x (found (arguments_judged expected rest)))
      (argument_found first.universe one other agree.0 agree.1)
      ∙ ap (followed (only_argument (argument_meant first.universe other)))
      (arguments_found expected rest more shorter agree.2)
      ∙ follow_only (argument_meant first.universe other) (arguments_meant expected more)

  all_only : (other : Option Arguments) (all : Arguments) → Some all ≡ only_all other →
      all_formed (fits heads params) heads params all ≡ true
  all_only None all is = absurd cc
  all_only (Some others) all is =
      let both = only_some (all_formed (fits heads params) heads params others) all others is in
      ap (all_formed (fits heads params) heads params) both.1 ∙ both.0

  -- arguments that were judged are formed
  pub all_formed_of : (expected : List Parameter) (args : List Given) (others : List meant.Given)
      (all : Arguments) → length args ≡ length expected → Agree args others → arguments_judged expected args
      ≡ means all →
      all_formed (fits heads params) heads params all ≡ true
  all_formed_of expected args others all lengths agree is =
      all_only (arguments_meant expected others) all
      (sym (ap found is) ∙ arguments_found expected args others lengths agree)

  unequal_meant : (expected : List Parameter) (args : List Given) (others : List meant.Given) →
      (length args ≡ length expected → ⊥) → Agree args others → arguments_meant expected others ≡ None
  unequal_meant [] [] [] unequal agree = absurd (unequal refl)
  unequal_meant expected [] (other ∷ more) unequal agree = absurd agree
  unequal_meant expected (one ∷ rest) [] unequal agree = absurd agree
  unequal_meant [] (one ∷ rest) (other ∷ more) unequal agree = refl
  unequal_meant (first ∷ expected) [] [] unequal agree = refl
  unequal_meant (first ∷ expected) (one ∷ rest) (other ∷ more) unequal agree =
      ap (followed (argument_meant first.universe other))
      (unequal_meant expected rest more (λ e. unequal (ap suc e)) agree.2)
      ∙ followed_none (argument_meant first.universe other)

  -- ---- declared types

  named_formed : (at : DeclAt) (all : Arguments) → formed (mean.named at all)
      ≡ (fit_row (fits heads params) (head_of heads at) all && all_formed (fits heads params) heads params all)
  unfolding is_formed
  named_formed at all = refl

  fitted_found : (at : DeclAt) (expected : List Parameter) → Good heads params (Some (declared at expected)) →
      (one : Outcome Arguments) (other : Option Arguments) → found one ≡ only_all other →
      ((all : Arguments) → one ≡ means all → all_fit fits_in_kind expected all ≡ true) →
      found (fitted heads params at expected one) ≡ only_formed heads params (option_map (mean.named at) other)
  fitted_found at expected good (means all) None is kinds = absurd cc
  fitted_found at expected good (means all) (Some others) is kinds =
      let both = only_some (all_formed (fits heads params) heads params others) all others is in
      found_unless (first_unfit heads params expected all) (mean.named at all)
      ∙ ap (λ b. if b then Some (mean.named at all) else None)
      (first_unfit_lets heads params expected all (kinds all refl) ∙ sym (good all))
      ∙ ap (λ xs. if fit_row (fits heads params) (head_of heads at) xs then Some (mean.named at xs) else None) both.1
      ∙ sym (ap (λ b. if b then Some (mean.named at others) else None)
      (named_formed at others ∙ ap (λ b. fit_row (fits heads params) (head_of heads at) others && b) both.0
      ∙ and_true (fit_row (fits heads params) (head_of heads at) others)))
  fitted_found at expected good (fails why) None is kinds = refl
  fitted_found at expected good (fails why) (Some others) is kinds =
      let none = only_none (all_formed (fits heads params) heads params others) others is in
      sym (ap (λ b. if b then Some (mean.named at others) else None)
      (named_formed at others ∙ ap (λ b. fit_row (fits heads params) (head_of heads at) others && b) none
      ∙ and_false (fit_row (fits heads params) (head_of heads at) others)))

  declared_found : (at : DeclAt) (expected : List Parameter) →
      Good heads params (Some (declared at expected)) → (args : List Given) (others : List meant.Given) →
      Agree args others →
      found (declared_judged heads params at expected args) ≡ only_formed heads params
      (option_map (mean.named at) (arguments_meant expected others))
  declared_found at expected good args others agree =
      elim (eqb_tells (length args) (length expected)) [
        | inl equal ↦
            ap (λ b. found (if b then fitted heads params at expected (arguments_judged expected args) else
            fails (number_wanted (length expected)))) equal.0
            ∙ fitted_found at expected good (arguments_judged expected args) (arguments_meant expected others)
            (arguments_found expected args others equal.1 agree)
            (λ all is. arguments_kinds expected args all equal.1 is)
        | inr unequal ↦
            ap (λ b. found (if b then fitted heads params at expected (arguments_judged expected args) else
            fails (number_wanted (length expected)))) unequal.0
            ∙ sym (ap (λ o. only_formed heads params (option_map (mean.named at) o))
            (unequal_meant expected args others unequal.1 agree))
      ]

  -- ---- names and references

  alone_found : (t : Meaning) → formed t ≡ true → (args : List Given) (others : List meant.Given) →
      Agree args others → found (alone t args) ≡ only_formed heads params (meant.alone t others)
  alone_found t good [] [] agree = sym (ap (λ b. if b then Some t else None) good)
  alone_found t good [] (other ∷ others) agree = absurd agree
  alone_found t good (one ∷ rest) [] agree = absurd agree
  alone_found t good (one ∷ rest) (other ∷ others) agree = refl

  applied_found : (name : Bytes) (sense : Option Sense) → Good heads params sense →
      (args : List Given) (others : List meant.Given) → Agree args others →
      found (applied heads params name sense args) ≡ only_formed heads params (applied_meant sense others)
  applied_found name None good args others agree = refl
  applied_found name (Some (a_type t)) good args others agree = alone_found t good args others agree
  applied_found name (Some a_span) good args others agree = spans_found args others agree
  applied_found name (Some (a_region region)) good args others agree = refl
  applied_found name (Some (declared at expected)) good args others agree =
      declared_found at expected good args others agree
  applied_found name (Some (a_class at)) good args others agree = refl

  refers_found : (kind : Access) (one : Outcome Meaning) (other : Option Meaning) (region : Outcome Region) →
      found one ≡ only_formed heads params other →
      found (in_order (refers kind) one region) ≡ only_formed heads params (meant.refers kind other (found region))
  unfolding is_formed
  refers_found kind (means t) None region is = absurd cc
  refers_found access.Read (means t) (Some u) (means region) is =
      let both = only_some (formed u) t u is in
      ap (λ x. Some (mean.reads x region)) both.1
      ∙ sym (ap (λ b. if b then Some (mean.reads u region) else None) both.0)
  refers_found access.Write (means t) (Some u) (means region) is =
      let both = only_some (formed u) t u is in
      ap (λ x. Some (mean.writes x region)) both.1
      ∙ sym (ap (λ b. if b then Some (mean.writes u region) else None) both.0)
  refers_found access.Read (means t) (Some u) (fails why) is = refl
  refers_found access.Write (means t) (Some u) (fails why) is = refl
  refers_found access.Read (fails why) None region is = refl
  refers_found access.Write (fails why) None region is = refl
  refers_found access.Read (fails why) (Some u) (means region) is =
      sym (ap (λ b. if b then Some (mean.reads u region) else None) (only_none (formed u) u is))
  refers_found access.Write (fails why) (Some u) (means region) is =
      sym (ap (λ b. if b then Some (mean.writes u region) else None) (only_none (formed u) u is))
  refers_found access.Read (fails why) (Some u) (fails other) is = refl
  refers_found access.Write (fails why) (Some u) (fails other) is = refl

  -- ---- written types

  module _ (opened : List Bytes) (visible : List (Bytes × DeclAt)) where
    pub region_agrees : (t : WrittenType) → found (region_judged opened params visible heads t)
        ≡ region_meant opened params visible heads t
    region_agrees (named name no_types) = region_found name.name (sense_of opened params visible heads name.name)
    region_agrees (named name (types t rest)) =
        more_found (region_named name.name (sense_of opened params visible heads name.name)) t rest
    region_agrees (reference at kind target region) = refl

    mutual
      unfolding judged all_given type_meant all_meant

      pub judged_agrees : (t : WrittenType) → found (judged opened params visible heads t) ≡ only_formed heads
          params (type_meant opened params visible heads t)
      judged_agrees (named name args) =
          applied_found name.name (sense_of opened params visible heads name.name)
          (sense_good heads params opened visible name.name) (all_given opened params visible heads args)
          (all_meant opened params visible heads args) (all_agree args)
      judged_agrees (reference at kind target region) =
          refers_found kind (judged opened params visible heads target)
          (type_meant opened params visible heads target)
          (region_named region.name (sense_of opened params visible heads region.name))
          (judged_agrees target)
          ∙ ap (λ r. only_formed heads params
          (meant.refers kind (type_meant opened params visible heads target) r))
          (region_found region.name (sense_of opened params visible heads region.name))

      pub all_agree : (args : WrittenTypes) → Agree (all_given opened params visible heads args)
          (all_meant opened params visible heads args)
      all_agree no_types = tt
      all_agree (types t rest) = (judged_agrees t, region_agrees t, all_agree rest)

    -- ---- the laws

    only_is : (other : Option Meaning) (t : Meaning) → Some t ≡ only_formed heads params other →
        (other ≡ Some t) × IsWellFormed heads params t
    only_is None t is = absurd cc
    only_is (Some u) t is =
        let both = only_some (formed u) t u is in
        (ap Some (sym both.1), ap formed both.1 ∙ both.0)

    pub judged_is_meant : (w : WrittenType) (t : Meaning) → judged opened params visible heads w ≡ means t →
        (type_meant opened params visible heads w ≡ Some t) × IsWellFormed heads params t
    judged_is_meant w t is = only_is (type_meant opened params visible heads w) t (sym (ap found is) ∙ judged_agrees w)

    pub meant_is_judged : (w : WrittenType) (t : Meaning) → type_meant opened params visible heads w
        ≡ Some t → IsWellFormed heads params t → judged opened params visible heads w ≡ means t
    meant_is_judged w t is good =
        found_means (judged opened params visible heads w) t
        (judged_agrees w ∙ ap (only_formed heads params) is ∙ ap (λ b. if b then Some t else None) good)

    pub region_is_meant : (w : WrittenType) (r : Region) →
        (region_judged opened params visible heads w ≡ means r) ↔
        (region_meant opened params visible heads w ≡ Some r)
    region_is_meant w r = (
      λ h. sym (region_agrees w) ∙ ap found h,
      λ h. found_means (region_judged opened params visible heads w) r (region_agrees w ∙ h),
    )
