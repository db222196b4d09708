-- Arguments of the kinds that are wanted fit in universe exactly where none of them has a reason against it.
use Rattle.std.proofs.Common.{◌≡◌, List, [], ◌∷◌, length, Bool, true, false, Option, None, Some, refl, ap, ◌∙◌}
use Rattle.std.specs.Prelude.{◌&&◌, if◌then◌else◌}
use Rattle.std.specs.Option.{option_or}
use Rattle.std.proofs.lemmas.Bool.{and_from, and_parts}
use Rattle.au_syntax.specs.declared.declarations.Universe.{Universe}
use Rattle.au_syntax.specs.declared.declarations.Universe.TheVariants as universes
use Rattle.au_types.specs.declared.headings.Head.{Head}
use Rattle.au_types.specs.declared.parameters.Parameter.{Parameter}
use Rattle.au_types.specs.declared.types.DeclAt.{DeclAt}
use Rattle.au_types.specs.declared.types.Region.{Region}
use Rattle.au_types.specs.Types as mean
use Rattle.au_types.specs.Types.{Meaning, Argument, Arguments}
use Rattle.au_matching.specs.Forming.{all_fit, fits, fits_in_kind}
use Rattle.au_matching.specs.Universes.{is_free, is_linear, universe_of}
use Rattle.au_judged_types.specs.Judging.{Given, argument_judged, arguments_judged, first_unfit, unfit}
use Rattle.au_judged_types.specs.Reasons.{Reason, not_free, linear_wanted, Outcome, means, fails, kept, in_order}

-- whether there is no reason
abbrev pub lets : Option Reason → Bool
lets None = true
lets (Some why) = false

lets_if : (b : Bool) (why : Reason) → lets (if b then None else Some why) ≡ b
lets_if true why = refl
lets_if false why = refl

lets_or : (one other : Option Reason) → lets (option_or one other) ≡ (lets one && lets other)
lets_or None other = refl
lets_or (Some why) other = refl

module _ (heads : List (DeclAt × Head)) (params : List Parameter) where
  unfit_lets : (universe : Universe) (one : Argument) → fits_in_kind universe one ≡ true →
      lets (unfit heads params universe one) ≡ fits heads params universe one
  unfit_lets universes.Free (mean.of_type t) kind = lets_if (is_free (universe_of heads params t)) (not_free t)
  unfit_lets universes.Linear (mean.of_type t) kind = lets_if (is_linear (universe_of heads params t)) linear_wanted
  unfit_lets universes.AnyType (mean.of_type t) kind = refl
  unfit_lets universes.Region (mean.of_type t) kind = absurd cc
  unfit_lets universes.Free (mean.in_region region) kind = absurd cc
  unfit_lets universes.Linear (mean.in_region region) kind = absurd cc
  unfit_lets universes.AnyType (mean.in_region region) kind = absurd cc
  unfit_lets universes.Region (mean.in_region region) kind = refl

  pub first_unfit_lets : (expected : List Parameter) (args : Arguments) → all_fit fits_in_kind expected args
      ≡ true → lets (first_unfit heads params expected args) ≡ all_fit (fits heads params) expected args
  first_unfit_lets [] mean.no_arguments kinds = refl
  first_unfit_lets [] (mean.arguments first rest) kinds = absurd cc
  first_unfit_lets (one ∷ others) mean.no_arguments kinds = absurd cc
  first_unfit_lets (one ∷ others) (mean.arguments first rest) kinds =
      let parts = and_parts (fits_in_kind one.universe first) (all_fit fits_in_kind others rest) kinds in
      lets_or (unfit heads params one.universe first) (first_unfit heads params others rest)
      ∙ ap (λ b. b && lets (first_unfit heads params others rest)) (unfit_lets one.universe first parts.0)
      ∙ ap (λ b. fits heads params one.universe first && b) (first_unfit_lets others rest parts.1)

-- ---- arguments that were judged are of the kinds that are wanted

type_kind : (universe : Universe) → ((t : Meaning) → fits_in_kind universe (mean.of_type t) ≡ true) →
    (found : Outcome Meaning) (one : Argument) → kept mean.of_type found ≡ means one → fits_in_kind universe one
    ≡ true
type_kind universe kind (means t) one is =
    let same : one ≡ mean.of_type t = cc in
    ap (fits_in_kind universe) same ∙ kind t
type_kind universe kind (fails why) one is = absurd cc

region_kind : (found : Outcome Region) (one : Argument) → kept mean.in_region found ≡ means one →
    fits_in_kind universes.Region one ≡ true
region_kind (means region) one is =
    let same : one ≡ mean.in_region region = cc in
    ap (fits_in_kind universes.Region) same
region_kind (fails why) one is = absurd cc

argument_kind : (universe : Universe) (given : Given) (one : Argument) → argument_judged universe given
    ≡ means one → fits_in_kind universe one ≡ true
argument_kind universes.Free given one is = type_kind universes.Free (λ t. refl) given.as_type one is
argument_kind universes.Linear given one is = type_kind universes.Linear (λ t. refl) given.as_type one is
argument_kind universes.AnyType given one is = type_kind universes.AnyType (λ t. refl) given.as_type one is
argument_kind universes.Region given one is = region_kind given.as_region one is

order_kinds : (one : Parameter) (others : List Parameter) (first : Outcome Argument)
    (rest : Outcome Arguments) (all : Arguments) → in_order mean.arguments first rest ≡ means all →
    ((x : Argument) → first ≡ means x → fits_in_kind one.universe x ≡ true) →
    ((xs : Arguments) → rest ≡ means xs → all_fit fits_in_kind others xs ≡ true) →
    all_fit fits_in_kind (one ∷ others) all ≡ true
order_kinds one others (means x) (means xs) all is kind kinds =
    let same : all ≡ mean.arguments x xs = cc in
    ap (all_fit fits_in_kind (one ∷ others)) same
    ∙ and_from (fits_in_kind one.universe x) (all_fit fits_in_kind others xs) (kind x refl) (kinds xs refl)
order_kinds one others (means x) (fails why) all is kind kinds = absurd cc
order_kinds one others (fails why) rest all is kind kinds = absurd cc

pub arguments_kinds : (expected : List Parameter) (args : List Given) (all : Arguments) →
    length args ≡ length expected → arguments_judged expected args ≡ means all →
    all_fit fits_in_kind expected all ≡ true
arguments_kinds [] [] all lengths is =
    let same : all ≡ mean.no_arguments = cc in
    ap (all_fit fits_in_kind []) same
arguments_kinds [] (first ∷ rest) all lengths is = absurd cc
arguments_kinds (one ∷ others) [] all lengths is = absurd cc
arguments_kinds (one ∷ others) (first ∷ rest) all lengths is =
    let shorter : length rest ≡ length others = cc in
    order_kinds one others (argument_judged one.universe first) (arguments_judged others rest) all is
    (argument_kind one.universe first) (λ xs rest_is. arguments_kinds others rest xs shorter rest_is)
