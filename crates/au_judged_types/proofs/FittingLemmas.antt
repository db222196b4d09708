-- The reasons against arguments, one argument after the other.
use Rattle.std.proofs.Common.{◌≡◌, ℕ, ◌+◌, ◌<◌, ◌≤◌, List, [], ◌∷◌, length, drop, get_or, suc, true, Option}
use Rattle.std.proofs.Common.{None, Some, refl, sym, ap, subst, ◌∙◌}
use Rattle.std.specs.Prelude.{slice_get}
use Rattle.std.specs.Option.{option_or}
use Rattle.std.proofs.lemmas.Bool.{and_from, and_parts}
use Rattle.std.proofs.lemmas.List.{drop_more, drop_all}
use Rattle.au_base.proofs.ListLemmas.{drop_at}
use Rattle.au_syntax.specs.declared.declarations.Universe.{Universe}
use Rattle.au_syntax.specs.declared.declarations.Universe.TheVariants as universes
use Rattle.au_types.specs.declared.headings.Head.{Head}
use Rattle.au_types.specs.declared.parameters.Parameter.{Parameter}
use Rattle.au_types.proofs.TypeLemmas.{type_argument_means}
use Rattle.au_types.specs.declared.types.Arg.{Arg, Of}
use Rattle.au_types.specs.declared.types.Ty.{Ty}
use Rattle.au_types.specs.declared.types.DeclAt.{DeclAt}
use Rattle.au_types.specs.declared.types.Region.{Region}
use Rattle.au_types.specs.Types as mean
use Rattle.au_types.specs.Types.{Meaning, Argument, Arguments}
use Rattle.au_types.specs.Views.{argument, argument_all, meaning}
use Rattle.au_matching.specs.Forming.{ArgumentStandsOver, StandsOver, all_fit, all_formed, argument_formed}
use Rattle.au_matching.specs.Forming.{fits_in_kind}
use Rattle.au_judged_types.specs.Judging.{first_unfit, unfit}
use Rattle.au_judged_types.specs.Reasons.{Reason}
use Rattle.au_judged_types.specs.Standing.{StandFor}

fit_lengths : (expected : List Parameter) (args : List Arg) →
    all_fit fits_in_kind expected (argument_all args) ≡ true → length args ≡ length expected
fit_lengths [] [] fit = refl
fit_lengths [] (first ∷ rest) fit = absurd cc
fit_lengths (one ∷ others) [] fit = absurd cc
fit_lengths (one ∷ others) (first ∷ rest) fit =
    ap suc (fit_lengths others rest
    (and_parts (fits_in_kind one.universe (argument first)) (all_fit fits_in_kind others (argument_all rest))
    fit).1)

module _ (heads : List (DeclAt × Head)) (params : List Parameter) where
  pub stand_lengths : (expected : List Parameter) (args : List Arg) →
      StandFor heads params expected (argument_all args) → length args ≡ length expected
  stand_lengths expected args stand =
      fit_lengths expected args (and_parts (all_fit fits_in_kind expected (argument_all args))
      (all_formed fits_in_kind heads params (argument_all args)) stand).0

  formed_first : (one : Arg) (rest : List Arg) → all_formed fits_in_kind heads params
      (argument_all (one ∷ rest)) ≡ true → (argument_formed fits_in_kind heads params (argument one) ≡ true)
      × (all_formed fits_in_kind heads params (argument_all rest) ≡ true)
  unfolding all_formed
  formed_first one rest formed = and_parts (argument_formed fits_in_kind heads params (argument one))
      (all_formed fits_in_kind heads params (argument_all rest)) formed

  -- an argument that is formed stands over the rows
  pub argument_stands : (one : Argument) → argument_formed fits_in_kind heads params one ≡ true →
      ArgumentStandsOver heads params one
  unfolding argument_formed
  argument_stands (mean.of_type t) formed = formed
  argument_stands (mean.in_region region) formed = tt

  -- the first argument stands over the rows, and the others stand for the other type parameters
  stand_parts : (one : Parameter) (others : List Parameter) (first : Arg) (rest : List Arg) →
      StandFor heads params (one ∷ others) (argument_all (first ∷ rest)) →
      ArgumentStandsOver heads params (argument first) × StandFor heads params others (argument_all rest)
  stand_parts one others first rest stand =
      let both = and_parts (all_fit fits_in_kind (one ∷ others) (argument_all (first ∷ rest)))
      (all_formed fits_in_kind heads params (argument_all (first ∷ rest))) stand in
      let fit = and_parts (fits_in_kind one.universe (argument first))
      (all_fit fits_in_kind others (argument_all rest)) both.0 in
      let formed = formed_first first rest both.1 in (
        argument_stands (argument first) formed.0,
        and_from (all_fit fits_in_kind others (argument_all rest))
            (all_formed fits_in_kind heads params (argument_all rest)) fit.1 formed.1,
      )

  -- what is left begins with what stands at the index
  args_left : (args items : List Arg) (i : ℕ) (item : Arg) → items ≡ args → i < length items →
      item ≡ get_or items i item → drop i args ≡ item ∷ drop (i + 1) args
  args_left args items i item same inside is =
      let within : i < length args = subst (λ xs. i < length xs) same inside in
      let here : get_or args i item ≡ item = sym (is ∙ ap (λ xs. get_or xs i item) same) in
      drop_more args i item within ∙ ap (λ x. x ∷ drop (i + 1) args) here

  pub step_parts : (expected : List Parameter) (args items : List Arg) (i : ℕ) (one : Parameter)
      (item : Arg) → StandFor heads params (drop i expected) (argument_all (drop i args)) →
      slice_get expected i ≡ Some one → items ≡ args → i < length items → item ≡ get_or items i item →
      ArgumentStandsOver heads params (argument item) × StandFor heads params (drop (i + 1) expected)
      (argument_all (drop (i + 1) args))
  step_parts expected args items i one item stand stands same inside is =
      let at_args : StandFor heads params (drop i expected) (argument_all (item ∷ drop (i + 1) args)) =
      subst (λ xs. StandFor heads params (drop i expected) (argument_all xs))
      (args_left args items i item same inside is) stand in
      let at_both : StandFor heads params (one ∷ drop (i + 1) expected)
      (argument_all (item ∷ drop (i + 1) args)) =
      subst (λ ps. StandFor heads params ps (argument_all (item ∷ drop (i + 1) args)))
      (drop_at expected i one stands) at_args in
      stand_parts one (drop (i + 1) expected) item (drop (i + 1) args) at_both

  pub step_unfit : (expected : List Parameter) (args items : List Arg) (i : ℕ) (one : Parameter) (item : Arg)
      (why : Option Reason) →
      first_unfit heads params expected (argument_all args) ≡ first_unfit heads params (drop i expected)
      (argument_all (drop i args)) →
      slice_get expected i ≡ Some one → items ≡ args → i < length items → item ≡ get_or items i item →
      why ≡ unfit heads params one.universe (argument item) →
      first_unfit heads params expected (argument_all args)
      ≡ option_or why (first_unfit heads params (drop (i + 1) expected) (argument_all (drop (i + 1) args)))
  step_unfit expected args items i one item why so_far stands same inside is found =
      so_far
      ∙ ap (λ ps. first_unfit heads params ps (argument_all (drop i args))) (drop_at expected i one stands)
      ∙ ap (λ xs. first_unfit heads params (one ∷ drop (i + 1) expected) (argument_all xs))
      (args_left args items i item same inside is)
      ∙ ap (λ o. option_or o (first_unfit heads params (drop (i + 1) expected)
      (argument_all (drop (i + 1) args)))) (sym found)

  pub none_unfit : (expected : List Parameter) (args items : List Arg) (i : ℕ) →
      first_unfit heads params expected (argument_all args) ≡ first_unfit heads params (drop i expected)
      (argument_all (drop i args)) →
      items ≡ args → length items ≤ i → None ≡ first_unfit heads params expected (argument_all args)
  none_unfit expected args items i so_far same done =
      let past : length args ≤ i = subst (λ xs. length xs ≤ i) same done in
      sym (so_far
      ∙ ap (λ xs. first_unfit heads params (drop i expected) (argument_all xs)) (drop_all i args past)
      ∙ unfit_none (drop i expected))
    where
      unfit_none : (ps : List Parameter) → first_unfit heads params ps mean.no_arguments ≡ None
      unfit_none [] = refl
      unfit_none (p ∷ ps) = refl

  pub region_unfit : (universe : Universe) (region : Region) →
      unfit heads params universe (mean.in_region region) ≡ None
  region_unfit universes.Free region = refl
  region_unfit universes.Linear region = refl
  region_unfit universes.AnyType region = refl
  region_unfit universes.Region region = refl

  pub type_stands : (one : Arg) (of : Ty) → one ≡ Of of → ArgumentStandsOver heads params (argument one) →
      StandsOver heads params (meaning of)
  unfolding argument_formed
  type_stands one of is stands = subst (λ a. ArgumentStandsOver heads params a)
      (ap argument is ∙ type_argument_means of) stands
