-- Laws of universes and of what fits.
use Rattle.std.proofs.Common.{◌≡◌, List, [], ◌∷◌, ◌++◌, Bool, true, Option, None, Some, refl, sym, ap, ◌∙◌}
use Rattle.std.specs.List.{list_all}
use Rattle.std.proofs.lemmas.Bool.{and_from, and_parts}
use Rattle.au_syntax.specs.declared.declarations.Universe.{Universe}
use Rattle.au_syntax.specs.declared.declarations.Universe.TheVariants as universes
use Rattle.au_types.specs.declared.headings.Head.{Head}
use Rattle.au_types.specs.declared.parameters.Parameter.{Parameter}
use Rattle.au_types.specs.declared.types.DeclAt.{DeclAt}
use Rattle.au_types.specs.Rows.{head_of}
use Rattle.au_types.specs.Types.{Meaning, Argument, Arguments, unit, truth, integer, text, parameter, named}
use Rattle.au_types.specs.Types.{reads, writes, of_type, in_region, no_arguments, arguments}
use Rattle.au_matching.specs.declared.universes.TypeUniverse.{TypeUniverse}
use Rattle.au_matching.specs.declared.universes.TypeUniverse.TheVariants.{Free, Linear, AnyUniverse}
use Rattle.au_matching.specs.Erased.{erased, erased_argument, erased_arguments}
use Rattle.au_matching.specs.Forming.{all_fit, fit_row, fits, fits_in_kind, is_formed, argument_formed, all_formed}
use Rattle.au_matching.specs.Universes.{is_free, judged, of_declaration, of_row, universe_of}
use Rattle.au_matching.specs.Universes.{argument_universe, argument_universes}
use Rattle.au_matching.proofs.UniverseLemmas.{judged_empty, judged_first, named_universe}

-- arguments that are all Free come to Free
free_come : (args : List TypeUniverse) → list_all is_free args ≡ true → judged args ≡ Free
free_come [] all = judged_empty
free_come (Free ∷ rest) all = judged_first Free rest ∙ free_come rest all
free_come (Linear ∷ rest) all = absurd cc
free_come (AnyUniverse ∷ rest) all = absurd cc

pub free_named : (rows : List (DeclAt × Head)) (params : List Parameter) (at : DeclAt) (args : Arguments)
    (head : Head) → head_of rows at ≡ Some head → head.universe ≡ universes.AnyType →
    list_all is_free (argument_universes rows params args) ≡ true → universe_of rows params (named at args)
    ≡ Free
free_named rows params at args head stands any all =
    named_universe rows params at args
    ∙ ap (λ row. of_row row (judged (argument_universes rows params args))) stands
    ∙ ap (λ universe. of_declaration universe (judged (argument_universes rows params args))) any
    ∙ free_come (argument_universes rows params args) all

-- regions don't count
module _ (rows : List (DeclAt × Head)) (params : List Parameter) where
  mutual
    unfolding universe_of argument_universe argument_universes erased erased_argument erased_arguments

    pub erased_universe : (t : Meaning) → universe_of rows params (erased t) ≡ universe_of rows params t
    erased_universe unit = refl
    erased_universe truth = refl
    erased_universe (integer kind) = refl
    erased_universe text = refl
    erased_universe (parameter name) = refl
    erased_universe (named at args) = ap (λ all. of_row (head_of rows at) (judged all)) (erased_universes args)
    erased_universe (reads t region) = refl
    erased_universe (writes t region) = refl

    erased_one : (one : Argument) → argument_universe rows params (erased_argument one) ≡ argument_universe
        rows params one
    erased_one (of_type t) = ap (λ universe. universe ∷ []) (erased_universe t)
    erased_one (in_region region) = refl

    erased_universes : (args : Arguments) → argument_universes rows params (erased_arguments args)
        ≡ argument_universes rows params args
    erased_universes no_arguments = refl
    erased_universes (arguments first rest) =
        ap (λ one. one ++ argument_universes rows params (erased_arguments rest)) (erased_one first)
        ∙ ap (λ all. argument_universe rows params first ++ all) (erased_universes rest)

  pub same_universe : (t u : Meaning) → erased t ≡ erased u → universe_of rows params t ≡ universe_of rows params u
  same_universe t u same = sym (erased_universe t) ∙ ap (universe_of rows params) same ∙ erased_universe u

-- ---- what fits

pub fits_type_free : (rows : List (DeclAt × Head)) (params : List Parameter) (one : Argument) →
    fits rows params universes.Free one ≡ true → fits rows params universes.AnyType one ≡ true
fits_type_free rows params (of_type t) fit = refl
fits_type_free rows params (in_region region) fit = fit

pub fits_type_linear : (rows : List (DeclAt × Head)) (params : List Parameter) (one : Argument) →
    fits rows params universes.Linear one ≡ true → fits rows params universes.AnyType one ≡ true
fits_type_linear rows params (of_type t) fit = refl
fits_type_linear rows params (in_region region) fit = fit

pub fits_kind : (rows : List (DeclAt × Head)) (params : List Parameter) (wanted : Universe) (one : Argument) →
    fits rows params wanted one ≡ true → fits_in_kind wanted one ≡ true
fits_kind rows params universes.Free (of_type t) fit = refl
fits_kind rows params universes.Linear (of_type t) fit = refl
fits_kind rows params universes.AnyType (of_type t) fit = refl
fits_kind rows params universes.Region (of_type t) fit = absurd cc
fits_kind rows params wanted (in_region region) fit = fit

-- a weaker test is passed too
module _ (test weaker : Universe → Argument → Bool)
    (weakens : (wanted : Universe) (one : Argument) → test wanted one ≡ true → weaker wanted one ≡ true) where
  all_weaker : (expected : List Parameter) (args : Arguments) → all_fit test expected args ≡ true →
      all_fit weaker expected args ≡ true
  all_weaker [] no_arguments fit = refl
  all_weaker [] (arguments first rest) fit = absurd cc
  all_weaker (one ∷ others) no_arguments fit = absurd cc
  all_weaker (one ∷ others) (arguments first rest) fit =
      let both = and_parts (test one.universe first) (all_fit test others rest) fit in
      and_from (weaker one.universe first) (all_fit weaker others rest) (weakens one.universe first both.0)
      (all_weaker others rest both.1)

  row_weaker : (row : Option Head) (args : Arguments) → fit_row test row args ≡ true → fit_row weaker row args ≡ true
  row_weaker None args fit = absurd cc
  row_weaker (Some head) args fit = all_weaker head.params args fit

  module _ (rows : List (DeclAt × Head)) (params : List Parameter) where
    mutual
      unfolding is_formed argument_formed all_formed

      pub formed_weaker : (t : Meaning) → is_formed test rows params t ≡ true → is_formed weaker rows params t ≡ true
      formed_weaker unit formed = refl
      formed_weaker truth formed = refl
      formed_weaker (integer kind) formed = refl
      formed_weaker text formed = refl
      formed_weaker (parameter name) formed = formed
      formed_weaker (named at args) formed =
          let both = and_parts (fit_row test (head_of rows at) args) (all_formed test rows params args) formed in
          and_from (fit_row weaker (head_of rows at) args) (all_formed weaker rows params args)
          (row_weaker (head_of rows at) args both.0) (all_formed_weaker args both.1)
      formed_weaker (reads t region) formed = formed_weaker t formed
      formed_weaker (writes t region) formed = formed_weaker t formed

      argument_weaker : (one : Argument) → argument_formed test rows params one ≡ true →
          argument_formed weaker rows params one ≡ true
      argument_weaker (of_type t) formed = formed_weaker t formed
      argument_weaker (in_region region) formed = refl

      all_formed_weaker : (args : Arguments) → all_formed test rows params args ≡ true →
          all_formed weaker rows params args ≡ true
      all_formed_weaker no_arguments formed = refl
      all_formed_weaker (arguments first rest) formed =
          let both = and_parts (argument_formed test rows params first) (all_formed test rows params rest) formed in
          and_from (argument_formed weaker rows params first) (all_formed weaker rows params rest)
          (argument_weaker first both.0) (all_formed_weaker rest both.1)

pub well_formed_stands : (rows : List (DeclAt × Head)) (params : List Parameter) (t : Meaning) →
    is_formed (fits rows params) rows params t ≡ true → is_formed fits_in_kind rows params t ≡ true
well_formed_stands rows params t formed = formed_weaker (fits rows params) fits_in_kind
    (fits_kind rows params) rows params t formed
