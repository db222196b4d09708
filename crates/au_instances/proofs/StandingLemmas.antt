-- Types that stand over rows and type parameters, and the parts of them.
use Rattle.std.proofs.Common.{◌≡◌, ℕ, ◌+◌, ◌<◌, ◌≤◌, true, List, length, drop, get_or, sym, ap, subst, ◌∙◌}
use Rattle.std.proofs.lemmas.Bool.{and_parts}
use Rattle.std.proofs.lemmas.List.{drop_more, drop_all}
use Rattle.au_types.specs.declared.headings.Head.{Head}
use Rattle.au_types.specs.declared.parameters.Parameter.{Parameter}
use Rattle.au_types.specs.declared.types.Arg.{Arg}
use Rattle.au_types.specs.declared.types.DeclAt.{DeclAt}
use Rattle.au_types.specs.Rows.{head_of}
use Rattle.au_types.specs.Types.{Argument, Arguments, named, no_arguments, arguments}
use Rattle.au_types.specs.Views.{argument, argument_all}
use Rattle.au_matching.specs.Forming.{ArgumentStandsOver, StandsOver, fit_row, fits_in_kind, is_formed}
use Rattle.au_matching.specs.Forming.{argument_formed, all_formed}
use Rattle.au_judged_types.proofs.FittingLemmas.{argument_stands}

-- the first of the arguments that are left, and the others
pub arguments_left : (xs : List Arg) (i : ℕ) (d : Arg) → i < length xs → argument_all (drop i xs)
    ≡ arguments (argument (get_or xs i d)) (argument_all (drop (i + 1) xs))
arguments_left xs i d inside = ap argument_all (drop_more xs i d inside)

pub none_left : (xs : List Arg) (i : ℕ) → length xs ≤ i → argument_all (drop i xs) ≡ no_arguments
none_left xs i past = ap argument_all (drop_all i xs past)

module _ (heads : List (DeclAt × Head)) (scope : List Parameter) where
  pub arguments_stand : (at : DeclAt) (args : Arguments) → StandsOver heads scope (named at args) →
      all_formed fits_in_kind heads scope args ≡ true
  unfolding is_formed
  arguments_stand at args h = (and_parts (fit_row fits_in_kind (head_of heads at) args)
      (all_formed fits_in_kind heads scope args) h).1

  pub first_stands : (one : Argument) (rest : Arguments) →
      all_formed fits_in_kind heads scope (arguments one rest) ≡ true → ArgumentStandsOver heads scope one
      × (all_formed fits_in_kind heads scope rest ≡ true)
  unfolding all_formed
  first_stands one rest h =
      let both = and_parts (argument_formed fits_in_kind heads scope one)
      (all_formed fits_in_kind heads scope rest) h in
      (argument_stands heads scope one both.0, both.1)

  -- of arguments that are left, the first stands over them, and so do the others
  pub left_stands : (args items : List Arg) (i : ℕ) (item : Arg) →
      all_formed fits_in_kind heads scope (argument_all (drop i args)) ≡ true → items ≡ args →
      i < length items → item ≡ get_or items i item
      → ArgumentStandsOver heads scope (argument item)
      × (all_formed fits_in_kind heads scope (argument_all (drop (i + 1) args)) ≡ true)
  left_stands args items i item stand same inside is =
      let within : i < length args = subst (λ xs. i < length xs) same inside in
      let here : item ≡ get_or args i item = is ∙ ap (λ xs. get_or xs i item) same in
      first_stands (argument item) (argument_all (drop (i + 1) args))
      (subst (λ all. all_formed fits_in_kind heads scope all ≡ true)
      (arguments_left args i item within
      ∙ ap (λ x. arguments (argument x) (argument_all (drop (i + 1) args))) (sym here)) stand)
