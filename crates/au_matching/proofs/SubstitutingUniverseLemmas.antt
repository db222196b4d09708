-- Substituting keeps universes: but for regions it is replacing type parameters by types.
use Rattle.std.proofs.Common.{◌≡◌, ℕ, List, true, Option, None, Some, refl, sym, subst, ap, ◌∙◌}
use Rattle.au_syntax.specs.declared.declarations.Universe.{Universe}
use Rattle.au_syntax.specs.declared.declarations.Universe.TheVariants as universes
use Rattle.au_types.specs.declared.headings.Head.{Head}
use Rattle.au_types.specs.declared.parameters.Parameter.{Parameter}
use Rattle.au_types.specs.declared.types.DeclAt.{DeclAt}
use Rattle.au_types.specs.declared.types.Region.TheVariants.{Static}
use Rattle.au_types.specs.Types.{Meaning, Argument, Arguments, unit, truth, integer, text, parameter, named}
use Rattle.au_types.specs.Types.{reads, writes, of_type, in_region, no_arguments, arguments}
use Rattle.au_types.specs.Universes.{universe_in}
use Rattle.au_matching.specs.Bindings.{Bindings, value_of}
use Rattle.au_matching.specs.Substituted.{type_for, substituted, argument_substituted, all_substituted}
use Rattle.au_matching.specs.Fitting.{stand_in, BindingsFit}
use Rattle.au_matching.specs.declared.universes.TypeUniverse.{TypeUniverse}
use Rattle.au_matching.specs.declared.universes.TypeUniverse.TheVariants.{Free, Linear, AnyUniverse}
use Rattle.au_matching.specs.Erased.{erased, erased_argument, erased_arguments}
use Rattle.au_matching.specs.Forming.{StandsOver, fits}
use Rattle.au_matching.specs.Replaced.{ValuesFit, may_be, replaced, replaced_argument, replaced_arguments}
use Rattle.au_matching.specs.Universes.{of_parameter, universe_of}
use Rattle.au_matching.proofs.LawLemmas.{same_universe}
use Rattle.au_matching.proofs.ReplacedLemmas.{universe_stays}

-- the type that stands for a type parameter
abbrev given : Bindings → List ℕ → Meaning
given s name = type_for (value_of name s) name

-- ---- but for regions, substituting is replacing

module _ (s : Bindings) where
  mutual
    unfolding erased erased_argument erased_arguments replaced replaced_argument replaced_arguments

    alike : (t : Meaning) → erased (replaced (given s) t) ≡ erased (substituted s t)
    alike unit = refl
    alike truth = refl
    alike (integer kind) = refl
    alike text = refl
    alike (parameter name) = refl
    alike (named at args) = ap (named at) (all_alike args)
    alike (reads t region) = ap (λ u. reads u Static) (alike t)
    alike (writes t region) = ap (λ u. writes u Static) (alike t)

    argument_alike : (one : Argument) → erased_argument (replaced_argument (given s) one) ≡ erased_argument
        (argument_substituted s one)
    argument_alike (of_type t) = ap of_type (alike t)
    argument_alike (in_region region) = refl

    all_alike : (args : Arguments) → erased_arguments (replaced_arguments (given s) args) ≡ erased_arguments
        (all_substituted s args)
    all_alike no_arguments = refl
    all_alike (arguments one rest) = λ i. arguments (argument_alike one i) (all_alike rest i)

-- ---- the values of bindings that fit

module _ (rows : List (DeclAt × Head)) (params others : List Parameter) (s : Bindings)
    (fit : BindingsFit rows params others s) where
  value_fits : (declared : Universe) (known : TypeUniverse) (value : Option Argument) (name : List ℕ) →
      of_parameter (Some declared) ≡ Some known
      → fits rows others declared (stand_in value declared name) ≡ true →
      may_be known (universe_of rows others (type_for value name)) ≡ true
  value_fits universes.Free Free None name is h = h
  value_fits universes.Free Free (Some (of_type t)) name is h = h
  value_fits universes.Free Free (Some (in_region region)) name is h = absurd cc
  value_fits universes.Linear Linear None name is h = h
  value_fits universes.Linear Linear (Some (of_type t)) name is h = h
  value_fits universes.Linear Linear (Some (in_region region)) name is h = absurd cc
  value_fits universes.AnyType AnyUniverse value name is h = refl
  value_fits declared known value name is h = absurd cc

  values_fit : ValuesFit rows params others (given s)
  values_fit name known is = by (universe_in params name) refl is
    where
      by : (o : Option Universe) → universe_in params name ≡ o → of_parameter o ≡ Some known →
          may_be known (universe_of rows others (given s name)) ≡ true
      by None e is = absurd cc
      by (Some declared) e is = value_fits declared known (value_of name s) name is (fit name declared e)

  pub universe_kept : (t : Meaning) → StandsOver rows params t →
      may_be (universe_of rows params t) (universe_of rows others (substituted s t)) ≡ true
  universe_kept t stands =
      ap (may_be (universe_of rows params t))
      (sym (same_universe rows others (replaced (given s) t) (substituted s t) (alike s t)))
      ∙ universe_stays rows params others (given s) values_fit t stands

free_only : (u : TypeUniverse) → may_be Free u ≡ true → u ≡ Free
free_only Free h = refl
free_only Linear h = absurd cc
free_only AnyUniverse h = absurd cc

linear_only : (u : TypeUniverse) → may_be Linear u ≡ true → u ≡ Linear
linear_only Linear h = refl
linear_only Free h = absurd cc
linear_only AnyUniverse h = absurd cc

pub free_kept : (u v : TypeUniverse) → may_be u v ≡ true → u ≡ Free → v ≡ Free
free_kept u v may is = free_only v (subst (λ w. may_be w v ≡ true) is may)

pub linear_kept : (u v : TypeUniverse) → may_be u v ≡ true → u ≡ Linear → v ≡ Linear
linear_kept u v may is = linear_only v (subst (λ w. may_be w v ≡ true) is may)
