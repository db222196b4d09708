-- Universes of running types, and whether these are well formed: regions don't count.
use Rattle.std.proofs.Common.{◌≡◌, ◌⊎◌, inl, inr, ℕ, true, ◌&&◌, List, [], ◌∷◌, Option, None, Some}
use Rattle.std.proofs.Common.{refl, sym, ap, subst, ◌∙◌}
use Rattle.std.proofs.lemmas.Bool.{and_parts}
use Rattle.au_syntax.specs.declared.declarations.Universe.{Universe}
use Rattle.au_syntax.specs.declared.declarations.Universe.TheVariants as universes
use Rattle.au_types.specs.declared.headings.Head.{Head}
use Rattle.au_types.specs.declared.parameters.Parameter.{Parameter}
use Rattle.au_types.specs.declared.types.DeclAt.{DeclAt}
use Rattle.au_types.specs.declared.types.Region.TheVariants.{Static}
use Rattle.au_types.specs.Rows.{head_of}
use Rattle.au_types.specs.Types.{Meaning, Argument, Arguments, unit, truth, integer, text, parameter, named}
use Rattle.au_types.specs.Types.{reads, writes, of_type, in_region, no_arguments, arguments}
use Rattle.au_matching.specs.Bindings.{Bindings}
use Rattle.au_matching.specs.Fitting.{BindingsAreWellFormed, BindingsFit}
use Rattle.au_matching.specs.Forming.{StandsOver, all_fit, fit_row, fits, fits_in_kind, takes}
use Rattle.au_matching.specs.Forming.{is_formed, argument_formed, all_formed}
use Rattle.au_matching.specs.Replaced.{may_be}
use Rattle.au_matching.specs.Substituted.{substituted, argument_substituted, all_substituted}
use Rattle.au_matching.specs.Erased.{erased, erased_argument, erased_arguments}
use Rattle.au_matching.specs.Joined.{joined}
use Rattle.au_matching.specs.Universes.{judged, of_declaration, of_row, universe_of, argument_universe}
use Rattle.au_matching.specs.Universes.{argument_universes}
use Rattle.au_matching.specs.declared.universes.TypeUniverse.{TypeUniverse}
use Rattle.au_matching.specs.declared.universes.TypeUniverse.TheVariants.{Free, Linear, AnyUniverse}
use Rattle.au_matching.proofs.LawLemmas.{erased_universe, same_universe}
use Rattle.au_matching.proofs.SubstitutingFormedLemmas.{formation_kept}
use Rattle.au_matching.proofs.SubstitutingUniverseLemmas.{universe_kept}
use Rattle.au_matching.proofs.UniverseLemmas.{judged_both, judged_empty, judged_one}
use Rattle.au_running_types.specs.Running.{running, argument_running, all_running}

-- ---- but for regions, running is substituting

module _ (s : Bindings) (z : ℕ) where
  mutual
    unfolding erased erased_argument erased_arguments

    pub as_substituted : (t : Meaning) → erased (running s z t) ≡ erased (substituted s t)
    as_substituted unit = refl
    as_substituted truth = refl
    as_substituted (integer kind) = refl
    as_substituted text = refl
    as_substituted (parameter name) = refl
    as_substituted (named at args) = ap (named at) (all_as_substituted args)
    as_substituted (reads t region) = ap (λ u. reads u Static) (as_substituted t)
    as_substituted (writes t region) = ap (λ u. writes u Static) (as_substituted t)

    argument_as_substituted : (one : Argument)
        → erased_argument (argument_running s z one) ≡ erased_argument (argument_substituted s one)
    argument_as_substituted (of_type t) = ap of_type (as_substituted t)
    argument_as_substituted (in_region region) = refl

    all_as_substituted : (args : Arguments)
        → erased_arguments (all_running s z args) ≡ erased_arguments (all_substituted s args)
    all_as_substituted no_arguments = refl
    all_as_substituted (arguments one rest) =
        λ i. arguments (argument_as_substituted one i) (all_as_substituted rest i)

-- ---- whether a type is well formed doesn't turn on its regions

module _ (rows : List (DeclAt × Head)) (params : List Parameter) where
  erased_fits : (wanted : Universe) (one : Argument)
      → fits rows params wanted (erased_argument one) ≡ fits rows params wanted one
  unfolding erased_argument
  erased_fits wanted (of_type t) = ap (takes wanted) (erased_universe rows params t)
  erased_fits wanted (in_region region) = refl

  erased_all_fit : (expected : List Parameter) (args : Arguments)
      → all_fit (fits rows params) expected (erased_arguments args) ≡ all_fit (fits rows params) expected args
  unfolding erased_arguments
  erased_all_fit [] no_arguments = refl
  erased_all_fit [] (arguments first rest) = refl
  erased_all_fit (one ∷ others) no_arguments = refl
  erased_all_fit (one ∷ others) (arguments first rest) =
      λ i. erased_fits one.universe first i && erased_all_fit others rest i

  erased_row : (row : Option Head) (args : Arguments)
      → fit_row (fits rows params) row (erased_arguments args) ≡ fit_row (fits rows params) row args
  erased_row None args = refl
  erased_row (Some head) args = erased_all_fit head.params args

  mutual
    unfolding is_formed argument_formed all_formed erased erased_argument erased_arguments

    erased_formed : (t : Meaning)
        → is_formed (fits rows params) rows params (erased t) ≡ is_formed (fits rows params) rows params t
    erased_formed unit = refl
    erased_formed truth = refl
    erased_formed (integer kind) = refl
    erased_formed text = refl
    erased_formed (parameter name) = refl
    erased_formed (named at args) = λ i. erased_row (head_of rows at) args i && erased_all_formed args i
    erased_formed (reads t region) = erased_formed t
    erased_formed (writes t region) = erased_formed t

    erased_one_formed : (one : Argument)
        → argument_formed (fits rows params) rows params (erased_argument one)
        ≡ argument_formed (fits rows params) rows params one
    erased_one_formed (of_type t) = erased_formed t
    erased_one_formed (in_region region) = refl

    erased_all_formed : (args : Arguments)
        → all_formed (fits rows params) rows params (erased_arguments args)
        ≡ all_formed (fits rows params) rows params args
    erased_all_formed no_arguments = refl
    erased_all_formed (arguments first rest) = λ i. erased_one_formed first i && erased_all_formed rest i

-- ---- laws

module _ (rows : List (DeclAt × Head)) (params others : List Parameter) (s : Bindings) where
  pub universe_stays : (z : ℕ) (t : Meaning) → BindingsFit rows params others s → StandsOver rows params t
      → may_be (universe_of rows params t) (universe_of rows others (running s z t)) ≡ true
  universe_stays z t fit stands =
      ap (may_be (universe_of rows params t))
      (same_universe rows others (running s z t) (substituted s t) (as_substituted s z t))
      ∙ universe_kept rows params others s fit t stands

  pub formation_stays : (z : ℕ) (t : Meaning) → BindingsAreWellFormed rows params others s
      → is_formed (fits rows params) rows params t ≡ true
      → is_formed (fits rows others) rows others (running s z t) ≡ true
  formation_stays z t good formed =
      sym (erased_formed rows others (running s z t))
      ∙ ap (is_formed (fits rows others) rows others) (as_substituted s z t)
      ∙ erased_formed rows others (substituted s t)
      ∙ formation_kept rows params others s t good formed

-- ---- a type without type parameters is Free or Linear

abbrev pub IsDecided : TypeUniverse → Type 0
IsDecided u = (u ≡ Free) ⊎ (u ≡ Linear)

joined_decided : (u v : TypeUniverse) → IsDecided u → IsDecided v → IsDecided (joined u v)
joined_decided Free v a b = b
joined_decided Linear v a b = inr refl
joined_decided AnyUniverse v (inl e) b = absurd cc
joined_decided AnyUniverse v (inr e) b = absurd cc

declared_decided : (own : Universe) (u : TypeUniverse) → IsDecided u → IsDecided (of_declaration own u)
declared_decided universes.Free u h = inl refl
declared_decided universes.Linear u h = inr refl
declared_decided universes.AnyType u h = h
declared_decided universes.Region u h = h

row_decided : (row : Option Head) (args : Arguments) (u : TypeUniverse) → fit_row fits_in_kind row args ≡ true
    → IsDecided u → IsDecided (of_row row u)
row_decided None args u fit h = absurd cc
row_decided (Some head) args u fit h = declared_decided head.universe u h

module _ (rows : List (DeclAt × Head)) where
  mutual
    unfolding universe_of argument_universe argument_universes is_formed argument_formed all_formed

    pub type_decided : (t : Meaning) → is_formed fits_in_kind rows [] t ≡ true → IsDecided (universe_of rows [] t)
    type_decided unit stands = inl refl
    type_decided truth stands = inl refl
    type_decided (integer kind) stands = inl refl
    type_decided text stands = inl refl
    type_decided (parameter name) stands = absurd cc
    type_decided (named at args) stands =
        let both = and_parts (fit_row fits_in_kind (head_of rows at) args) (all_formed fits_in_kind rows [] args)
        stands in
        row_decided (head_of rows at) args (judged (argument_universes rows [] args)) both.0
        (all_decided args both.1)
    type_decided (reads t region) stands = inl refl
    type_decided (writes t region) stands = inr refl

    argument_decided : (one : Argument) → argument_formed fits_in_kind rows [] one ≡ true
        → IsDecided (judged (argument_universe rows [] one))
    argument_decided (of_type t) stands =
        subst IsDecided (sym (judged_one (universe_of rows [] t))) (type_decided t stands)
    argument_decided (in_region region) stands = inl judged_empty

    all_decided : (args : Arguments) → all_formed fits_in_kind rows [] args ≡ true
        → IsDecided (judged (argument_universes rows [] args))
    all_decided no_arguments stands = inl judged_empty
    all_decided (arguments first rest) stands =
        let both = and_parts (argument_formed fits_in_kind rows [] first) (all_formed fits_in_kind rows [] rest)
        stands in
        subst IsDecided (sym (judged_both (argument_universe rows [] first) (argument_universes rows [] rest)))
        (joined_decided (judged (argument_universe rows [] first)) (judged (argument_universes rows [] rest))
        (argument_decided first both.0) (all_decided rest both.1))
