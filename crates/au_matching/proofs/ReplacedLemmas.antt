-- A type keeps its universe, as far as that is known, where its type parameters get values that fit.
use Rattle.std.proofs.Common.{◌≡◌, ℕ, List, [], ◌∷◌, ◌++◌, true, Option, None, Some, refl, ap, ◌∙◌}
use Rattle.std.specs.Prelude.{is_some, unwrap_or}
use Rattle.std.proofs.lemmas.Bool.{and_parts}
use Rattle.au_syntax.specs.declared.declarations.Universe.{Universe}
use Rattle.au_syntax.specs.declared.declarations.Universe.TheVariants as universes
use Rattle.au_types.specs.declared.headings.Head.{Head}
use Rattle.au_types.specs.declared.parameters.Parameter.{Parameter}
use Rattle.au_types.specs.declared.types.DeclAt.{DeclAt}
use Rattle.au_types.specs.Rows.{head_of}
use Rattle.au_types.specs.Types.{Meaning, Argument, Arguments, unit, truth, integer, text, parameter, named}
use Rattle.au_types.specs.Types.{reads, writes, of_type, in_region, no_arguments, arguments}
use Rattle.au_types.specs.Universes.{universe_in}
use Rattle.au_matching.specs.declared.universes.TypeUniverse.{TypeUniverse}
use Rattle.au_matching.specs.declared.universes.TypeUniverse.TheVariants.{Free, Linear, AnyUniverse}
use Rattle.au_matching.specs.Forming.{fit_row, fits_in_kind, is_formed, argument_formed, all_formed}
use Rattle.au_matching.specs.Joined.{joined}
use Rattle.au_matching.specs.Replaced.{ValuesFit, may_be, replaced, replaced_argument, replaced_arguments}
use Rattle.au_matching.specs.Universes.{judged, of_declaration, of_parameter, of_row, universe_of}
use Rattle.au_matching.specs.Universes.{argument_universe, argument_universes}
use Rattle.au_matching.proofs.UniverseLemmas.{judged_both, judged_empty, judged_one}

joined_stay : (a b c d : TypeUniverse) → may_be a b ≡ true → may_be c d ≡ true → may_be (joined a c) (joined b d) ≡ true
joined_stay Free Free c d first second = second
joined_stay Free Linear c d first second = absurd cc
joined_stay Free AnyUniverse c d first second = absurd cc
joined_stay Linear Linear c d first second = refl
joined_stay Linear Free c d first second = absurd cc
joined_stay Linear AnyUniverse c d first second = absurd cc
joined_stay AnyUniverse b Free d first second = refl
joined_stay AnyUniverse b AnyUniverse d first second = refl
joined_stay AnyUniverse Free Linear Linear first second = refl
joined_stay AnyUniverse Linear Linear Linear first second = refl
joined_stay AnyUniverse AnyUniverse Linear Linear first second = refl
joined_stay AnyUniverse b Linear Free first second = absurd cc
joined_stay AnyUniverse b Linear AnyUniverse first second = absurd cc

declaration_stays : (declared : Universe) (a b : TypeUniverse) → may_be a b ≡ true →
    may_be (of_declaration declared a) (of_declaration declared b) ≡ true
declaration_stays universes.Free a b stays = refl
declaration_stays universes.Linear a b stays = refl
declaration_stays universes.AnyType a b stays = stays
declaration_stays universes.Region a b stays = stays

row_stays : (row : Option Head) (a b : TypeUniverse) → may_be a b ≡ true → may_be (of_row row a) (of_row row b) ≡ true
row_stays None a b stays = refl
row_stays (Some head) a b stays = declaration_stays head.universe a b stays

module _ (rows : List (DeclAt × Head)) (params others : List Parameter) (value : List ℕ → Meaning)
    (fit : ValuesFit rows params others value) where
  parameter_stays : (name : List ℕ) (known : Option TypeUniverse) → of_parameter (universe_in params name)
      ≡ known → is_some known ≡ true → may_be (unwrap_or known AnyUniverse)
      (universe_of rows others (value name)) ≡ true
  parameter_stays name None is some = absurd cc
  parameter_stays name (Some universe) is some = fit name universe is

  mutual
    unfolding universe_of argument_universe argument_universes is_formed argument_formed all_formed replaced
        replaced_argument replaced_arguments

    pub universe_stays : (t : Meaning) → is_formed fits_in_kind rows params t ≡ true →
        may_be (universe_of rows params t) (universe_of rows others (replaced value t)) ≡ true
    universe_stays unit formed = refl
    universe_stays truth formed = refl
    universe_stays (integer kind) formed = refl
    universe_stays text formed = refl
    universe_stays (parameter name) formed = parameter_stays name (of_parameter (universe_in params name)) refl formed
    universe_stays (named at args) formed =
        row_stays (head_of rows at) (judged (argument_universes rows params args))
        (judged (argument_universes rows others (replaced_arguments value args)))
        (universes_stay args (and_parts (fit_row fits_in_kind (head_of rows at) args)
        (all_formed fits_in_kind rows params args) formed).1)
    universe_stays (reads t region) formed = refl
    universe_stays (writes t region) formed = refl

    one_stays : (one : Argument) → argument_formed fits_in_kind rows params one ≡ true →
        may_be (judged (argument_universe rows params one))
        (judged (argument_universe rows others (replaced_argument value one))) ≡ true
    one_stays (of_type t) formed =
        ap (λ u. may_be u (judged (universe_of rows others (replaced value t) ∷ [])))
        (judged_one (universe_of rows params t))
        ∙ ap (may_be (universe_of rows params t)) (judged_one (universe_of rows others (replaced value t)))
        ∙ universe_stays t formed
    one_stays (in_region region) formed = ap (λ u. may_be u u) judged_empty

    universes_stay : (args : Arguments) → all_formed fits_in_kind rows params args ≡ true →
        may_be (judged (argument_universes rows params args))
        (judged (argument_universes rows others (replaced_arguments value args))) ≡ true
    universes_stay no_arguments formed = ap (λ u. may_be u u) judged_empty
    universes_stay (arguments first rest) formed =
        let both = and_parts (argument_formed fits_in_kind rows params first)
        (all_formed fits_in_kind rows params rest) formed in
        ap (λ u. may_be u (judged (argument_universe rows others (replaced_argument value first)
        ++ argument_universes rows others (replaced_arguments value rest))))
        (judged_both (argument_universe rows params first) (argument_universes rows params rest))
        ∙ ap (may_be (joined (judged (argument_universe rows params first))
        (judged (argument_universes rows params rest))))
        (judged_both (argument_universe rows others (replaced_argument value first))
        (argument_universes rows others (replaced_arguments value rest)))
        ∙ joined_stay (judged (argument_universe rows params first))
        (judged (argument_universe rows others (replaced_argument value first)))
        (judged (argument_universes rows params rest))
        (judged (argument_universes rows others (replaced_arguments value rest)))
        (one_stays first both.0) (universes_stay rest both.1)
