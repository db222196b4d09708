-- Substituting keeps that a type is formed.
use Rattle.std.proofs.Common.{◌≡◌, ℕ, List, [], ◌∷◌, Bool, true, Option, None, Some, refl}
use Rattle.std.specs.Prelude.{is_some}
use Rattle.std.proofs.lemmas.Bool.{and_from, and_parts}
use Rattle.au_syntax.specs.declared.declarations.Universe.{Universe}
use Rattle.au_syntax.specs.declared.declarations.Universe.TheVariants as universes
use Rattle.au_types.specs.declared.headings.Head.{Head}
use Rattle.au_types.specs.declared.parameters.Parameter.{Parameter}
use Rattle.au_types.specs.declared.types.DeclAt.{DeclAt}
use Rattle.au_types.specs.Rows.{head_of}
use Rattle.au_types.specs.Types.{Meaning, Argument, Arguments, unit, truth, integer, text, parameter, named}
use Rattle.au_types.specs.Types.{reads, writes, of_type, in_region, no_arguments, arguments}
use Rattle.au_types.specs.Universes.{universe_in}
use Rattle.au_matching.specs.Bindings.{Bindings, value_of}
use Rattle.au_matching.specs.Substituted.{type_for, substituted, argument_substituted, all_substituted}
use Rattle.au_matching.specs.Fitting.{stand_in, BindingsAreWellFormed, BindingsFit, BindingsStand}
use Rattle.au_matching.proofs.SubstitutingUniverseLemmas.{universe_kept}
use Rattle.au_matching.specs.declared.universes.TypeUniverse.{TypeUniverse}
use Rattle.au_matching.specs.declared.universes.TypeUniverse.TheVariants.{Free, Linear, AnyUniverse}
use Rattle.au_matching.specs.Forming.{IsWellFormed, StandsOver, all_fit, fit_row, fits, fits_in_kind}
use Rattle.au_matching.specs.Forming.{is_formed, argument_formed, all_formed, takes}
use Rattle.au_matching.specs.Replaced.{may_be}
use Rattle.au_matching.specs.Universes.{of_parameter, universe_of}
use Rattle.au_matching.proofs.LawLemmas.{fits_kind, well_formed_stands}

-- ---- what stands for a type parameter

module _ (test : Universe → Argument → Bool) (rows : List (DeclAt × Head)) (others : List Parameter) where
  value_formed : (declared : Universe) (value : Option Argument) (name : List ℕ) →
      is_some (of_parameter (Some declared)) ≡ true
      → fits_in_kind declared (stand_in value declared name) ≡ true →
      argument_formed test rows others (stand_in value declared name) ≡ true
      → is_formed test rows others (type_for value name) ≡ true
  unfolding argument_formed
  value_formed universes.Free None name some kind formed = formed
  value_formed universes.Free (Some (of_type t)) name some kind formed = formed
  value_formed universes.Free (Some (in_region region)) name some kind formed = absurd cc
  value_formed universes.Linear None name some kind formed = formed
  value_formed universes.Linear (Some (of_type t)) name some kind formed = formed
  value_formed universes.Linear (Some (in_region region)) name some kind formed = absurd cc
  value_formed universes.AnyType None name some kind formed = formed
  value_formed universes.AnyType (Some (of_type t)) name some kind formed = formed
  value_formed universes.AnyType (Some (in_region region)) name some kind formed = absurd cc
  value_formed universes.Region value name some kind formed = absurd cc

  -- of each parameter in scope, where what stands for it is of its kind and formed
  pub parameter_formed : (params : List Parameter) (s : Bindings)
      → ((name : List ℕ) (declared : Universe) → universe_in params name ≡ Some declared →
      (fits_in_kind declared (stand_in (value_of name s) declared name) ≡ true)
      × (argument_formed test rows others (stand_in (value_of name s) declared name) ≡ true))
      → (name : List ℕ) → is_some (of_parameter (universe_in params name)) ≡ true →
      is_formed test rows others (type_for (value_of name s) name) ≡ true
  parameter_formed params s stand name some = by (universe_in params name) refl some
    where
      by : (o : Option Universe) → universe_in params name ≡ o → is_some (of_parameter o) ≡ true →
          is_formed test rows others (type_for (value_of name s) name) ≡ true
      by None e some = absurd cc
      by (Some declared) e some = let both = stand name declared e in value_formed declared (value_of name s)
          name some both.0 both.1

-- ---- types, where type parameters give formed types and arguments fit as before

module _ (test after : Universe → Argument → Bool) (rows : List (DeclAt × Head))
    (params others : List Parameter) (s : Bindings)
    (parameters : (name : List ℕ) → is_some (of_parameter (universe_in params name)) ≡ true →
    is_formed after rows others (type_for (value_of name s) name) ≡ true)
    (kept : (wanted : Universe) (one : Argument) → argument_formed test rows params one ≡ true →
    test wanted one ≡ true → after wanted (argument_substituted s one) ≡ true) where
  all_fit_kept : (expected : List Parameter) (args : Arguments) → all_formed test rows params args ≡ true →
      all_fit test expected args ≡ true → all_fit after expected (all_substituted s args) ≡ true
  unfolding all_formed
  all_fit_kept [] no_arguments formed fit = refl
  all_fit_kept [] (arguments first rest) formed fit = absurd cc
  all_fit_kept (one ∷ more) no_arguments formed fit = absurd cc
  all_fit_kept (one ∷ more) (arguments first rest) formed fit =
      let each = and_parts (argument_formed test rows params first) (all_formed test rows params rest) formed in
      let both = and_parts (test one.universe first) (all_fit test more rest) fit in
      and_from (after one.universe (argument_substituted s first))
      (all_fit after more (all_substituted s rest)) (kept one.universe first each.0 both.0)
      (all_fit_kept more rest each.1 both.1)

  row_kept : (row : Option Head) (args : Arguments) → all_formed test rows params args ≡ true →
      fit_row test row args ≡ true → fit_row after row (all_substituted s args) ≡ true
  row_kept None args formed fit = absurd cc
  row_kept (Some head) args formed fit = all_fit_kept head.params args formed fit

  mutual
    unfolding is_formed argument_formed all_formed

    pub formed_kept : (t : Meaning) → is_formed test rows params t ≡ true →
        is_formed after rows others (substituted s t) ≡ true
    formed_kept unit formed = refl
    formed_kept truth formed = refl
    formed_kept (integer kind) formed = refl
    formed_kept text formed = refl
    formed_kept (parameter name) formed = parameters name formed
    formed_kept (named at args) formed =
        let both = and_parts (fit_row test (head_of rows at) args) (all_formed test rows params args) formed in
        and_from (fit_row after (head_of rows at) (all_substituted s args))
        (all_formed after rows others (all_substituted s args))
        (row_kept (head_of rows at) args both.1 both.0) (all_kept args both.1)
    formed_kept (reads t region) formed = formed_kept t formed
    formed_kept (writes t region) formed = formed_kept t formed

    argument_kept : (one : Argument) → argument_formed test rows params one ≡ true →
        argument_formed after rows others (argument_substituted s one) ≡ true
    argument_kept (of_type t) formed = formed_kept t formed
    argument_kept (in_region region) formed = refl

    all_kept : (args : Arguments) → all_formed test rows params args ≡ true →
        all_formed after rows others (all_substituted s args) ≡ true
    all_kept no_arguments formed = refl
    all_kept (arguments first rest) formed =
        let both = and_parts (argument_formed test rows params first) (all_formed test rows params rest) formed in
        and_from (argument_formed after rows others (argument_substituted s first))
        (all_formed after rows others (all_substituted s rest)) (argument_kept first both.0)
        (all_kept rest both.1)

-- ---- types that stand over rows and type parameters

pub kind_kept : (s : Bindings) (wanted : Universe) (one : Argument) → fits_in_kind wanted one ≡ true →
    fits_in_kind wanted (argument_substituted s one) ≡ true
kind_kept s wanted (of_type t) fit = fit
kind_kept s wanted (in_region region) fit = fit

pub standing_kept : (rows : List (DeclAt × Head)) (params others : List Parameter) (s : Bindings)
    (t : Meaning) → BindingsStand rows params others s → StandsOver rows params t →
    StandsOver rows others (substituted s t)
standing_kept rows params others s t stand formed =
    formed_kept fits_in_kind fits_in_kind rows params others s
    (parameter_formed fits_in_kind rows others params s stand)
    (λ wanted one stands fit. kind_kept s wanted one fit) t formed

-- ---- types that are well formed

-- what takes a universe takes each that a type of it may have
pub takes_kept : (wanted : Universe) (u v : TypeUniverse) → may_be u v ≡ true → takes wanted u ≡ true →
    takes wanted v ≡ true
takes_kept universes.Free Free v may taken = may
takes_kept universes.Free Linear v may taken = absurd cc
takes_kept universes.Free AnyUniverse v may taken = absurd cc
takes_kept universes.Linear Linear v may taken = may
takes_kept universes.Linear Free v may taken = absurd cc
takes_kept universes.Linear AnyUniverse v may taken = absurd cc
takes_kept universes.AnyType u v may taken = refl
takes_kept universes.Region u v may taken = absurd cc

fits_kept : (rows : List (DeclAt × Head)) (params others : List Parameter) (s : Bindings) →
    BindingsFit rows params others s → (wanted : Universe) (one : Argument)
    → argument_formed (fits rows params) rows params one ≡ true → fits rows params wanted one ≡ true →
    fits rows others wanted (argument_substituted s one) ≡ true
unfolding argument_formed
fits_kept rows params others s fit wanted (of_type t) formed taken =
    takes_kept wanted (universe_of rows params t) (universe_of rows others (substituted s t))
    (universe_kept rows params others s fit t (well_formed_stands rows params t formed)) taken
fits_kept rows params others s fit wanted (in_region region) formed taken = taken

pub formation_kept : (rows : List (DeclAt × Head)) (params others : List Parameter) (s : Bindings)
    (t : Meaning) → BindingsAreWellFormed rows params others s → IsWellFormed rows params t →
    IsWellFormed rows others (substituted s t)
formation_kept rows params others s t good formed =
    let fit : BindingsFit rows params others s = λ name declared e. (good name declared e).0 in
    formed_kept (fits rows params) (fits rows others) rows params others s
    (parameter_formed (fits rows others) rows others params s
    (λ name declared e. (
      fits_kind rows others declared (stand_in (value_of name s) declared name)
          (good name declared e).0,
      (good name declared e).1,
    )))
    (fits_kept rows params others s fit) t formed
