-- What the arguments of a type put for the type parameters of its declaration.
use Rattle.std.proofs.Common.{◌≡◌, ℕ, Bool, true, false, cond, true≢false, List, [], ◌∷◌, Option, None, Some}
use Rattle.std.proofs.Common.{refl, sym, ap, ◌∙◌, subst}
use Rattle.std.specs.Prelude.{is_some}
use Rattle.std.specs.Str.{bytes_eq}
use Rattle.std.proofs.lemmas.Bool.{and_parts}
use Rattle.std.proofs.lemmas.Option.{none-some, same_Some}
use Rattle.std.proofs.lemmas.Slice.Eq.{bytes_eq-Decides}
use Rattle.au_syntax.specs.declared.declarations.Universe.{Universe}
use Rattle.au_syntax.specs.declared.declarations.Universe.TheVariants as universes
use Rattle.au_types.specs.declared.headings.Head.{Head}
use Rattle.au_types.specs.declared.parameters.Parameter.{Parameter}
use Rattle.au_types.specs.declared.types.DeclAt.{DeclAt}
use Rattle.au_types.specs.declared.types.Region.{Region}
use Rattle.au_types.specs.Rows.{head_of}
use Rattle.au_types.specs.Types.{Meaning, Argument, Arguments, unit, truth, integer, text, parameter, named}
use Rattle.au_types.specs.Types.{reads, writes, of_type, in_region, no_arguments, arguments}
use Rattle.au_types.specs.Universes.{universe_in}
use Rattle.au_matching.specs.Bindings.{Bindings, value_of}
use Rattle.au_matching.specs.Fitting.{BindingsAreWellFormed, stand_in}
use Rattle.au_matching.specs.Forming.{all_fit, all_formed, argument_formed, fit_row, fits, fits_in_kind}
use Rattle.au_matching.specs.Forming.{is_formed}
use Rattle.au_matching.specs.Joined.{joined}
use Rattle.au_matching.specs.Substituted.{all_substituted, argument_substituted, substituted, type_for}
use Rattle.au_matching.specs.Universes.{argument_universe, argument_universes, judged, of_declaration, of_parameter}
use Rattle.au_matching.specs.Universes.{of_row, universe_of}
use Rattle.au_matching.specs.declared.universes.TypeUniverse.{TypeUniverse}
use Rattle.au_matching.specs.declared.universes.TypeUniverse.TheVariants.{Free, Linear, AnyUniverse}
use Rattle.au_matching.proofs.BindingLemmas.{value_of-with}
use Rattle.au_matching.proofs.UniverseLemmas.{judged_both, judged_empty, judged_one}
use Rattle.au_typing.specs.Insides.{with_arguments}

pub same_names : (a b : List ℕ) → bytes_eq a b ≡ bytes_eq b a
same_names a b = by (bytes_eq a b) refl (bytes_eq b a) refl
  where
    by : (x : Bool) → bytes_eq a b ≡ x → (y : Bool) → bytes_eq b a ≡ y → x ≡ y
    by true e true f = refl
    by false e false f = refl
    by true e false f =
        absurd (true≢false (sym ((bytes_eq-Decides b a).1 (sym ((bytes_eq-Decides a b).0 e))) ∙ f))
    by false e true f =
        absurd (true≢false (sym ((bytes_eq-Decides a b).1 (sym ((bytes_eq-Decides b a).0 f))) ∙ e))

-- ---- what stands for a parameter passes the test that its argument passed

module _ (test : Universe → Argument → Bool) (after : Argument → Type 0) where
  -- something holds of all arguments
  abbrev pub AllPass : Arguments → Type 0
  AllPass no_arguments = Unit {0}
  AllPass (arguments one rest) = after one × AllPass rest

  -- what a name is given passes the test, and so it holds of it
  abbrev Given : Universe → Option Argument → Type 0
  Given universe o = (value : Argument) × (o ≡ Some value) × (test universe value ≡ true) × after value

  pub argument_given : (ps : List Parameter) (args : Arguments) → all_fit test ps args ≡ true → AllPass args
      → (name : List ℕ) (universe : Universe) → universe_in ps name ≡ Some universe
      → (value : Argument) × (value_of name (with_arguments ps args) ≡ Some value) × (test universe value ≡ true)
      × after value
  argument_given [] args fit pass name universe e = absurd (none-some universe e)
  argument_given (p ∷ ps) no_arguments fit pass name universe e = absurd (true≢false (sym fit))
  argument_given (p ∷ ps) (arguments one rest) fit pass name universe e =
      let both = and_parts (test p.universe one) (all_fit test ps rest) fit in
      subst (Given universe) (sym (value_of-with name p.name one (with_arguments ps rest)))
      (by (bytes_eq p.name name) (bytes_eq name p.name) (same_names p.name name) e both.0
      (argument_given ps rest both.1 pass.1 name universe))
    where
      by : (a b : Bool) → a ≡ b → cond a (Some p.universe) (universe_in ps name) ≡ Some universe
          → test p.universe one ≡ true
          → (universe_in ps name ≡ Some universe → Given universe (value_of name (with_arguments ps rest)))
          → Given universe (cond b (Some one) (value_of name (with_arguments ps rest)))
      by true true same e fits later =
          (one, refl, subst (λ u. test u one ≡ true) (same_Some p.universe universe e) fits, pass.0)
      by false false same e fits later = later e
      by true false same e fits later = absurd (true≢false same)
      by false true same e fits later = absurd (true≢false (sym same))

-- ---- arguments that are well formed

module _ (rows : List (DeclAt × Head)) (others : List Parameter) where
  abbrev Formed : Argument → Type 0
  Formed one = argument_formed (fits rows others) rows others one ≡ true

  all_pass : (args : Arguments) → all_formed (fits rows others) rows others args ≡ true
      → AllPass (fits rows others) Formed args
  unfolding all_formed
  all_pass no_arguments formed = tt
  all_pass (arguments one rest) formed =
      let both = and_parts (argument_formed (fits rows others) rows others one)
      (all_formed (fits rows others) rows others rest) formed in
      (both.0, all_pass rest both.1)

  stands_in : (o : Option Argument) (value : Argument) (universe : Universe) (name : List ℕ) → o ≡ Some value
      → stand_in o universe name ≡ value
  stands_in (Some one) value universe name e = same_Some one value e
  stands_in None value universe name e = absurd (none-some value e)

  -- a type's arguments are bindings that are well formed
  pub arguments_well : (ps : List Parameter) (args : Arguments) → all_fit (fits rows others) ps args ≡ true
      → all_formed (fits rows others) rows others args ≡ true
      → BindingsAreWellFormed rows ps others (with_arguments ps args)
  arguments_well ps args fit formed name universe e =
      by (argument_given (fits rows others) Formed ps args fit (all_pass args formed) name universe e)
    where
      by : (value : Argument) × (value_of name (with_arguments ps args) ≡ Some value)
          × (fits rows others universe value ≡ true) × Formed value
          → (fits rows others universe (stand_in (value_of name (with_arguments ps args)) universe name) ≡ true)
          × Formed (stand_in (value_of name (with_arguments ps args)) universe name)
      by (value, is, one, other) =
          let its = stands_in (value_of name (with_arguments ps args)) value universe name is in
          (ap (fits rows others universe) its ∙ one, subst Formed (sym its) other)

-- ---- arguments of which all are Free

joined_free : (u v : TypeUniverse) → joined u v ≡ Free → (u ≡ Free) × (v ≡ Free)
joined_free Free v e = (refl, e)
joined_free Linear v e = absurd cc
joined_free AnyUniverse Free e = absurd cc
joined_free AnyUniverse Linear e = absurd cc
joined_free AnyUniverse AnyUniverse e = absurd cc

joined_low : (u v : TypeUniverse) → (joined u v ≡ Linear → ⊥) → (u ≡ Linear → ⊥) × (v ≡ Linear → ⊥)
joined_low Free v low = (λ e. absurd cc, low)
joined_low Linear v low = absurd (low refl)
joined_low AnyUniverse Free low = (λ e. absurd cc, λ e. absurd cc)
joined_low AnyUniverse Linear low = absurd (low refl)
joined_low AnyUniverse AnyUniverse low = (λ e. absurd cc, λ e. absurd cc)

region_wanted : (universe : Universe) (region : Region) (rows : List (DeclAt × Head)) (others : List Parameter)
    → fits rows others universe (in_region region) ≡ true → is_some (of_parameter (Some universe)) ≡ true → ⊥
region_wanted universes.Free region rows others fit some = true≢false (sym fit)
region_wanted universes.Linear region rows others fit some = true≢false (sym fit)
region_wanted universes.AnyType region rows others fit some = true≢false (sym fit)
region_wanted universes.Region region rows others fit some = true≢false (sym some)

module _ (rows : List (DeclAt × Head)) (others : List Parameter) where
  -- what is given for a type parameter is Free where all arguments are
  pub arguments_free : (ps : List Parameter) (args : Arguments) → all_fit (fits rows others) ps args ≡ true
      → judged (argument_universes rows others args) ≡ Free
      → (name : List ℕ) → is_some (of_parameter (universe_in ps name)) ≡ true
      → universe_of rows others (type_for (value_of name (with_arguments ps args)) name) ≡ Free
  unfolding argument_universes argument_universe
  arguments_free [] args fit free name some = absurd (true≢false (sym some))
  arguments_free (p ∷ ps) no_arguments fit free name some = absurd (true≢false (sym fit))
  arguments_free (p ∷ ps) (arguments one rest) fit free name some =
      let both = and_parts (fits rows others p.universe one) (all_fit (fits rows others) ps rest) fit in
      let each = joined_free (judged (argument_universe rows others one)) (judged (argument_universes rows others rest))
      (sym (judged_both (argument_universe rows others one) (argument_universes rows others rest)) ∙ free) in
      subst (λ o. universe_of rows others (type_for o name) ≡ Free)
      (sym (value_of-with name p.name one (with_arguments ps rest)))
      (by one (bytes_eq p.name name) (bytes_eq name p.name) (same_names p.name name) some both.0 each.0
      (arguments_free ps rest both.1 each.1 name))
    where
      by : (one : Argument) (a b : Bool) → a ≡ b
          → is_some (of_parameter (cond a (Some p.universe) (universe_in ps name))) ≡ true
          → fits rows others p.universe one ≡ true → judged (argument_universe rows others one) ≡ Free
          → (is_some (of_parameter (universe_in ps name)) ≡ true
          → universe_of rows others (type_for (value_of name (with_arguments ps rest)) name) ≡ Free)
          → universe_of rows others (type_for (cond b (Some one) (value_of name (with_arguments ps rest))) name) ≡ Free
      by (of_type t) true true same some fits free later = sym (judged_one (universe_of rows others t)) ∙ free
      by (in_region region) true true same some fits free later =
          absurd (region_wanted p.universe region rows others fits some)
      by one false false same some fits free later = later some
      by one true false same some fits free later = absurd (true≢false same)
      by one false true same some fits free later = absurd (true≢false (sym same))

-- ---- types that aren't Linear are Free where all that is put is

module _ (rows : List (DeclAt × Head)) (params others : List Parameter) (s : Bindings)
    (frees : (name : List ℕ) → is_some (of_parameter (universe_in params name)) ≡ true
    → universe_of rows others (type_for (value_of name s) name) ≡ Free) where
  declared_low : (own : Universe) (u v : TypeUniverse) → (of_declaration own u ≡ Linear → ⊥)
      → ((u ≡ Linear → ⊥) → v ≡ Free) → of_declaration own v ≡ Free
  declared_low universes.Free u v low later = refl
  declared_low universes.Linear u v low later = absurd (low refl)
  declared_low universes.AnyType u v low later = later low
  declared_low universes.Region u v low later = later low

  row_low : (row : Option Head) (args : Arguments) (u v : TypeUniverse) → fit_row fits_in_kind row args ≡ true
      → (of_row row u ≡ Linear → ⊥) → ((u ≡ Linear → ⊥) → v ≡ Free) → of_row row v ≡ Free
  row_low None args u v fit low later = absurd (true≢false (sym fit))
  row_low (Some head) args u v fit low later = declared_low head.universe u v low later

  mutual
    unfolding universe_of argument_universe argument_universes is_formed argument_formed all_formed

    pub low_free : (t : Meaning) → is_formed fits_in_kind rows params t ≡ true
        → (universe_of rows params t ≡ Linear → ⊥) → universe_of rows others (substituted s t) ≡ Free
    low_free unit stands low = refl
    low_free truth stands low = refl
    low_free (integer kind) stands low = refl
    low_free text stands low = refl
    low_free (parameter name) stands low = frees name stands
    low_free (named at args) stands low =
        let both = and_parts (fit_row fits_in_kind (head_of rows at) args)
        (all_formed fits_in_kind rows params args) stands in
        row_low (head_of rows at) args (judged (argument_universes rows params args))
        (judged (argument_universes rows others (all_substituted s args))) both.0 low (all_low args both.1)
    low_free (reads t region) stands low = refl
    low_free (writes t region) stands low = absurd (low refl)

    argument_low : (one : Argument) → argument_formed fits_in_kind rows params one ≡ true
        → (judged (argument_universe rows params one) ≡ Linear → ⊥)
        → judged (argument_universe rows others (argument_substituted s one)) ≡ Free
    argument_low (of_type t) stands low =
        judged_one (universe_of rows others (substituted s t))
        ∙ low_free t stands (λ e. low (judged_one (universe_of rows params t) ∙ e))
    argument_low (in_region region) stands low = judged_empty

    all_low : (args : Arguments) → all_formed fits_in_kind rows params args ≡ true
        → (judged (argument_universes rows params args) ≡ Linear → ⊥)
        → judged (argument_universes rows others (all_substituted s args)) ≡ Free
    all_low no_arguments stands low = judged_empty
    all_low (arguments one rest) stands low =
        let both = and_parts (argument_formed fits_in_kind rows params one)
        (all_formed fits_in_kind rows params rest) stands in
        let lows = joined_low (judged (argument_universe rows params one)) (judged (argument_universes rows params rest))
        (λ e. low (judged_both (argument_universe rows params one) (argument_universes rows params rest) ∙ e)) in
        judged_both (argument_universe rows others (argument_substituted s one))
        (argument_universes rows others (all_substituted s rest))
        ∙ ap (λ u. joined u (judged (argument_universes rows others (all_substituted s rest))))
        (argument_low one both.0 lows.0)
        ∙ all_low rest both.1 lows.1
