-- What stands for type parameters: universes, closed types, and a region more.
use Rattle.std.proofs.Common.{◌≡◌, ℕ, Bool, true, false, cond, true≢false, List, [], None, Some, refl, sym}
use Rattle.std.proofs.Common.{ap, ◌∙◌}
use Rattle.std.proofs.Common.{subst}
use Rattle.std.specs.Prelude.{IsTrue, is_some}
use Rattle.std.specs.Str.{bytes_eq}
use Rattle.std.proofs.lemmas.Option.{none-some}
use Rattle.std.proofs.lemmas.Slice.Eq.{bytes_eq-Decides}
use Rattle.au_syntax.specs.declared.declarations.Universe.{Universe}
use Rattle.au_syntax.specs.Plain.{Bytes}
use Rattle.au_types.specs.declared.headings.Head.{Head}
use Rattle.au_types.specs.declared.parameters.Parameter.{Parameter}
use Rattle.au_types.specs.declared.types.DeclAt.{DeclAt}
use Rattle.au_types.specs.declared.types.Region.{Region}
use Rattle.au_types.specs.Types.{Argument, Meaning, in_region, parameter, reads}
use Rattle.au_types.specs.Universes.{universe_in}
use Rattle.au_matching.specs.Bindings.{Bindings, value_of, with_pair}
use Rattle.au_matching.specs.Fitting.{BindingsFit, stand_in}
use Rattle.au_matching.specs.Forming.{argument_formed, fits}
use Rattle.au_matching.specs.Substituted.{substituted, type_for}
use Rattle.au_matching.specs.Universes.{is_free, of_parameter, universe_of}
use Rattle.au_matching.specs.declared.universes.TypeUniverse.{TypeUniverse}
use Rattle.au_matching.specs.declared.universes.TypeUniverse.TheVariants.{Free, Linear, AnyUniverse}
use Rattle.au_matching.proofs.BindingLemmas.{value_of-with}
use Rattle.au_matching.proofs.LawLemmas.{well_formed_stands}
use Rattle.au_matching.proofs.SubstitutedLemmas.{each_so}
use Rattle.au_matching.proofs.SubstitutingUniverseLemmas.{free_kept}
use Rattle.au_type_texts.specs.Closing.{closed}
use Rattle.au_type_texts.specs.Given.{Given, closed_under, given_for}
use Rattle.au_running_types.specs.Running.{running, token}
use Rattle.au_running_types.proofs.ClosedLemmas.{type_closes}
use Rattle.au_running_types.proofs.UniverseLemmas.{universe_stays}
use Rattle.au_written_types.specs.Written.{IsRegionName, IsTypeName}
use Rattle.au_modules.specs.Programs.{ModuleParts}
use Rattle.au_names.specs.HeadsOf.{heads_of}
use Rattle.au_tables.specs.Tables.{types_of}
use Rattle.au_known_types.specs.Known.{IsKnown}
use Rattle.au_judged_bodies.specs.StandingTypesStanding.{StandsFor}

free_is : (u : TypeUniverse) → is_free u ≡ true → u ≡ Free
free_is Free e = refl
free_is Linear e = absurd (true≢false (sym e))
free_is AnyUniverse e = absurd (true≢false (sym e))

pub free_runs : (program : List ModuleParts) (params : List Parameter) (regions : List Bytes) (given : Given)
    (s : Bindings)
    (z : ℕ) (t : Meaning) → StandsFor (heads_of program) params given s → IsKnown (heads_of program) params regions t
    → is_free (universe_of (heads_of program) params t) ≡ true → (types_of program).is_free (running s z t) ≡ true
free_runs program params regions given s z t stands known free =
    ap is_free
    (free_kept (universe_of heads params t) (universe_of heads [] (running s z t))
    (universe_stays heads params [] s z t fitting (well_formed_stands heads params t known.0))
    (free_is (universe_of heads params t) free))
  where
    heads : List (DeclAt × Head)
    heads = heads_of program

    fitting : BindingsFit heads params [] s
    fitting = λ name universe e. (stands.formed name universe e).0

pub reader_free : (program : List ModuleParts) (t : Meaning) (region : Region)
    → (types_of program).is_free (reads t region) ≡ true
unfolding universe_of
reader_free program t region = refl

-- ---- a region more

module _ (region : Bytes) (value : Argument) (s : Bindings) where
  value_other : (name : List ℕ) → (name ≡ region → ⊥) → value_of name s ≡ value_of name (with_pair region value s)
  value_other name other = by (bytes_eq name region) refl
    where
      by : (b : Bool) → bytes_eq name region ≡ b → value_of name s ≡ value_of name (with_pair region value s)
      by true is = absurd (other ((bytes_eq-Decides name region).0 is))
      by false is = sym (value_of-with name region value s ∙ ap (λ b. cond b (Some value) (value_of name s)) is)

pub region_opens : (heads : List (DeclAt × Head)) (params : List Parameter) (given : Given) (s : Bindings)
    (region : Bytes)
    (z : ℕ) → StandsFor heads params given s → universe_in params region ≡ None
    → StandsFor heads params given (with_pair region (in_region (token z)) s)
region_opens heads params given s region z stands new = record {
  formed = λ name universe e. subst (λ o. Formed universe (stand_in o universe name)) (kept name universe e)
      (stands.formed name universe e);
  closes = λ name is. subst (λ o. closed (type_for o name) ≡ Some (given_for given name)) (named name is)
      (stands.closes name is);
}
  where
    value : Argument
    value = in_region (token z)

    Formed : Universe → Argument → Type 0
    Formed universe one = IsTrue (fits heads [] universe one) × IsTrue (argument_formed (fits heads []) heads [] one)

    kept : (name : List ℕ) (universe : Universe) → universe_in params name ≡ Some universe
        → value_of name s ≡ value_of name (with_pair region (in_region (token z)) s)
    kept name universe e =
        value_other region (in_region (token z)) s name
        (λ same. none-some universe (sym new ∙ ap (universe_in params) (sym same) ∙ e))

    named : (name : List ℕ) → IsTypeName params name
        → value_of name s ≡ value_of name (with_pair region (in_region (token z)) s)
    named name is =
        value_other region (in_region (token z)) s name
        (λ same. true≢false (sym is ∙ ap (λ n. is_some (of_parameter (universe_in params n))) same
        ∙ ap (λ o. is_some (of_parameter o)) new))

-- ---- closed types

pub known_closes : (heads : List (DeclAt × Head)) (params : List Parameter) (regions : List Bytes) (given : Given)
    (s : Bindings) (z : ℕ) (t : Meaning) → StandsFor heads params given s → IsKnown heads params regions t
    → closed (running s z t) ≡ Some (closed_under given t)
known_closes heads params regions given s z t stands known =
    type_closes s z given t
    (each_so (IsTypeName params) (λ name. closed (substituted s (parameter name)) ≡ Some (given_for given name))
    (IsRegionName regions params) (λ name. Unit {0}) stands.closes (λ name is. tt) t known.1)
