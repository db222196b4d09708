-- What stands for the type parameters of a row whose head becomes a type that runs.
use Rattle.std.proofs.Common.{◌≡◌, ℕ, ◌||◌, Bool, true, false, true≢false, cond, List, [], ◌∷◌, Option}
use Rattle.std.proofs.Common.{None, Some, refl, sym, ap, ◌∙◌, subst}
use Rattle.std.specs.Prelude.{is_some}
use Rattle.std.specs.List.{list_any}
use Rattle.std.specs.Map.{lookup}
use Rattle.std.specs.Str.{bytes_eq}
use Rattle.std.proofs.lemmas.Bool.{and_parts}
use Rattle.std.proofs.lemmas.Option.{none-some, same_Some}
use Rattle.std.proofs.lemmas.Slice.Eq.{bytes_eq-Decides}
use Rattle.au_base.proofs.OptionLemmas.{map_some}
use Rattle.au_syntax.specs.declared.declarations.Universe.{Universe}
use Rattle.au_syntax.specs.declared.declarations.Universe.TheVariants as universes
use Rattle.au_syntax.specs.Plain.{Bytes}
use Rattle.au_types.specs.declared.headings.Head.{Head}
use Rattle.au_types.specs.declared.parameters.Parameter.{Parameter}
use Rattle.au_types.specs.declared.types.DeclAt.{DeclAt}
use Rattle.au_types.specs.Rows.{head_of}
use Rattle.au_types.specs.Types as whole
use Rattle.au_types.specs.Types.{Meaning, Argument, Arguments, of_type, in_region, no_arguments, arguments, parameter}
use Rattle.au_types.specs.Universes.{universe_in}
use Rattle.au_matching.specs.Bindings.{Bindings, value_of}
use Rattle.au_matching.specs.Fitting.{BindingsAreWellFormed, stand_in}
use Rattle.au_matching.specs.Forming.{IsWellFormed, all_formed, argument_formed, fit_row, fits, is_formed}
use Rattle.au_matching.specs.Substituted.{all_substituted, region_for, substituted, type_for}
use Rattle.au_matching.specs.Universes.{of_parameter}
use Rattle.au_judged_types.specs.Bounds.{Bounded, parameters}
use Rattle.au_type_texts.specs.Closing.{all_closed, closed, in_front}
use Rattle.au_type_texts.specs.Given.{closed_or_unit, given_for}
use Rattle.au_type_texts.specs.Types.{ClosedType, ClosedTypes, unit, truth, integer, text, named, reads, writes}
use Rattle.au_type_texts.specs.Types.{no_types, types}
use Rattle.au_instances.specs.Becoming.{Becomes}
use Rattle.au_instances.specs.ClosedInstances.{types_in}
use Rattle.au_instances.specs.Forms.{HasForm, are_parameters, arguments_of, is_called, stands_in, type_name}
use Rattle.au_instances.specs.Rows.{Row}
use Rattle.au_instances.proofs.BecomingLemmas.{parameter_stands}
use Rattle.au_instances.proofs.FormLemmas.{form_over}
use Rattle.au_written_types.specs.Written.{IsTypeName}
use Rattle.au_closing_laws.proofs.RowLemmas.{among, picked_found, type_named}
use Rattle.au_judged_bodies.specs.TypeNames.{is_region, listed, type_names}
use Rattle.au_judged_bodies.specs.Instances.{given_of_row, pair_before, paired, types_within}
use Rattle.au_judged_bodies.specs.Known.{InScope}
use Rattle.au_judged_bodies.specs.StandingTypesStanding.{StandsFor}
use Rattle.au_judged_bodies.specs.Callees.{RegionsStand}
use Rattle.au_judged_bodies.specs.Frames.{AreUsable, IsUsable, IsUsableArgument, TypesAreUsable}
use Rattle.au_judged_programs.proofs.HoldLemmas.{EachArgument, arguments_become, value_given}

-- ---- arguments

-- those of a type that is well formed are
module _ (heads : List (DeclAt × Head)) (params : List Parameter) where
  abbrev pub IsFormed : Argument → Type 0
  IsFormed one = argument_formed (fits heads params) heads params one ≡ true

  each_formed : (args : Arguments) → all_formed (fits heads params) heads params args ≡ true → EachArgument IsFormed
      args
  unfolding all_formed
  each_formed no_arguments h = tt
  each_formed (arguments one rest) h =
      let both = and_parts (argument_formed (fits heads params) heads params one)
      (all_formed (fits heads params) heads params rest) h in
      (both.0, each_formed rest both.1)

  arguments_formed : (t : Meaning) → IsWellFormed heads params t → EachArgument IsFormed (arguments_of t)
  unfolding is_formed
  arguments_formed whole.unit h = tt
  arguments_formed whole.truth h = tt
  arguments_formed (whole.integer kind) h = tt
  arguments_formed whole.text h = tt
  arguments_formed (parameter name) h = tt
  arguments_formed (whole.named at args) h =
      each_formed args (and_parts (fit_row (fits heads params) (head_of heads at) args)
      (all_formed (fits heads params) heads params args) h).1
  arguments_formed (whole.reads to region) h = tt
  arguments_formed (whole.writes to region) h = tt

-- those of a type that is usable are
module _ (active : ℕ → Bool) where
  each_usable : (args : Arguments) → AreUsable active args → EachArgument (IsUsableArgument active) args
  each_usable no_arguments h = tt
  each_usable (arguments one rest) h = (h.0, each_usable rest h.1)

  arguments_usable : (t : Meaning) → IsUsable active t → EachArgument (IsUsableArgument active) (arguments_of t)
  arguments_usable whole.unit h = tt
  arguments_usable whole.truth h = tt
  arguments_usable (whole.integer kind) h = tt
  arguments_usable whole.text h = tt
  arguments_usable (parameter name) h = tt
  arguments_usable (whole.named at args) h = each_usable args h
  arguments_usable (whole.reads to region) h = tt
  arguments_usable (whole.writes to region) h = tt

-- those of a type that closes close
arguments_close : (u : Meaning) (t : ClosedType) → closed u ≡ Some t
    → (list : ClosedTypes) × (all_closed (arguments_of u) ≡ Some list) × (types_within t ≡ listed list)
arguments_close whole.unit t e = (no_types, refl, ap types_within (sym (same_Some unit t e)))
arguments_close whole.truth t e = (no_types, refl, ap types_within (sym (same_Some truth t e)))
arguments_close (whole.integer kind) t e = (no_types, refl, ap types_within (sym (same_Some (integer kind) t e)))
arguments_close whole.text t e = (no_types, refl, ap types_within (sym (same_Some text t e)))
arguments_close (parameter name) t e = absurd (none-some t e)
arguments_close (whole.named at args) t e =
    let there = map_some (named at) (all_closed args) t e in (there.0, there.1, ap types_within (sym there.2))
arguments_close (whole.reads to region) t e =
    let there = map_some reads (closed to) t e in (no_types, refl, ap types_within (sym there.2))
arguments_close (whole.writes to region) t e =
    let there = map_some writes (closed to) t e in (no_types, refl, ap types_within (sym there.2))

-- ---- what is paired with the names of a head

front_gave : (o : Option ClosedType) (rest : Option ClosedTypes) (list : ClosedTypes) → in_front o rest ≡ Some list
    → (first : ClosedType) × (others : ClosedTypes) × (o ≡ Some first) × (rest ≡ Some others)
    × (types first others ≡ list)
front_gave None rest list e = absurd (none-some list e)
front_gave (Some first) None list e = absurd (none-some list e)
front_gave (Some first) (Some others) list e = (first, others, refl, refl, same_Some (types first others) list e)

named_parameter : (u : Meaning) (name : Bytes) → type_name u ≡ Some name → u ≡ parameter name
named_parameter whole.unit name e = absurd (none-some name e)
named_parameter whole.truth name e = absurd (none-some name e)
named_parameter (whole.integer kind) name e = absurd (none-some name e)
named_parameter whole.text name e = absurd (none-some name e)
named_parameter (parameter other) name e = ap parameter (same_Some other name e)
named_parameter (whole.named at args) name e = absurd (none-some name e)
named_parameter (whole.reads to region) name e = absurd (none-some name e)
named_parameter (whole.writes to region) name e = absurd (none-some name e)

module _ (q : Bindings) (name : Bytes) where
  -- what a type parameter among the names stands for closes to what is paired with it
  pairs_close : (names : Arguments) (list : ClosedTypes) → all_closed (all_substituted q names) ≡ Some list
      → list_any (λ t. is_called name (type_name t)) (types_in names) ≡ true
      → closed (substituted q (parameter name)) ≡ Some (given_for (paired (types_in names) (listed list)) name)
  pairs_close no_arguments list e there = absurd (true≢false (sym there))
  pairs_close (arguments (in_region region) rest) list e there = pairs_close rest list e there
  pairs_close (arguments (of_type u) rest) list e there =
      let its = front_gave (closed (substituted q u)) (all_closed (all_substituted q rest)) list e in
      subst (λ l. closed (substituted q (parameter name)) ≡ Some
      (given_for (paired (types_in (arguments (of_type u) rest))
      (listed l)) name)) its.4
      (by its.0 its.1 its.2 (type_name u) refl there (λ later. pairs_close rest its.1 its.3 later))
    where
      at : (other : Bytes) (b : Bool) → bytes_eq name other ≡ b → (first : ClosedType) (others : ClosedTypes)
          → closed (substituted q (parameter other)) ≡ Some first
          → (b || list_any (λ t. is_called name (type_name t)) (types_in rest)) ≡ true
          → (list_any (λ t. is_called name (type_name t)) (types_in rest) ≡ true
          → closed (substituted q (parameter name)) ≡ Some (given_for (paired (types_in rest) (listed others)) name))
          → closed (substituted q (parameter name))
          ≡ Some (closed_or_unit (cond b (Some first) (lookup (bytes_eq name)
          (paired (types_in rest) (listed others)))))
      at other true same first others closes h later =
          ap (λ n. closed (substituted q (parameter n))) ((bytes_eq-Decides name other).0 same) ∙ closes
      at other false same first others closes h later = later h

      by : (first : ClosedType) (others : ClosedTypes) → closed (substituted q u) ≡ Some first → (o : Option Bytes)
          → type_name u ≡ o
          → (is_called name o || list_any (λ t. is_called name (type_name t)) (types_in rest)) ≡ true
          → (list_any (λ t. is_called name (type_name t)) (types_in rest) ≡ true
          → closed (substituted q (parameter name)) ≡ Some (given_for (paired (types_in rest) (listed others)) name))
          → closed (substituted q (parameter name))
          ≡ Some (given_for (pair_before (type_name u) first (paired (types_in rest) (listed others))) name)
      by first others closes None is h later =
          later h ∙ ap (λ o. Some (given_for (pair_before o first (paired (types_in rest) (listed others))) name))
          (sym is)
      by first others closes (Some other) is h later =
          at other (bytes_eq name other) refl first others
          (ap (λ t. closed (substituted q t)) (sym (named_parameter u other is)) ∙ closes) h later
          ∙ ap (λ o. Some (given_for (pair_before o first (paired (types_in rest) (listed others))) name)) (sym is)

-- ---- the type parameters of a row

-- a type parameter that isn't a region has a universe that isn't that of regions
type_universe : {P : Type 0} (params : List Parameter) (name : Bytes) → IsTypeName params name
    → ((universe : Universe) → universe_in params name ≡ Some universe → is_region universe ≡ false → P) → P
type_universe {P} params name some then_so = by (universe_in params name) refl some
  where
    by : (o : Option Universe) → universe_in params name ≡ o → is_some (of_parameter o) ≡ true → P
    by None e is = absurd (true≢false (sym is))
    by (Some universes.Free) e is = then_so universes.Free e refl
    by (Some universes.Linear) e is = then_so universes.Linear e refl
    by (Some universes.AnyType) e is = then_so universes.AnyType e refl
    by (Some universes.Region) e is = absurd (true≢false (sym is))

-- the arguments of a head are type parameters of its row, where this has any
head_own : (generics : List Bounded) (head : Meaning) → HasForm generics head → (name : Bytes) (universe : Universe)
    → universe_in (parameters generics) name ≡ Some universe
    → are_parameters (parameters generics) (arguments_of head) ≡ true
head_own [] head form name universe e = absurd (none-some universe e)
head_own (first ∷ others) head form name universe e =
    let over = form_over first others head form in
    ap (λ h. are_parameters (parameters (first ∷ others)) (arguments_of h)) over.is ∙ over.own

module _ (heads : List (DeclAt × Head)) (row : Row) (form : HasForm row.generics row.head) (t : Meaning) (q : Bindings)
    (becomes : Becomes heads [] row t q) where
  abbrev params : List Parameter
  params = parameters row.generics

  among_arguments : (name : Bytes) (universe : Universe) → universe_in params name ≡ Some universe
      → stands_in name (arguments_of row.head) ≡ true
  among_arguments name universe e =
      parameter_stands heads [] params q params (arguments_of row.head) name universe form.stand e

  -- what stands for a type parameter is an argument of the type
  value_there : (P : Argument → Type 0) → EachArgument P (arguments_of t) → (name : Bytes) (universe : Universe)
      → universe_in params name ≡ Some universe → (value : Argument) × (value_of name q ≡ Some value) × P value
  value_there P each name universe e = value_given P row t q form becomes each name (among_arguments name universe e)

  formed_so : IsWellFormed heads [] t → BindingsAreWellFormed heads params [] q
  formed_so formed name universe e =
      let its = value_there (IsFormed heads []) (arguments_formed heads [] t formed) name universe e in (
        becomes.fit name universe e,
        subst (λ o. IsFormed heads [] (stand_in o universe name)) (sym its.1) its.2,
      )

  closes_so : (c : ClosedType) → closed t ≡ Some c → (name : Bytes) → IsTypeName params name
      → closed (substituted q (parameter name)) ≡ Some (given_for (given_of_row row c) name)
  closes_so c closes name some = type_universe params name some from
    where
      from : (universe : Universe) → universe_in params name ≡ Some universe → is_region universe ≡ false
          → closed (substituted q (parameter name)) ≡ Some (given_for (given_of_row row c) name)
      from universe e own =
          let its = arguments_close t c closes in
          let args : all_closed (all_substituted q (arguments_of row.head)) ≡ Some its.0 =
          ap all_closed (sym (arguments_become q row.head form.constructor form.heads)
          ∙ ap arguments_of becomes.makes.equal) ∙ its.1 in
          pairs_close q name (arguments_of row.head) its.0 args
          (among params (arguments_of row.head) name universe e own
          (head_own row.generics row.head form name universe e) (among_arguments name universe e))
          ∙ ap (λ l. Some (given_for (paired (types_in (arguments_of row.head)) l) name)) (sym its.2)
          ∙ ap Some (sym (picked_found (paired (types_in (arguments_of row.head)) (types_within c))
          (type_names params) name
          (type_named params name universe e own)))

  pub row_stands : IsWellFormed heads [] t → (c : ClosedType) → closed t ≡ Some c
      → StandsFor heads params (given_of_row row c) q
  row_stands formed c closes = record {
    formed = formed_so formed;
    closes = λ name some. closes_so c closes name some;
  }

  -- ---- regions

  module _ (active : ℕ → Bool) (usable : IsUsable active t) where
    its_value : (name : Bytes) (universe : Universe) → universe_in params name ≡ Some universe
        → (value : Argument) × (value_of name q ≡ Some value) × IsUsableArgument active value
    its_value = value_there (IsUsableArgument active) (arguments_usable active t usable)

    pub row_regions : RegionsStand active params q
    row_regions name e = by (its_value name universes.Region e)
      where
        at : (v : Argument) → value_of name q ≡ Some v → IsUsableArgument active v
            → fits heads [] universes.Region v ≡ true → InScope active (region_for (value_of name q) name)
        at (in_region r) is usable fit = subst (λ o. InScope active (region_for o name)) (sym is) usable
        at (of_type u) is usable fit = absurd (true≢false (sym fit))

        by : (v : Argument) × (value_of name q ≡ Some v) × IsUsableArgument active v
            → InScope active (region_for (value_of name q) name)
        by (v, is, usable) =
            at v is usable (subst (λ o. fits heads [] universes.Region (stand_in o universes.Region name) ≡ true) is
            (becomes.fit name universes.Region e))

    pub row_types : TypesAreUsable active params q
    row_types name some = type_universe params name some (λ universe e own. by (its_value name universe e))
      where
        at : (v : Argument) → IsUsableArgument active v → IsUsable active (type_for (Some v) name)
        at (of_type u) usable = usable
        at (in_region r) usable = tt

        by : (v : Argument) × (value_of name q ≡ Some v) × IsUsableArgument active v
            → IsUsable active (type_for (value_of name q) name)
        by (v, is, usable) = subst (λ o. IsUsable active (type_for o name)) (sym is) (at v usable)
