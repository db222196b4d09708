-- What holds of a type in a body holds of the type where the body runs.
use Rattle.std.proofs.Common.{◌≡◌, ◌⊎◌, inl, inr, ℕ, ◌||◌, Bool, true, false, true≢false, List, [], Option, None, Some, refl}
use Rattle.std.proofs.Common.{sym, ap, ◌∙◌, subst}
use Rattle.std.specs.Prelude.{Contains, IsTrue, is_some, option_to_list}
use Rattle.std.specs.Option.{option_map}
use Rattle.std.proofs.lemmas.Bool.{and_from, and_parts}
use Rattle.std.proofs.lemmas.List.Elements.{Contains-append_left}
use Rattle.std.proofs.lemmas.Option.{none-some}
use Rattle.std.proofs.lemmas.Slice.Eq.{bytes_eq-Decides}
use Rattle.au_syntax.specs.declared.declarations.Universe.{Universe}
use Rattle.au_syntax.specs.declared.declarations.Universe.TheVariants as universes
use Rattle.au_syntax.specs.Plain.{Bytes}
use Rattle.au_types.specs.declared.headings.Head.{Head}
use Rattle.au_types.specs.declared.parameters.Parameter.{Parameter}
use Rattle.au_types.specs.declared.types.DeclAt.{DeclAt}
use Rattle.au_types.specs.declared.types.Region.{Region}
use Rattle.au_types.specs.declared.types.Region.TheVariants.{Static, Named, Anonymous}
use Rattle.au_types.specs.Types.{Meaning, Argument, Arguments, unit, truth, integer, text, parameter, named}
use Rattle.au_types.specs.Types.{reads, writes, of_type, in_region, no_arguments, arguments}
use Rattle.au_types.specs.Universes.{universe_in}
use Rattle.au_matching.specs.Bindings.{Bindings, GivesRegion, GivesType, value_of}
use Rattle.au_matching.specs.Fitting.{BindingsAreWellFormed, BindingsFit, stand_in}
use Rattle.au_matching.specs.Forming.{ArgumentStandsOver, StandsOver, all_formed, argument_formed, fits, fits_in_kind}
use Rattle.au_matching.specs.Forming.{is_formed}
use Rattle.au_matching.specs.Substituted.{EachNameOf, EachNameOfAll, Fixes, all_substituted, argument_substituted}
use Rattle.au_matching.specs.Substituted.{region_for, region_substituted, substituted, type_for}
use Rattle.au_matching.specs.Universes.{of_parameter, universe_of}
use Rattle.au_matching.proofs.SubstitutedLemmas.{each_so}
use Rattle.au_matching.proofs.SubstitutingFormedLemmas.{takes_kept}
use Rattle.au_judged_types.specs.Bounds.{Bounded, constrains, parameters}
use Rattle.au_instances.specs.declared.constructors.Constructor.{Constructor}
use Rattle.au_instances.specs.Becoming.{Becomes}
use Rattle.au_instances.specs.Constructors.{constructor_of}
use Rattle.au_instances.specs.Forms.{HasForm, are_closed, are_distinct, are_parameters, arguments_of, is_called, is_closed}
use Rattle.au_instances.specs.Forms.{is_one_of, is_static, name_of, stands_in}
use Rattle.au_instances.specs.Instances.{Holds, Instance, Known, assumed, by_row, given, is_known}
use Rattle.au_instances.specs.Pairs.{constraints_of}
use Rattle.au_instances.specs.Rows.{Row}
use Rattle.au_instances.specs.Tables.{IsTable}
use Rattle.au_instances.proofs.BecomingLemmas.{parameter_stands}
use Rattle.au_instances.proofs.PairLemmas.{constrained_stands, constraint_listed, listed_constrains, none_holds}
use Rattle.au_instances.proofs.StandingLemmas.{arguments_stand, first_stands}
use Rattle.au_classes.specs.Rows.{rows_of}
use Rattle.au_running_types.specs.Running.{are_lasting, argument_lasting, argument_running, called, is_lasting}
use Rattle.au_running_types.specs.Running.{all_running, is_lasting_region, region_running, running}
use Rattle.au_running_types.proofs.NameLemmas.{callees_run, type_called}
use Rattle.au_running_types.proofs.UniverseLemmas.{universe_stays}
use Rattle.au_modules.specs.Programs.{ModuleParts}
use Rattle.au_names.specs.HeadsOf.{heads_of}
use Rattle.au_closing_laws.proofs.FitLemmas.{lack_there}
use Rattle.au_closing_laws.proofs.ScopeLemmas.{known_listed}
use Rattle.au_judged_bodies.specs.Calls.{first_lacking, lacking_at, wanted_of}
use Rattle.au_judged_bodies.specs.Lookups.{parameters_in}
use Rattle.au_judged_bodies.specs.Scopes.{Callable, Scope}
use Rattle.au_judged_bodies.specs.Keys.{ConstraintsHold}

-- ---- heads of rows: `~` stands in none

static_lasts : (region : Region) → is_static region ≡ true → is_lasting_region region ≡ true
static_lasts Static e = refl
static_lasts (Named name) e = refl
static_lasts Anonymous e = absurd cc

mutual
  closed_lasts : (t : Meaning) → is_closed t ≡ true → is_lasting t ≡ true
  closed_lasts unit e = refl
  closed_lasts truth e = refl
  closed_lasts (integer kind) e = refl
  closed_lasts text e = refl
  closed_lasts (parameter name) e = refl
  closed_lasts (named at args) e = closed_last args e
  closed_lasts (reads to region) e =
      let both = and_parts (is_closed to) (is_static region) e in
      and_from (is_lasting to) (is_lasting_region region) (closed_lasts to both.0) (static_lasts region both.1)
  closed_lasts (writes to region) e =
      let both = and_parts (is_closed to) (is_static region) e in
      and_from (is_lasting to) (is_lasting_region region) (closed_lasts to both.0) (static_lasts region both.1)

  closed_last : (args : Arguments) → are_closed args ≡ true → are_lasting args ≡ true
  closed_last no_arguments e = refl
  closed_last (arguments (of_type t) rest) e =
      let both = and_parts (is_closed t) (are_closed rest) e in
      and_from (is_lasting t) (are_lasting rest) (closed_lasts t both.0) (closed_last rest both.1)
  closed_last (arguments (in_region region) rest) e =
      let both = and_parts (is_static region) (are_closed rest) e in
      and_from (is_lasting_region region) (are_lasting rest) (static_lasts region both.0) (closed_last rest both.1)

parameter_lasts : (params : List Parameter) (one : Argument) → is_one_of params (name_of one) one ≡ true
    → argument_lasting one ≡ true
parameter_lasts params (of_type (parameter name)) own = refl
parameter_lasts params (of_type t) own = absurd cc
parameter_lasts params (in_region (Named name)) own = refl
parameter_lasts params (in_region region) own = absurd cc

parameters_last : (params : List Parameter) (args : Arguments) → are_parameters params args ≡ true
    → are_lasting args ≡ true
parameters_last params no_arguments own = refl
parameters_last params (arguments one rest) own =
    let both = and_parts (is_one_of params (name_of one) one) (are_parameters params rest) own in
    and_from (argument_lasting one) (are_lasting rest) (parameter_lasts params one both.0)
    (parameters_last params rest both.1)

constructor_lasts : (t : Meaning) (one : Constructor) → constructor_of t ≡ Some one
    → are_lasting (arguments_of t) ≡ true → is_lasting t ≡ true
constructor_lasts unit one e lasts = refl
constructor_lasts truth one e lasts = refl
constructor_lasts (integer kind) one e lasts = refl
constructor_lasts text one e lasts = refl
constructor_lasts (parameter name) one e lasts = refl
constructor_lasts (named at args) one e lasts = lasts
constructor_lasts (reads to region) one e lasts = absurd cc
constructor_lasts (writes to region) one e lasts = absurd cc

pub head_lasts : (generics : List Bounded) (head : Meaning) → HasForm generics head → is_lasting head ≡ true
head_lasts generics head form = by form.over
  where
    by : IsTrue (is_closed head) ⊎ (IsTrue (are_parameters (parameters generics) (arguments_of head))
        × IsTrue (are_distinct (arguments_of head)))
        → is_lasting head ≡ true
    by (inl h) = closed_lasts head h
    by (inr h) =
        constructor_lasts head form.constructor form.heads
        (parameters_last (parameters generics) (arguments_of head) h.0)

-- ---- types without `~`

module _ (s : Bindings) (z : ℕ) where
  region_alike : (region : Region) → is_lasting_region region ≡ true
      → region_running s z region ≡ region_substituted s region
  region_alike Static e = refl
  region_alike (Named name) e = refl
  region_alike Anonymous e = absurd cc

  mutual
    -- where they run they are what the bindings put into them
    pub lasting_alike : (t : Meaning) → is_lasting t ≡ true → running s z t ≡ substituted s t
    lasting_alike unit e = refl
    lasting_alike truth e = refl
    lasting_alike (integer kind) e = refl
    lasting_alike text e = refl
    lasting_alike (parameter name) e = refl
    lasting_alike (named at args) e = ap (named at) (all_alike args e)
    lasting_alike (reads to region) e =
        let both = and_parts (is_lasting to) (is_lasting_region region) e in
        λ i. reads (lasting_alike to both.0 i) (region_alike region both.1 i)
    lasting_alike (writes to region) e =
        let both = and_parts (is_lasting to) (is_lasting_region region) e in
        λ i. writes (lasting_alike to both.0 i) (region_alike region both.1 i)

    all_alike : (args : Arguments) → are_lasting args ≡ true → all_running s z args ≡ all_substituted s args
    all_alike no_arguments e = refl
    all_alike (arguments (of_type t) rest) e =
        let both = and_parts (is_lasting t) (are_lasting rest) e in
        λ i. arguments (of_type (lasting_alike t both.0 i)) (all_alike rest both.1 i)
    all_alike (arguments (in_region region) rest) e =
        let both = and_parts (is_lasting_region region) (are_lasting rest) e in
        λ i. arguments (in_region (region_alike region both.0 i)) (all_alike rest both.1 i)

-- ---- the arguments of a head, and of the type that it becomes

-- P of each argument
abbrev pub EachArgument : (Argument → Type 0) → Arguments → Type 0
EachArgument P no_arguments = Unit {0}
EachArgument P (arguments one rest) = P one × EachArgument P rest

-- what a name among the arguments of a head is given is an argument of the type
pub argument_given : (P : Argument → Type 0) (q : Bindings) (names : Arguments) (name : Bytes)
    → EachNameOfAll (GivesType q) (GivesRegion q) names → EachArgument P (all_substituted q names)
    → stands_in name names ≡ true → (value : Argument) × (value_of name q ≡ Some value) × P value
argument_given P q no_arguments name fixed each stands = absurd cc
argument_given P q (arguments one rest) name fixed each stands =
    by (is_called name (name_of one)) refl each.0 (argument_given P q rest name fixed.1 each.1) stands
  where
    here : (one : Argument) → EachNameOf (GivesType q) (GivesRegion q) one → is_called name (name_of one) ≡ true
        → P (argument_substituted q one) → (value : Argument) × (value_of name q ≡ Some value) × P value
    here (of_type (parameter other)) gives is p = (
      of_type gives.0,
      ap (λ n. value_of n q) ((bytes_eq-Decides name other).0 is) ∙ gives.1,
      subst (λ o. P (of_type (type_for o other))) gives.1 p,
    )
    here (of_type t) gives is p = absurd cc
    here (in_region (Named other)) gives is p = (
      in_region gives.0,
      ap (λ n. value_of n q) ((bytes_eq-Decides name other).0 is) ∙ gives.1,
      subst (λ o. P (in_region (region_for o other))) gives.1 p,
    )
    here (in_region region) gives is p = absurd cc

    by : (b : Bool) → is_called name (name_of one) ≡ b → P (argument_substituted q one)
        → (stands_in name rest ≡ true → (value : Argument) × (value_of name q ≡ Some value) × P value)
        → (b || stands_in name rest) ≡ true → (value : Argument) × (value_of name q ≡ Some value) × P value
    by true is p later h = here one fixed.0 is p
    by false is p later h = later h

pub arguments_fixed : (q : Bindings) (t : Meaning) → Fixes q t
    → EachNameOfAll (GivesType q) (GivesRegion q) (arguments_of t)
arguments_fixed q unit fixed = tt
arguments_fixed q truth fixed = tt
arguments_fixed q (integer kind) fixed = tt
arguments_fixed q text fixed = tt
arguments_fixed q (parameter name) fixed = tt
arguments_fixed q (named at args) fixed = fixed
arguments_fixed q (reads to region) fixed = tt
arguments_fixed q (writes to region) fixed = tt

pub arguments_become : (q : Bindings) (head : Meaning) (one : Constructor) → constructor_of head ≡ Some one
    → arguments_of (substituted q head) ≡ all_substituted q (arguments_of head)
arguments_become q unit one e = refl
arguments_become q truth one e = refl
arguments_become q (integer kind) one e = refl
arguments_become q text one e = refl
arguments_become q (parameter name) one e = absurd cc
arguments_become q (named at args) one e = refl
arguments_become q (reads to region) one e = absurd cc
arguments_become q (writes to region) one e = absurd cc

-- the value of a name that is among the arguments of a row's head
pub value_given : {heads : List (DeclAt × Head)} {scope : List Parameter} (P : Argument → Type 0) (row : Row)
    (t : Meaning)
    (q : Bindings) → HasForm row.generics row.head → Becomes heads scope row t q
    → EachArgument P (arguments_of t) → (name : Bytes) → stands_in name (arguments_of row.head) ≡ true
    → (value : Argument) × (value_of name q ≡ Some value) × P value
value_given P row t q form becomes each name there =
    argument_given P q (arguments_of row.head) name (arguments_fixed q row.head becomes.makes.fixes)
    (subst (EachArgument P)
    (ap arguments_of (sym becomes.makes.equal) ∙ arguments_become q row.head form.constructor form.heads) each) there

-- ---- arguments that stand

module _ (heads : List (DeclAt × Head)) (scope : List Parameter) where
  each_stands : (args : Arguments) → all_formed fits_in_kind heads scope args ≡ true
      → EachArgument (ArgumentStandsOver heads scope) args
  each_stands no_arguments h = tt
  each_stands (arguments one rest) h =
      let both = first_stands heads scope one rest h in (both.0, each_stands rest both.1)

  pub arguments_over : (t : Meaning) → StandsOver heads scope t
      → EachArgument (ArgumentStandsOver heads scope) (arguments_of t)
  arguments_over unit h = tt
  arguments_over truth h = tt
  arguments_over (integer kind) h = tt
  arguments_over text h = tt
  arguments_over (parameter name) h = tt
  arguments_over (named at args) h = each_stands args (arguments_stand heads scope at args h)
  arguments_over (reads to region) h = tt
  arguments_over (writes to region) h = tt

-- ---- what holds of a type holds of the type where it runs

module _ (rows : List Row) (heads : List (DeclAt × Head)) (table : IsTable rows) (scope : List Parameter)
    (known : Known)
    (s : Bindings) (z : ℕ) (formed : BindingsAreWellFormed heads scope [] s)
    (met : (name : Bytes) (class : DeclAt) (value : Meaning) → is_known known name class ≡ true
    → value_of name s ≡ Some (of_type value) → Holds rows heads [] [] class value) where
  fitting : BindingsFit heads scope [] s
  fitting name universe e = (formed name universe e).0

  fits_running : (wanted : Universe) (value : Argument) → ArgumentStandsOver heads scope value
      → fits heads scope wanted value ≡ true → fits heads [] wanted (argument_running s z value) ≡ true
  fits_running wanted (of_type t) stands taken =
      takes_kept wanted (universe_of heads scope t) (universe_of heads [] (running s z t))
      (universe_stays heads scope [] s z t fitting stands) taken
  fits_running wanted (in_region region) stands taken = taken

  running_value : (q : Bindings) (name : Bytes) (value : Argument) → value_of name q ≡ Some value
      → value_of name (called s z q) ≡ Some (argument_running s z value)
  running_value q name value e = callees_run s q z name ∙ ap (option_map (argument_running s z)) e

  becomes_runs : (row : Row) (t : Meaning) (q : Bindings) → HasForm row.generics row.head → StandsOver heads scope t
      → Becomes heads scope row t q → Becomes heads [] row (running s z t) (called s z q)
  becomes_runs row t q form stands becomes = record {
    makes = record {
      extends = λ name value h. absurd (none-some value h);
      fixes = each_so (GivesType q) (GivesType (called s z q)) (GivesRegion q) (GivesRegion (called s z q))
          (λ name its. (running s z its.0, running_value q name (of_type its.0) its.1))
          (λ name its. (region_running s z its.0, running_value q name (in_region its.0) its.1))
          row.head becomes.makes.fixes;
      equal = sym (lasting_alike (called s z q) 0 row.head (head_lasts row.generics row.head form))
          ∙ type_called s q (called s z q) z 0 (callees_run s q z) row.head (head_lasts row.generics row.head form)
          becomes.makes.fixes
          ∙ ap (running s z) becomes.makes.equal;
    };
    fit = λ name universe e.
        let its = value_given (ArgumentStandsOver heads scope) row t q form becomes
        (arguments_over heads scope t stands) name
        (parameter_stands heads scope (parameters row.generics) q (parameters row.generics) (arguments_of row.head) name
        universe form.stand e) in
        subst (λ o. fits heads [] universe (stand_in o universe name) ≡ true) (sym (running_value q name its.0 its.1))
        (fits_running universe its.0 its.2
        (subst (λ o. fits heads scope universe (stand_in o universe name) ≡ true) its.1 (becomes.fit name universe e)));
  }

  -- what a name has a type for where the caller runs, it has one for in the caller
  type_before : {P : Type 0} (row : Row) (t : Meaning) (q : Bindings) → HasForm row.generics row.head
      → StandsOver heads scope t → Becomes heads scope row t q → (name : Bytes) (class : DeclAt) (value : Meaning)
      → constrains row.generics name class ≡ true → value_of name (called s z q) ≡ Some (of_type value)
      → ((x : Meaning) → value_of name q ≡ Some (of_type x) → StandsOver heads scope x → running s z x ≡ value → P) → P
  type_before {P} row t q form stands becomes name class value c is then_so =
      by (value_given (ArgumentStandsOver heads scope) row t q form becomes (arguments_over heads scope t stands) name
      (constrained_stands row.generics (arguments_of row.head) name class form.stand c))
    where
      at : (v : Argument) → value_of name q ≡ Some v → ArgumentStandsOver heads scope v
          → Some (argument_running s z v) ≡ Some (of_type value) → P
      at (of_type x) e over same = let value_is : running s z x ≡ value = cc in then_so x e over value_is
      at (in_region region) e over same = absurd cc

      by : (v : Argument) × (value_of name q ≡ Some v) × ArgumentStandsOver heads scope v → P
      by v = at v.0 v.1 v.2 (sym (running_value q name v.0 v.1) ∙ is)

  -- a type parameter stands for a type
  name_stands : {P : Type 0} (name : Bytes) → StandsOver heads scope (parameter name)
      → ((value : Meaning) → value_of name s ≡ Some (of_type value) → P) → P
  unfolding is_formed argument_formed
  name_stands {P} name h then_so = of (universe_in scope name) refl h
    where
      at : (universe : Universe) (o : Option Argument) → value_of name s ≡ o
          → (fits heads [] universe (stand_in o universe name) ≡ true)
          × (argument_formed (fits heads []) heads [] (stand_in o universe name) ≡ true)
          → fits_in_kind universe (of_type unit) ≡ true → P
      at universe (Some (of_type value)) is both sort = then_so value is
      at universes.Free (Some (in_region r)) is both sort = absurd (true≢false (sym both.0))
      at universes.Linear (Some (in_region r)) is both sort = absurd (true≢false (sym both.0))
      at universes.AnyType (Some (in_region r)) is both sort = absurd (true≢false (sym both.0))
      at universes.Region (Some (in_region r)) is both sort = absurd (true≢false (sym sort))
      at universes.Free None is both sort = absurd (true≢false (sym both.1))
      at universes.Linear None is both sort = absurd (true≢false (sym both.1))
      at universes.AnyType None is both sort = absurd (true≢false (sym both.1))
      at universes.Region None is both sort = absurd (true≢false (sym sort))

      of : (o : Option Universe) → universe_in scope name ≡ o → is_some (of_parameter o) ≡ true → P
      of None e own = absurd (true≢false (sym own))
      of (Some universes.Free) e own = at universes.Free (value_of name s) refl (formed name universes.Free e) refl
      of (Some universes.Linear) e own =
          at universes.Linear (value_of name s) refl (formed name universes.Linear e) refl
      of (Some universes.AnyType) e own =
          at universes.AnyType (value_of name s) refl (formed name universes.AnyType e) refl
      of (Some universes.Region) e own = absurd (true≢false (sym own))

  mutual
    pub holds_run : (class : DeclAt) (t : Meaning) → Holds rows heads scope known class t → StandsOver heads scope t
        → Holds rows heads [] [] class (running s z t)
    holds_run class t (assumed one name h) stands =
        name_stands name stands
        (λ value is. subst (Holds rows heads [] [] one) (sym (ap (λ o. type_for o name) is)) (met name one value h is))
    holds_run class t (given one v row instance) stands =
        given one (running s z v) row (instance_runs one v row instance stands)

    pub instance_runs : (class : DeclAt) (t : Meaning) (row : Row) → Instance rows heads scope known class t row
        → StandsOver heads scope t → Instance rows heads [] [] class (running s z t) row
    instance_runs class t row (by_row one v r q listed of_class becomes constraints) stands =
        by_row one (running s z v) r (called s z q) listed of_class
        (becomes_runs r v q (table.formed r listed) stands becomes)
        (λ name wanted value c is.
        type_before r v q (table.formed r listed) stands becomes name wanted value c is
        (λ x e over same. subst (Holds rows heads [] [] wanted) same
        (holds_run wanted x (constraints name wanted x c e) over)))

-- ---- what a call wants

-- the constraints that are known in a body hold where it runs
pub known_holds : (program : List ModuleParts) (generics : List Bounded) (s : Bindings) → ConstraintsHold program
    generics s
    → (name : Bytes) (class : DeclAt) (value : Meaning) → is_known (constraints_of generics) name class ≡ true
    → value_of name s ≡ Some (of_type value) → Holds (rows_of program) (heads_of program) [] [] class value
known_holds program generics s holds name class value known is =
    holds name class value
    (listed_constrains generics name class (known_listed (constraints_of generics) name class known)) is

-- a constraint of what is called is wanted
pub constraint_wanted : (called : Callable) (p : Bytes) (class : DeclAt) → constrains called.generics p class ≡ true
    → Contains (wanted_of called) (p, class)
constraint_wanted called p class c =
    Contains-append_left (constraints_of called.generics) (option_to_list called.class) (p, class)
    (constraint_listed called.generics p class c)

-- what is wanted holds where nothing is lacking
pub held_here : (sc : Scope) → IsTable sc.outside.instances → (put : Bindings) (wanted : Known)
    → first_lacking sc put wanted ≡ None → (p : Bytes) (class : DeclAt) (t : Meaning) → value_of p put ≡ Some
    (of_type t)
    → Contains wanted (p, class)
    → Holds sc.outside.instances sc.outside.heads (parameters_in sc) (constraints_of sc.generics) class t
held_here sc table put wanted none p class t is there =
    none_holds sc.outside.instances sc.outside.heads (parameters_in sc) (constraints_of sc.generics) table t class
    (sym (ap (lacking_at sc class) is) ∙ lack_there sc put wanted (p, class) none there)
