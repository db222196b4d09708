-- What holds of a type at a place with type parameters holds of what it closes to.
use Rattle.std.proofs.Common.{◌≡◌, ◌||◌, Bool, true, false, cond, List, [], ◌∷◌, Option, None, Some, refl}
use Rattle.std.proofs.Common.{sym, ap, subst, ◌∙◌}
use Rattle.std.specs.Str.{bytes_eq}
use Rattle.std.proofs.lemmas.Slice.Eq.{bytes_eq-Decides}
use Rattle.au_syntax.specs.declared.declarations.Universe.{Universe}
use Rattle.au_syntax.specs.Plain.{Bytes}
use Rattle.au_types.specs.declared.headings.Head.{Head}
use Rattle.au_types.specs.declared.parameters.Parameter.{Parameter}
use Rattle.au_types.specs.declared.types.DeclAt.{DeclAt}
use Rattle.au_types.specs.declared.types.Region.TheVariants.{Named}
use Rattle.au_types.specs.Types.{Meaning, Argument, Arguments, unit, truth, integer, text, parameter, named}
use Rattle.au_types.specs.Types.{reads, writes, of_type, in_region, no_arguments, arguments}
use Rattle.au_types.specs.Universes.{universe_in}
use Rattle.au_matching.specs.Bindings.{Bindings, value_of, GivesType, GivesRegion}
use Rattle.au_matching.specs.Composed.{composed}
use Rattle.au_matching.specs.Substituted.{type_for, region_substituted, substituted, argument_substituted}
use Rattle.au_matching.specs.Substituted.{all_substituted, Fixes, EachNameOf, EachNameOfAll}
use Rattle.au_matching.proofs.BindingLemmas.{value_of-with}
use Rattle.au_matching.proofs.ComposedLemmas.{twice}
use Rattle.au_matching.proofs.SubstitutedLemmas.{each_so, fixes_suits}
use Rattle.au_matching.specs.Fitting.{stand_in, BindingsFit}
use Rattle.au_matching.proofs.SubstitutingUniverseLemmas.{universe_kept}
use Rattle.au_matching.specs.Forming.{ArgumentStandsOver, StandsOver, all_formed, fits, fits_in_kind}
use Rattle.au_matching.specs.Universes.{universe_of}
use Rattle.au_matching.proofs.SubstitutingFormedLemmas.{takes_kept}
use Rattle.au_type_texts.specs.Closing.{closed}
use Rattle.au_type_texts.specs.Types.{ClosedType}
use Rattle.au_judged_types.specs.Bounds.{constrains, parameters}
use Rattle.au_instances.specs.declared.constructors.Constructor.{Constructor}
use Rattle.au_instances.specs.Becoming.{Becomes}
use Rattle.au_instances.specs.ClosedInstances as closing
use Rattle.au_instances.specs.ClosedInstances.{ClosedHolds, ClosedInstance}
use Rattle.au_instances.specs.Constructors.{constructor_of}
use Rattle.au_instances.specs.Forms.{HasForm, arguments_of, is_called, name_of, stands_in}
use Rattle.au_instances.specs.Instances.{Known, Instance, by_row, Holds, assumed, given}
use Rattle.au_instances.specs.Laws.{ValuesMeet}
use Rattle.au_instances.specs.Rows.{Row}
use Rattle.au_instances.specs.Tables.{IsTable}
use Rattle.au_instances.proofs.BecomingLemmas.{parameter_stands}
use Rattle.au_instances.proofs.PairLemmas.{constrained_stands}
use Rattle.au_instances.proofs.StandingLemmas.{arguments_stand, first_stands}

-- ---- one substitution after another

-- what the first gives, with the second put into it, and else what the second gives
abbrev after : Bindings → Option Argument → Option Argument → Option Argument
after second None other = other
after second (Some value) other = Some (argument_substituted second value)

value_after : (name : Bytes) (first second : Bindings) → value_of name (composed first second)
    ≡ after second (value_of name first) (value_of name second)
value_after name [] second = refl
value_after name (p ∷ first) second =
    value_of-with name p.0 (argument_substituted second p.1) (composed first second)
    ∙ by (bytes_eq name p.0) (value_after name first second)
  where
    by : (b : Bool) → value_of name (composed first second) ≡ after second (value_of name first) (value_of name second)
        → cond b (Some (argument_substituted second p.1)) (value_of name (composed first second))
        ≡ after second (cond b (Some p.1) (value_of name first)) (value_of name second)
    by true rest = refl
    by false rest = rest

some_after : (name : Bytes) (first second : Bindings) (value : Argument) → value_of name first ≡ Some value →
    value_of name (composed first second) ≡ Some (argument_substituted second value)
some_after name first second value e = value_after name first second ∙ ap (λ o. after second o (value_of name second)) e

-- what the first fixes, both fix
fixes_after : (first second : Bindings) (t : Meaning) → Fixes first t → Fixes (composed first second) t
fixes_after first second t fixed =
    each_so (GivesType first) (GivesType (composed first second)) (GivesRegion first)
    (GivesRegion (composed first second))
    (λ name gives. (substituted second gives.0, some_after name first second (of_type gives.0) gives.1))
    (λ name gives. (
      region_substituted second gives.0,
      some_after name first second (in_region gives.0)
          gives.1,
    )) t fixed

-- ---- the arguments of a head

fixes_arguments : (s : Bindings) (head : Meaning) → Fixes s head → EachNameOfAll (GivesType s) (GivesRegion s)
    (arguments_of head)
fixes_arguments s unit h = tt
fixes_arguments s truth h = tt
fixes_arguments s (integer kind) h = tt
fixes_arguments s text h = tt
fixes_arguments s (parameter name) h = tt
fixes_arguments s (named at args) h = h
fixes_arguments s (reads to region) h = tt
fixes_arguments s (writes to region) h = tt

arguments_substituted : (s : Bindings) (head : Meaning) (one : Constructor) → constructor_of head ≡ Some one →
    arguments_of (substituted s head) ≡ all_substituted s (arguments_of head)
arguments_substituted s unit one e = refl
arguments_substituted s truth one e = refl
arguments_substituted s (integer kind) one e = refl
arguments_substituted s text one e = refl
arguments_substituted s (parameter name) one e = absurd cc
arguments_substituted s (named at args) one e = refl
arguments_substituted s (reads to region) one e = refl
arguments_substituted s (writes to region) one e = refl

module _ (heads : List (DeclAt × Head)) (scope : List Parameter) where
  arguments_of_stand : (t : Meaning) → StandsOver heads scope t →
      all_formed fits_in_kind heads scope (arguments_of t) ≡ true
  unfolding all_formed
  arguments_of_stand unit h = refl
  arguments_of_stand truth h = refl
  arguments_of_stand (integer kind) h = refl
  arguments_of_stand text h = refl
  arguments_of_stand (parameter name) h = refl
  arguments_of_stand (named at args) h = arguments_stand heads scope at args h
  arguments_of_stand (reads to region) h = refl
  arguments_of_stand (writes to region) h = refl

  -- what a name among the arguments of a head is given stands as the arguments do
  walk_given : (q : Bindings) (names : Arguments) (name : Bytes) → EachNameOfAll (GivesType q) (GivesRegion q)
      names → all_formed fits_in_kind heads scope (all_substituted q names) ≡ true → stands_in name names ≡ true
      → (value : Argument) × (value_of name q ≡ Some value) × ArgumentStandsOver heads scope value
  walk_given q no_arguments name fixed formed stands = absurd cc
  walk_given q (arguments one rest) name fixed formed stands =
      let both = first_stands heads scope (argument_substituted q one) (all_substituted q rest) formed in
      by (is_called name (name_of one)) refl both.0 (walk_given q rest name fixed.1 both.1) stands
    where
      here : (one : Argument) → EachNameOf (GivesType q) (GivesRegion q) one → is_called name (name_of one)
          ≡ true → ArgumentStandsOver heads scope (argument_substituted q one) → (value : Argument)
          × (value_of name q ≡ Some value) × ArgumentStandsOver heads scope value
      here (of_type (parameter other)) gives called formed = (
        of_type gives.0,
        ap (λ n. value_of n q) ((bytes_eq-Decides name other).0 called) ∙ gives.1,
        subst (λ o. StandsOver heads scope (type_for o other)) gives.1 formed,
      )
      here (of_type t) gives called formed = absurd cc
      here (in_region (Named other)) gives called formed =
          (in_region gives.0, ap (λ n. value_of n q) ((bytes_eq-Decides name other).0 called) ∙ gives.1, tt)
      here (in_region region) gives called formed = absurd cc

      by : (b : Bool) → is_called name (name_of one) ≡ b → ArgumentStandsOver heads scope (argument_substituted q one)
          → (stands_in name rest ≡ true → (value : Argument) × (value_of name q ≡ Some value)
          × ArgumentStandsOver heads scope value)
          → (b || stands_in name rest) ≡ true → (value : Argument) × (value_of name q ≡ Some value)
          × ArgumentStandsOver heads scope value
      by true called formed later stands = here one fixed.0 called formed
      by false called formed later stands = later stands

  module _ (s : Bindings) (fit : BindingsFit heads scope [] s) where
    fits_after : (wanted : Universe) (value : Argument) → ArgumentStandsOver heads scope value →
        fits heads scope wanted value ≡ true → fits heads [] wanted (argument_substituted s value) ≡ true
    fits_after wanted (of_type t) stands taken = takes_kept wanted (universe_of heads scope t)
        (universe_of heads [] (substituted s t)) (universe_kept heads scope [] s fit t stands) taken
    fits_after wanted (in_region region) stands taken = taken

    -- ---- a head that becomes a type becomes what the type becomes

    becomes_after : (row : Row) (t : Meaning) (q : Bindings) → HasForm row.generics row.head →
        StandsOver heads scope t → Becomes heads scope row t q → Becomes heads [] row (substituted s t)
        (composed q s)
    becomes_after row t q form stands becomes = record {
      makes = record {
        extends = λ name value h. nothing name value h;
        fixes = fixes_after q s row.head becomes.makes.fixes;
        equal = sym (twice q s row.head (fixes_suits q row.head becomes.makes.fixes))
            ∙ ap (substituted s) becomes.makes.equal;
      };
      fit = λ name universe e. fit_so name universe e
          (given_so name (parameter_stands heads scope (parameters row.generics) q (parameters row.generics)
          (arguments_of row.head) name universe form.stand e));
    }
      where
        nothing : (name : Bytes) (value : Argument) → value_of name [] ≡ Some value →
            value_of name (composed q s) ≡ Some value
        nothing name value h = absurd cc

        formed : all_formed fits_in_kind heads scope (all_substituted q (arguments_of row.head)) ≡ true
        formed =
            subst (λ args. all_formed fits_in_kind heads scope args ≡ true)
            (ap arguments_of (sym becomes.makes.equal) ∙ arguments_substituted q row.head form.constructor
            form.heads) (arguments_of_stand t stands)

        given_so : (name : Bytes) → stands_in name (arguments_of row.head) ≡ true → (value : Argument)
            × (value_of name q ≡ Some value) × ArgumentStandsOver heads scope value
        given_so name there = walk_given q (arguments_of row.head) name
            (fixes_arguments q row.head becomes.makes.fixes) formed there

        fit_so : (name : Bytes) (universe : Universe) → universe_in (parameters row.generics) name
            ≡ Some universe → (value : Argument) × (value_of name q ≡ Some value)
            × ArgumentStandsOver heads scope value
            → fits heads [] universe (stand_in (value_of name (composed q s)) universe name) ≡ true
        fit_so name universe e value =
            subst (λ o. fits heads [] universe (stand_in o universe name) ≡ true)
            (sym (some_after name q s value.0 value.1))
            (fits_after universe value.0 value.2
            (subst (λ o. fits heads scope universe (stand_in o universe name) ≡ true) value.1
            (becomes.fit name universe e)))

    -- a value that a name among the arguments of a head has after both substitutions
    constraint_closed : {P : Type 0} (row : Row) (t : Meaning) (q : Bindings) →
        HasForm row.generics row.head → StandsOver heads scope t → Becomes heads scope row t q
        → (name : Bytes) (wanted : DeclAt) (value : Meaning) (part : ClosedType) →
        constrains row.generics name wanted ≡ true → value_of name (composed q s) ≡ Some (of_type value) →
        closed value ≡ Some part
        → ((x : Meaning) → value_of name q ≡ Some (of_type x) → StandsOver heads scope x →
        closed (substituted s x) ≡ Some part → P) → P
    constraint_closed {P} row t q form stands becomes name wanted value part c is closes holds =
        by (walk_given q (arguments_of row.head) name (fixes_arguments q row.head becomes.makes.fixes) formed
        (constrained_stands row.generics (arguments_of row.head) name wanted form.stand c))
      where
        formed : all_formed fits_in_kind heads scope (all_substituted q (arguments_of row.head)) ≡ true
        formed =
            subst (λ args. all_formed fits_in_kind heads scope args ≡ true)
            (ap arguments_of (sym becomes.makes.equal) ∙ arguments_substituted q row.head form.constructor
            form.heads) (arguments_of_stand t stands)

        at : (v : Argument) → value_of name q ≡ Some v → ArgumentStandsOver heads scope v →
            Some (argument_substituted s v) ≡ Some (of_type value) → P
        at (of_type x) e x_stands same =
            let value_is : substituted s x ≡ value = cc in
            holds x e x_stands (ap closed value_is ∙ closes)
        at (in_region region) e x_stands same = absurd cc

        by : (v : Argument) × (value_of name q ≡ Some v) × ArgumentStandsOver heads scope v → P
        by v = at v.0 v.1 v.2 (sym (some_after name q s v.0 v.1) ∙ is)

    -- ---- what holds of a type holds of what it closes to

    module _ (rows : List Row) (known : Known) (table : IsTable rows) (met : ValuesMeet rows heads known s) where
      mutual
        pub holds_closed : (class : DeclAt) (t : Meaning) → Holds rows heads scope known class t →
            (u : ClosedType) → StandsOver heads scope t → closed (substituted s t) ≡ Some u →
            ClosedHolds rows heads class u
        holds_closed class t (assumed one name h) u stands closes = by (value_of name s) refl closes
          where
            by : (o : Option Argument) → value_of name s ≡ o → closed (type_for o name) ≡ Some u →
                ClosedHolds rows heads one u
            by None e c = absurd cc
            by (Some (of_type v)) e c = met name one v u h e c
            by (Some (in_region region)) e c = absurd cc
        holds_closed class t (given one v row instance) u stands closes =
            closing.given one u row (instance_closed one v row instance u stands closes)

        pub instance_closed : (class : DeclAt) (t : Meaning) (row : Row) →
            Instance rows heads scope known class t row → (u : ClosedType) → StandsOver heads scope t →
            closed (substituted s t) ≡ Some u → ClosedInstance rows heads class u row
        instance_closed class t row (by_row one v r q listed of_class becomes constraints) u stands closes =
            closing.by_row one u r (composed q s) listed of_class
            (record {
              whole = substituted s v;
              becomes = becomes_after r v q (table.formed r listed) stands
                  becomes;
              closes = closes;
            })
            (λ name wanted value part c given_so closes_so.
            constraint_closed r v q (table.formed r listed) stands becomes name wanted value part c given_so
            closes_so (λ x e x_stands x_closes. holds_closed wanted x (constraints name wanted x c e) part
            x_stands x_closes))
