-- Frames at a place of a body, and how they fit where a variable or a region comes.
use Rattle.std.proofs.Common.{◌≡◌, ◌⊎◌, inl, inr, ℕ, ◌<◌, ◌≤◌, ◌==◌, ◌||◌, Bool, true, false, cond}
use Rattle.std.proofs.Common.{true≢false, List}
use Rattle.std.proofs.Common.{◌∷◌, Option, None, Some, refl, sym, ap, ◌∙◌, subst, arith, if◌then◌else◌}
use Rattle.std.specs.Prelude.{is_some}
use Rattle.std.specs.List.{list_any}
use Rattle.std.specs.Str.{bytes_eq}
use Rattle.std.proofs.lemmas.Bool.{eq-eqb, ne_eqb}
use Rattle.std.proofs.lemmas.Option.{none-some, same_Some}
use Rattle.std.proofs.lemmas.Slice.Eq.{bytes_eq-Decides}
use Rattle.au_syntax.specs.declared.declarations.Universe.TheVariants as universes
use Rattle.au_syntax.specs.Plain.{Bytes}
use Rattle.au_types.specs.Types.{Meaning, Argument, Arguments, unit, truth, integer, text, parameter, named}
use Rattle.au_types.specs.Types.{reads, writes, of_type, in_region, no_arguments, arguments}
use Rattle.au_types.specs.Universes.{universe_in}
use Rattle.au_matching.specs.Bindings.{Bindings, value_of, with_pair}
use Rattle.au_matching.specs.Substituted.{region_for, type_for}
use Rattle.au_matching.specs.Universes.{of_parameter}
use Rattle.au_matching.proofs.BindingLemmas.{value_of-with}
use Rattle.au_matching.proofs.SubstitutedLemmas.{each_so}
use Rattle.au_type_texts.specs.Given.{Given, closed_under}
use Rattle.au_type_texts.specs.Types.{ClosedType}
use Rattle.au_running_types.specs.Running.{is_lasting, running, token}
use Rattle.au_running_types.proofs.NameLemmas.{type_alike, type_lasts}
use Rattle.au_written_types.specs.Written.{IsRegionName, IsTypeName}
use Rattle.au_memory.specs.Loans.{Types}
use Rattle.au_typing.specs.Good.{AllGood}
use Rattle.au_typing.specs.InScope.{with_variable}
use Rattle.au_typing.specs.Lookups.{parameters_in, variable_of}
use Rattle.au_typing.specs.Notes.{Note, NotedExpression, mode_of, type_of}
use Rattle.au_typing.specs.Scopes.{Scope, Variable}
use Rattle.au_meaning.specs.Names as meaning
use Rattle.au_meaning.specs.Views.{View}
use Rattle.au_known_types.specs.Known.{IsKnownIn, ModeIsKnownIn, ScopeIsKnown}
use Rattle.au_known_types.proofs.KnownLemmas.{opened_known}
use Rattle.au_known_types.proofs.ScopeLemmas.{variable_added}
use Rattle.au_running_lives.specs.Expressions.{IsOf}
use Rattle.au_running_lives.specs.Known.{Callables, InScope, with_token}
use Rattle.au_running_lives.specs.Lives.{put}
use Rattle.au_running_lives.specs.Blocks.{IsWholeOf}
use Rattle.au_running_lives.specs.Held.{Permits}
use Rattle.au_judged_bodies.specs.Frames.{AreUsable, FrameFits, IsUsable, VariableIsThere}
use Rattle.au_judged_bodies.specs.TypedRunsLaws.{Keeps}
use Rattle.au_judged_bodies.proofs.TypedRunsExpressionLemmas.{runs}
use Rattle.au_judged_bodies.specs.Besides.{IsNewRegion}
use Rattle.au_judged_bodies.specs.Rounds.{PlaceFits, VariableStands}

-- ---- names by number

pub put_own : {A : Type 0} (n : ℕ) (a : A) (all : ℕ → A) → put n a all n ≡ a
put_own n a all = ap (λ (b : Bool). if b then a else all n) (eq-eqb n n refl)

pub put_other : {A : Type 0} (n k : ℕ) (a : A) (all : ℕ → A) → (n ≡ k → ⊥) → put n a all k ≡ all k
put_other n k a all other = ap (λ (b : Bool). if b then a else all k) (ne_eqb n k other)

more_scoped : (active : ℕ → Bool) (z : ℕ) (region : _) → InScope active region → InScope (with_token z active) region
more_scoped active z region (inl static) = inl static
more_scoped active z region (inr (y, is, on)) = inr (y, is, by (z == y) on)
  where
    by : (b : Bool) → active y ≡ true → (if b then true else active y) ≡ true
    by true on = refl
    by false on = on

module _ (active : ℕ → Bool) (z : ℕ) where
  mutual
    more_usable : (t : Meaning) → IsUsable active t → IsUsable (with_token z active) t
    more_usable unit usable = tt
    more_usable truth usable = tt
    more_usable (integer kind) usable = tt
    more_usable text usable = tt
    more_usable (parameter name) usable = tt
    more_usable (named at args) usable = all_more args usable
    more_usable (reads to region) usable = (more_usable to usable.0, more_scoped active z region usable.1)
    more_usable (writes to region) usable = (more_usable to usable.0, more_scoped active z region usable.1)

    all_more : (args : Arguments) → AreUsable active args → AreUsable (with_token z active) args
    all_more no_arguments usable = tt
    all_more (arguments (of_type t) rest) usable = (more_usable t usable.0, all_more rest usable.1)
    all_more (arguments (in_region region) rest) usable =
        (more_scoped active z region usable.0, all_more rest usable.1)

with_own : (active : ℕ → Bool) (z : ℕ) → with_token z active z ≡ true
with_own active z = ap (λ (b : Bool). if b then true else active z) (eq-eqb z z refl)

-- ---- the region of a borrow statement

not_a_name : (sc : Scope) (region : Bytes) → IsNewRegion sc region → IsTypeName (parameters_in sc) region → ⊥
not_a_name sc region new is = true≢false (sym is ∙ ap (λ o. is_some (of_parameter o)) new.1)

not_a_region : (sc : Scope) (region : Bytes) → IsNewRegion sc region
    → IsRegionName sc.regions (parameters_in sc) region → ⊥
not_a_region sc region new (inl is) = true≢false (sym is ∙ new.0)
not_a_region sc region new (inr is) = none-some universes.Region (sym new.1 ∙ is)

module _ (region : Bytes) (value : Argument) (s : Bindings) where
  value_other : (name : List ℕ) → (name ≡ region → ⊥) → value_of name s ≡ value_of name (with_pair region value s)
  value_other name other = by (bytes_eq name region) refl
    where
      by : (b : Bool) → bytes_eq name region ≡ b → value_of name s ≡ value_of name (with_pair region value s)
      by true is = absurd (other ((bytes_eq-Decides name region).0 is))
      by false is = sym (value_of-with name region value s ∙ ap (λ b. cond b (Some value) (value_of name s)) is)

  -- types that are known stay as they are where a new region comes
  pub opened_stays : (sc : Scope) → IsNewRegion sc region → (z : ℕ) (t : Meaning) → IsKnownIn sc t
      → running s z t ≡ running (with_pair region value s) z t
  opened_stays sc new z t known =
      type_alike s (with_pair region value s) z t
      (each_so (IsTypeName (parameters_in sc)) (λ name. value_of name s ≡ value_of name (with_pair region value s))
      (IsRegionName sc.regions (parameters_in sc))
      (λ name. value_of name s ≡ value_of name (with_pair region value s))
      (λ name is. value_other name
      (λ same. not_a_name sc region new (subst (IsTypeName (parameters_in sc)) same is)))
      (λ name is. value_other name
      (λ same. not_a_region sc region new (subst (IsRegionName sc.regions (parameters_in sc)) same is))) t known.1)

scope_opened : (region : Bytes) (sc : Scope) → ScopeIsKnown sc → ScopeIsKnown
    (record sc { regions = region ∷ sc.regions })
scope_opened region sc scope =
    record {
      outside = scope.outside;
      variables = λ n v e. opened_known sc.outside.heads (parameters_in sc) sc.regions region v.of
          (scope.variables n v e);
      lasting = scope.lasting;
      result = (
        opened_known sc.outside.heads (parameters_in sc) sc.regions region sc.result scope.result.0,
        scope.result.1,
      );
    }

module _ (types : Types) (owner : ClosedType → Option (List ℕ)) {I K : Type 0} (see : View I Note (Unit {0}))
    (known : Callables I K) (may_hand : Meaning → Type 0) (given : Given) (Stands : Bindings → Type 0)
    (result : Meaning) where
  abbrev pub Place : (ℕ → Bool) → ℕ → Scope → meaning.Scope → Bindings → (ℕ → Meaning) → Type 0
  Place active number sc scope s names =
      PlaceFits types owner see known may_hand given Stands result active number sc scope s names

  stands_later : (names : ℕ → Meaning) (number later : ℕ) (scope : meaning.Scope) (s : Bindings) (name : Bytes)
      (t : Meaning) → number ≤ later → VariableStands names number scope s given name t
      → VariableStands names later scope s given name t
  stands_later names number later scope s name t less its = record {
    variable = its.variable;
    means = its.means;
    below = below_it its.variable.number its.below;
    stands = its.stands;
    of = its.of;
  }
    where
      below_it : (k : ℕ) → k < number → k < later
      below_it k is = omega arith

  pub place_later : (active : ℕ → Bool) (number later : ℕ) (sc : Scope) (scope : meaning.Scope) (s : Bindings)
      (names : ℕ → Meaning) → number ≤ later → Place active number sc scope s names → Place active later sc scope s
      names
  place_later active number later sc scope s names less p = record {
    round = p.round;
    knows = p.knows;
    good = p.good;
    variables = λ name v e. stands_later names number later scope s name v.of less (p.variables name v e);
    others = p.others;
    regions = p.regions;
    within = p.within;
    returns = p.returns;
  }

  module _ (active : ℕ → Bool) (number : ℕ) (sc : Scope) (scope : meaning.Scope) (s : Bindings) (names : ℕ → Meaning)
      (p : PlaceFits types owner see known may_hand given Stands result active number sc scope s names) where
    there_at : (z : ℕ) (name : Bytes) (t : Meaning) → VariableStands names number scope s given name t
        → VariableIsThere types see names (with_token z active) sc scope s given z name t
    there_at z name t its = record {
      variable = its.variable;
      means = its.means;
      stands = its.stands z;
      of = its.of;
    }

    -- the frame of a whole expression
    pub frame_at : (z : ℕ) → FrameFits types see names (with_token z active) sc scope s given z
    frame_at z = record {
      known = p.knows;
      here = with_own active z;
      noted = p.round.noted;
      copied = λ n whole free. p.round.copied s sc.regions z n p.good whole free;
      free = λ t whole free. p.round.free s sc.regions z t p.good whole free;
      readers = p.round.readers;
      variables = λ name v e. there_at z name v.of (p.variables name v e);
      others = p.others;
      constants = λ name t n e. p.round.constants s z name t n p.good e;
      wholes = p.round.wholes;
      records = λ t fields whole e. (p.round.records s sc.regions z t fields p.good whole e).0;
      regions = λ name is. more_scoped active z (region_for (value_of name s) name) (p.regions name is);
      within = λ name is. more_usable active z (type_for (value_of name s) name) (p.within name is);
    }

    pub whole_at : (e : NotedExpression) → AllGood sc e → ModeIsKnownIn sc (mode_of e) → Keeps see may_hand scope e
        → (z : ℕ)
        → IsOf types owner see known names z (with_token z active) scope e (running s z (type_of e))
    whole_at e good wanted keeps z =
        runs types owner see known may_hand names (with_token z active) sc scope s given z (frame_at z)
        (p.round.calls names (with_token z active) sc scope s z refl refl p.good (frame_at z)) e good wanted keeps

    -- of a type without `~`, it is of the same running type in each whole expression
    pub whole_of : (loose : ℕ → Bool) {V W : Type 0} (permits : Permits V W) (key : V) (e : NotedExpression)
        (t : Meaning) → AllGood sc e → ModeIsKnownIn sc (mode_of e) → Keeps see may_hand scope e → type_of e ≡ t
        → is_lasting t ≡ true
        → IsWholeOf types owner see known result loose permits key active names scope e (running s 0 t)
    whole_of loose permits key e t good wanted keeps same lasts z off =
        subst (λ u. IsOf types owner see known names z (with_token z active) scope e u)
        (ap (running s z) same ∙ type_lasts s z 0 t lasts) (whole_at e good wanted keeps z)

    -- ---- a variable more

    pub place_with : (later : ℕ) (v : Variable) (o : Option ClosedType) (of : Meaning) → number < later
        → IsKnownIn sc v.of → is_lasting v.of ≡ true → o ≡ Some (closed_under given v.of)
        → ((z : ℕ) → of ≡ running s z v.of)
        → Place active later (with_variable v sc) (meaning.with_name v.name number o scope) s (put number of names)
    place_with later v o of less whole lasts closed is = record {
      round = p.round;
      knows = variable_added v sc p.knows whole lasts;
      good = p.good;
      variables = λ name one e. by (bytes_eq v.name name) name one refl e;
      others = λ name e. none (bytes_eq v.name name) name e;
      regions = p.regions;
      within = p.within;
      returns = p.returns;
    }
      where
        x : meaning.Variable
        x = record { name = v.name; number = number; of = o }

        old : (name : Bytes) (one : Variable) → bytes_eq v.name name ≡ false
            → VariableStands names number scope s given name one.of
            → VariableStands (put number of names) later (meaning.with_name v.name number o scope) s given name one.of
        old name one other its = record {
          variable = its.variable;
          means = ap (λ b. cond b (Some x) (meaning.variable_of scope name)) other ∙ its.means;
          below = below_it its.variable.number its.below;
          stands = λ z. put_other number its.variable.number of names (differ its.variable.number its.below) ∙
              its.stands z;
          of = its.of;
        }
          where
            below_it : (k : ℕ) → k < number → k < later
            below_it k is = omega arith

            differ : (k : ℕ) → k < number → number ≡ k → ⊥
            differ k is same = omega arith

        new : (name : Bytes) (one : Variable) → bytes_eq v.name name ≡ true → v ≡ one
            → VariableStands (put number of names) later (meaning.with_name v.name number o scope) s given name one.of
        new name one found same = record {
          variable = x;
          means = ap (λ b. cond b (Some x) (meaning.variable_of scope name)) found;
          below = less;
          stands = λ z. put_own number of names
              ∙ subst (λ (w : Variable). of ≡ running s z w.of) same (is z);
          of = closed ∙ ap (λ (w : Variable). Some (closed_under given w.of)) same;
        }

        by : (b : Bool) (name : Bytes) (one : Variable) → bytes_eq v.name name ≡ b
            → cond b (Some v) (variable_of sc name) ≡ Some one
            → VariableStands (put number of names) later (meaning.with_name v.name number o scope) s given name one.of
        by true name one is e = new name one is (same_Some v one e)
        by false name one is e = old name one is (p.variables name one e)

        none : (b : Bool) (name : Bytes) → cond b (Some v) (variable_of sc name) ≡ None
            → cond b (Some x) (meaning.variable_of scope name) ≡ None
        none true name e = absurd (none-some v (sym e))
        none false name e = p.others name e

    -- ---- a region more

    pub place_open : (z : ℕ) (region : Bytes) → IsNewRegion sc region
        → Place (with_token z active) number (record sc { regions = region ∷ sc.regions }) scope
        (with_pair region (in_region (token z)) s) names
    place_open z region new = record {
      round = p.round;
      knows = scope_opened region sc p.knows;
      good = p.round.opens s region z p.good new.1;
      variables = λ name v e. stays name v e (p.variables name v e);
      others = p.others;
      regions = λ name is. scoped name is;
      within = λ name is.
          subst (λ o. IsUsable (with_token z active) (type_for o name))
          (value_other region (in_region (token z)) s name
          (λ same. not_a_name sc region new (subst (IsTypeName (parameters_in sc)) same is)))
          (more_usable active z (type_for (value_of name s) name) (p.within name is));
      returns = λ y. sym (opened_stays region (in_region (token z)) s sc new y sc.result p.knows.result.0) ∙
          p.returns y;
    }
      where
        more : Bindings
        more = with_pair region (in_region (token z)) s

        stays : (name : Bytes) (v : Variable) → variable_of sc name ≡ Some v
            → VariableStands names number scope s given name v.of
            → VariableStands names number scope more given name v.of
        stays name v e its = record {
          variable = its.variable;
          means = its.means;
          below = its.below;
          stands = λ y. its.stands y
              ∙ opened_stays region (in_region (token z)) s sc new y v.of (p.knows.variables name v e);
          of = its.of;
        }

        another : (name : List ℕ) → bytes_eq name region ≡ false → IsRegionName sc.regions (parameters_in sc) name
            → InScope (with_token z active) (region_for (value_of name more) name)
        another name other is =
            subst (λ o. InScope (with_token z active) (region_for o name))
            (sym (value_of-with name region (in_region (token z)) s
            ∙ ap (λ b. cond b (Some (in_region (token z))) (value_of name s)) other))
            (more_scoped active z (region_for (value_of name s) name) (p.regions name is))

        scoped : (name : List ℕ) → IsRegionName (region ∷ sc.regions) (parameters_in sc) name
            → InScope (with_token z active) (region_for (value_of name more) name)
        scoped name is = by (bytes_eq name region) refl is
          where
            by : (b : Bool) → bytes_eq name region ≡ b
                → (b || list_any (bytes_eq name) sc.regions ≡ true)
                ⊎ (universe_in (parameters_in sc) name ≡ Some universes.Region)
                → InScope (with_token z active) (region_for (value_of name more) name)
            by true found is =
                inr (
                  z,
                  ap (λ o. region_for o name) (value_of-with name region (in_region (token z)) s
                      ∙ ap (λ b. cond b (Some (in_region (token z))) (value_of name s)) found),
                  with_own active z,
                )
            by false found is = another name found is
