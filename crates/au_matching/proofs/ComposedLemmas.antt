-- Substituting twice is substituting once.
use Rattle.std.proofs.Common.{◌≡◌, ℕ, Bool, true, false, cond, List, [], ◌∷◌, refl, sym, ap, ◌∙◌}
use Rattle.std.specs.Prelude.{Option, Some, None}
use Rattle.std.specs.Str.{bytes_eq}
use Rattle.au_types.specs.declared.types.Region.{Region}
use Rattle.au_types.specs.declared.types.Region.TheVariants.{Static, Named, Anonymous}
use Rattle.au_types.specs.Types.{Meaning, Argument, Arguments, unit, truth, integer, text, parameter, named}
use Rattle.au_types.specs.Types.{reads, writes, of_type, in_region, no_arguments, arguments}
use Rattle.au_matching.specs.Bindings.{Bindings, value_of, IsInOrder, GivesType, GivesRegion}
use Rattle.au_matching.specs.Substituted.{type_for, region_for, region_substituted, substituted}
use Rattle.au_matching.specs.Substituted.{argument_substituted, all_substituted, OfRegion, EachNameOf}
use Rattle.au_matching.specs.Substituted.{EachNameOfAll, Suits}
use Rattle.au_matching.specs.Composed.{composed}
use Rattle.au_matching.proofs.BindingLemmas.{value_of-with, in_order-with}

pub in_order-composed : (first second : Bindings) → IsInOrder second → IsInOrder (composed first second)
in_order-composed [] second h = h
in_order-composed (p ∷ first) second h = in_order-with p.0 (argument_substituted second p.1)
    (composed first second) (in_order-composed first second h)

-- what the first list gives, with the second put into it, and else what the second gives
abbrev after : Bindings → Option Argument → Option Argument → Option Argument
after second None other = other
after second (Some value) other = Some (argument_substituted second value)

value_of-composed : (name : List ℕ) (first second : Bindings) → value_of name (composed first second)
    ≡ after second (value_of name first) (value_of name second)
value_of-composed name [] second = refl
value_of-composed name (p ∷ first) second =
    value_of-with name p.0 (argument_substituted second p.1) (composed first second)
    ∙ by (bytes_eq name p.0) (value_of-composed name first second)
  where
    by : (b : Bool) → value_of name (composed first second) ≡ after second (value_of name first)
        (value_of name second) → cond b (Some (argument_substituted second p.1))
        (value_of name (composed first second)) ≡ after second (cond b (Some p.1) (value_of name first))
        (value_of name second)
    by true rest = refl
    by false rest = rest

module _ (first second : Bindings) where
  region_twice : (region : Region) → OfRegion (λ name. ¬ (GivesType first name)) region →
      region_substituted second (region_substituted first region) ≡ region_substituted (composed first second)
      region
  region_twice Static h = refl
  region_twice Anonymous h = refl
  region_twice (Named name) h = by (value_of name first) refl
      ∙ ap (λ o. region_for o name) (sym (value_of-composed name first second))
    where
      by : (o : Option Argument) → value_of name first ≡ o →
          region_substituted second (region_for (value_of name first) name)
          ≡ region_for (after second (value_of name first) (value_of name second)) name
      by None e =
          ap (λ o. region_substituted second (region_for o name)) e
          ∙ sym (ap (λ o. region_for (after second o (value_of name second)) name) e)
      by (Some (of_type t)) e = absurd (h (t, e))
      by (Some (in_region region)) e =
          ap (λ o. region_substituted second (region_for o name)) e
          ∙ sym (ap (λ o. region_for (after second o (value_of name second)) name) e)

  parameter_twice : (name : List ℕ) → ¬ (GivesRegion first name) →
      substituted second (type_for (value_of name first) name)
      ≡ type_for (value_of name (composed first second)) name
  parameter_twice name h = by (value_of name first) refl
      ∙ ap (λ o. type_for o name) (sym (value_of-composed name first second))
    where
      by : (o : Option Argument) → value_of name first ≡ o →
          substituted second (type_for (value_of name first) name)
          ≡ type_for (after second (value_of name first) (value_of name second)) name
      by None e =
          ap (λ o. substituted second (type_for o name)) e
          ∙ sym (ap (λ o. type_for (after second o (value_of name second)) name) e)
      by (Some (of_type t)) e =
          ap (λ o. substituted second (type_for o name)) e
          ∙ sym (ap (λ o. type_for (after second o (value_of name second)) name) e)
      by (Some (in_region region)) e = absurd (h (region, e))

  mutual
    pub twice : (t : Meaning) → Suits first t → substituted second (substituted first t)
        ≡ substituted (composed first second) t
    twice unit h = refl
    twice truth h = refl
    twice (integer kind) h = refl
    twice text h = refl
    twice (parameter name) h = parameter_twice name h
    twice (named of args) h = ap (named of) (all_twice args h)
    twice (reads to region) h = λ i. reads (twice to h.0 i) (region_twice region h.1 i)
    twice (writes to region) h = λ i. writes (twice to h.0 i) (region_twice region h.1 i)

    argument_twice : (one : Argument) → EachNameOf (λ name. ¬ (GivesRegion first name))
        (λ name. ¬ (GivesType first name)) one → argument_substituted second (argument_substituted first one)
        ≡ argument_substituted (composed first second) one
    argument_twice (of_type t) h = ap of_type (twice t h)
    argument_twice (in_region region) h = ap in_region (region_twice region h)

    all_twice : (args : Arguments) → EachNameOfAll (λ name. ¬ (GivesRegion first name))
        (λ name. ¬ (GivesType first name)) args → all_substituted second (all_substituted first args)
        ≡ all_substituted (composed first second) args
    all_twice no_arguments h = refl
    all_twice (arguments one rest) h = λ i. arguments (argument_twice one h.0 i) (all_twice rest h.1 i)
