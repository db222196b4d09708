-- Heads of instances: the test of their form, and what is known of a head that has it.
use Rattle.std.proofs.Common.{◌≡◌, ◌⊎◌, ◌&&◌, ◌||◌, true, false, List, [], ◌∷◌, Option, None, Some, refl, sym}
use Rattle.std.proofs.Common.{ap, ◌∙◌, inl, inr, true≢false}
use Rattle.std.specs.Prelude.{is_some, IsTrue}
use Rattle.std.specs.Bool.{Decides}
use Rattle.std.proofs.lemmas.Bool.{and_parts, and_from, or_cases, or_left, or_right}
use Rattle.au_base.proofs.OptionLemmas.{some_of}
use Rattle.au_syntax.specs.Plain.{Bytes}
use Rattle.au_types.specs.declared.parameters.Parameter.{Parameter}
use Rattle.au_types.specs.declared.types.DeclAt.{DeclAt}
use Rattle.au_types.specs.declared.types.Region.{Region}
use Rattle.au_types.specs.declared.types.Region.TheVariants.{Static, Named, Anonymous}
use Rattle.au_types.specs.Types.{Meaning, Argument, Arguments, unit, truth, integer, text, parameter, named}
use Rattle.au_types.specs.Types.{reads, writes, of_type, in_region, no_arguments, arguments}
use Rattle.au_matching.specs.Substituted.{EachName, EachNameOf, EachNameOfAll, OfRegion}
use Rattle.au_judged_types.specs.Bounds.{Bounded, parameters}
use Rattle.au_instances.specs.declared.constructors.Constructor.{Constructor}
use Rattle.au_instances.specs.Constructors.{constructor_of}
use Rattle.au_instances.specs.Forms.{HasForm, has_form, is_closed, is_closed_argument, are_closed, is_static}
use Rattle.au_instances.specs.Forms.{arguments_of, are_parameters, are_distinct, all_stand, stands_in}
use Rattle.au_instances.specs.Forms.{is_called, name_of, type_name, is_one_of}

-- ---- the test decides

module _ (generics : List Bounded) (head : Meaning) where
  formed : has_form generics head ≡ true → HasForm generics head
  formed e =
      let params = parameters generics in
      let args = arguments_of head in
      let both = and_parts (is_some (constructor_of head))
      ((is_closed head || (are_parameters params args && are_distinct args)) && all_stand params args) e in
      let rest = and_parts (is_closed head || (are_parameters params args && are_distinct args))
      (all_stand params args) both.1 in
      let there = some_of (constructor_of head) both.0 in
      record {
        constructor = there.0;
        heads = there.1;
        over =
            by (or_cases (is_closed head) (are_parameters params args && are_distinct args) rest.0);
        stand =
            rest.1;
      }
    where
      by : (is_closed head ≡ true) ⊎
          ((are_parameters (parameters generics) (arguments_of head) && are_distinct (arguments_of head))
          ≡ true) → IsTrue (is_closed head)
          ⊎ (IsTrue (are_parameters (parameters generics) (arguments_of head))
          × IsTrue (are_distinct (arguments_of head)))
      by (inl h) = inl h
      by (inr h) = inr (and_parts (are_parameters (parameters generics) (arguments_of head))
          (are_distinct (arguments_of head)) h)

  holds : HasForm generics head → has_form generics head ≡ true
  holds form =
      let params = parameters generics in
      let args = arguments_of head in
      and_from (is_some (constructor_of head))
      ((is_closed head || (are_parameters params args && are_distinct args)) && all_stand params args)
      (ap is_some form.heads)
      (and_from (is_closed head || (are_parameters params args && are_distinct args)) (all_stand params args)
      (by form.over) form.stand)
    where
      by : IsTrue (is_closed head) ⊎ (IsTrue (are_parameters (parameters generics) (arguments_of head))
          × IsTrue (are_distinct (arguments_of head))) →
          (is_closed head || (are_parameters (parameters generics) (arguments_of head) && are_distinct
          (arguments_of head))) ≡ true
      by (inl h) = or_left (is_closed head)
          (are_parameters (parameters generics) (arguments_of head) && are_distinct (arguments_of head)) h
      by (inr h) =
          or_right (is_closed head) (are_parameters (parameters generics) (arguments_of head) && are_distinct
          (arguments_of head))
          (and_from (are_parameters (parameters generics) (arguments_of head))
          (are_distinct (arguments_of head)) h.0 h.1)

  pub form_decides : Decides (has_form generics head) (HasForm generics head)
  form_decides = (formed, holds)

-- ---- closed types hold no names

module _ (P R : Bytes → Type 0) where
  closed_region : (region : Region) → is_static region ≡ true → OfRegion R region
  closed_region Static e = tt
  closed_region (Named name) e = absurd cc
  closed_region Anonymous e = absurd cc

  mutual
    pub closed_each : (t : Meaning) → is_closed t ≡ true → EachName P R t
    closed_each unit e = tt
    closed_each truth e = tt
    closed_each (integer kind) e = tt
    closed_each text e = tt
    closed_each (parameter name) e = absurd cc
    closed_each (named at args) e = closed_each_of_all args e
    closed_each (reads to region) e = let both = and_parts (is_closed to) (is_static region) e
        in (closed_each to both.0, closed_region region both.1)
    closed_each (writes to region) e = let both = and_parts (is_closed to) (is_static region) e
        in (closed_each to both.0, closed_region region both.1)

    closed_each_of : (one : Argument) → is_closed_argument one ≡ true → EachNameOf P R one
    closed_each_of (of_type t) e = closed_each t e
    closed_each_of (in_region region) e = closed_region region e

    closed_each_of_all : (args : Arguments) → are_closed args ≡ true → EachNameOfAll P R args
    closed_each_of_all no_arguments e = tt
    closed_each_of_all (arguments one rest) e = let both =
        and_parts (is_closed_argument one) (are_closed rest) e
        in (closed_each_of one both.0, closed_each_of_all rest both.1)

closed_type_name : (t : Meaning) → is_closed t ≡ true → type_name t ≡ None
closed_type_name unit e = refl
closed_type_name truth e = refl
closed_type_name (integer kind) e = refl
closed_type_name text e = refl
closed_type_name (parameter name) e = absurd cc
closed_type_name (named at args) e = refl
closed_type_name (reads to region) e = refl
closed_type_name (writes to region) e = refl

closed_name : (one : Argument) → is_closed_argument one ≡ true → name_of one ≡ None
closed_name (of_type t) e = closed_type_name t e
closed_name (in_region Static) e = refl
closed_name (in_region (Named name)) e = absurd cc
closed_name (in_region Anonymous) e = absurd cc

-- so no name is one of closed arguments
closed_stand : (name : Bytes) (args : Arguments) → are_closed args ≡ true → stands_in name args ≡ false
closed_stand name no_arguments e = refl
closed_stand name (arguments one rest) e =
    let both = and_parts (is_closed_argument one) (are_closed rest) e in
    ap (λ o. is_called name o || stands_in name rest) (closed_name one both.0) ∙ closed_stand name rest both.1

closed_arguments : (t : Meaning) → is_closed t ≡ true → are_closed (arguments_of t) ≡ true
closed_arguments unit e = refl
closed_arguments truth e = refl
closed_arguments (integer kind) e = refl
closed_arguments text e = refl
closed_arguments (parameter name) e = absurd cc
closed_arguments (named at args) e = e
closed_arguments (reads to region) e = refl
closed_arguments (writes to region) e = refl

-- ---- a head that has the form, by the instance's type parameters

-- arguments that are parameters of nothing are none
parameters_of_none : (args : Arguments) → are_parameters [] args ≡ true → args ≡ no_arguments
parameters_of_none no_arguments e = refl
parameters_of_none (arguments one rest) e =
    absurd (true≢false (sym (and_parts (is_one_of [] (name_of one) one) (are_parameters [] rest) e).0
    ∙ by (name_of one)))
  where
    by : (o : Option Bytes) → is_one_of [] o one ≡ false
    by None = refl
    by (Some name) = refl

closed_alone : (t : Meaning) (one : Constructor) → constructor_of t ≡ Some one →
    arguments_of t ≡ no_arguments → is_closed t ≡ true
closed_alone unit one e none = refl
closed_alone truth one e none = refl
closed_alone (integer kind) one e none = refl
closed_alone text one e none = refl
closed_alone (parameter name) one e none = absurd cc
closed_alone (named at args) one e none = ap are_closed none
closed_alone (reads to region) one e none = absurd cc
closed_alone (writes to region) one e none = absurd cc

-- without type parameters the head is closed
pub form_closed : (head : Meaning) → HasForm [] head → is_closed head ≡ true
form_closed head form = by form.over
  where
    by : IsTrue (is_closed head) ⊎
        (IsTrue (are_parameters [] (arguments_of head)) × IsTrue (are_distinct (arguments_of head))) →
        is_closed head ≡ true
    by (inl h) = h
    by (inr h) = closed_alone head form.constructor form.heads (parameters_of_none (arguments_of head) h.0)

-- a head over type parameters: a declared type, whose arguments are these
pub record OverParameters (params : List Parameter) (head : Meaning) : Type 0 where
  pub at : DeclAt
  pub args : Arguments
  pub is : head ≡ named at args
  pub own : are_parameters params args ≡ true
  pub distinct : are_distinct args ≡ true
  pub stand : all_stand params args ≡ true

-- a type with an argument is a declared one
declared_with : (params : List Parameter) (head : Meaning) (first : Argument) (rest : Arguments) →
    arguments_of head ≡ arguments first rest
    → are_parameters params (arguments_of head) ≡ true → are_distinct (arguments_of head) ≡ true →
    all_stand params (arguments_of head) ≡ true → OverParameters params head
declared_with params unit first rest e own distinct stand = absurd cc
declared_with params truth first rest e own distinct stand = absurd cc
declared_with params (integer kind) first rest e own distinct stand = absurd cc
declared_with params text first rest e own distinct stand = absurd cc
declared_with params (parameter name) first rest e own distinct stand = absurd cc
declared_with params (named at args) first rest e own distinct stand =
    record { at = at; args = args; is = refl; own = own; distinct = distinct; stand = stand }
declared_with params (reads to region) first rest e own distinct stand = absurd cc
declared_with params (writes to region) first rest e own distinct stand = absurd cc

-- with type parameters the head is over them
pub form_over : (first : Bounded) (others : List Bounded) (head : Meaning) → HasForm (first ∷ others) head →
    OverParameters (parameters (first ∷ others)) head
form_over first others head form = by form.over
  where
    stands : stands_in first.parameter.name (arguments_of head) ≡ true
    stands = (and_parts (stands_in first.parameter.name (arguments_of head))
        (all_stand (parameters others) (arguments_of head)) form.stand).0

    by_arguments : (args : Arguments) → arguments_of head ≡ args →
        are_parameters (parameters (first ∷ others)) (arguments_of head) ≡ true →
        are_distinct (arguments_of head) ≡ true → OverParameters (parameters (first ∷ others)) head
    by_arguments no_arguments e own distinct = absurd (true≢false (sym stands ∙ ap (stands_in first.parameter.name) e))
    by_arguments (arguments one rest) e own distinct = declared_with (parameters (first ∷ others)) head one
        rest e own distinct form.stand

    by : IsTrue (is_closed head) ⊎ (IsTrue (are_parameters (parameters (first ∷ others)) (arguments_of head))
        × IsTrue (are_distinct (arguments_of head))) → OverParameters (parameters (first ∷ others)) head
    by (inl h) = absurd (true≢false
        (sym stands ∙ closed_stand first.parameter.name (arguments_of head) (closed_arguments head h)))
    by (inr h) = by_arguments (arguments_of head) refl h.0 h.1
