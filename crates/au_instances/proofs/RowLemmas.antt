-- The test whether the head of a row becomes a type, and the row of a class that is found by it.
use Rattle.std.proofs.Common.{◌≡◌, Bool, true, false, List, [], ◌∷◌, Option, None, Some, Contains, refl, sym}
use Rattle.std.proofs.Common.{ap, subst, ◌∙◌, Vec}
use Rattle.std.specs.Global.{Global}
use Rattle.std.specs.Prelude.{if◌then◌else◌}
use Rattle.std.proofs.lemmas.Bool.{and_parts, and_from}
use Rattle.std.proofs.lemmas.Option.{same_Some}
use Rattle.au_syntax.specs.Plain.{Bytes}
use Rattle.au_types.specs.declared.headings.Head.{Head}
use Rattle.au_types.specs.declared.parameters.Parameter.{Parameter}
use Rattle.au_types.specs.declared.types.Arg.{Arg}
use Rattle.au_types.specs.declared.types.Arg.TheBlock.{shown-the_row-Arg-0, backs-Ty}
use Rattle.au_types.specs.declared.types.DeclAt.{DeclAt}
use Rattle.au_types.specs.declared.types.Ty.{Ty, Named as Named-of, Named'}
use Rattle.au_types.specs.Views.{meaning}
use Rattle.au_types.specs.Rows.{same_place}
use Rattle.au_types.specs.Same.{same}
use Rattle.au_types.specs.Types.{Meaning, Argument, Arguments, named}
use Rattle.au_types.proofs.SameLemmas.{same_is, same_self, place_is, place_self}
use Rattle.au_matching.specs.Bindings.{Bindings, value_of, GivesType, GivesRegion}
use Rattle.au_matching.specs.Matched.{Makes}
use Rattle.au_matching.specs.Substituted.{substituted, all_substituted, Fixes, EachNameOfAll}
use Rattle.au_matching.proofs.SubstitutedLemmas.{untouched}
use Rattle.au_matching.specs.Fitting.{BindingsFit}
use Rattle.au_judged_types.specs.Bounds.{Bounded, parameters}
use Rattle.au_instances.specs.declared.constructors.Constructor.{Constructor}
use Rattle.au_instances.specs.Constructors.{constructor_of}
use Rattle.au_instances.specs.Becoming.{IsRowFor, applies, becomes, all_stand_for}
use Rattle.au_instances.specs.Forms.{HasForm}
use Rattle.au_instances.specs.Rows.{Row}
use Rattle.au_instances.specs.Tables.{IsTable, row_with, if_becomes, row_for}
use Rattle.au_instances.proofs.BecomingLemmas.{all_forward, all_back, bound_to, bound_gives, fit_back}
use Rattle.au_instances.proofs.ConstructorLemmas.{constructor_stays}
use Rattle.au_instances.proofs.FormLemmas.{OverParameters, closed_each, form_closed, form_over}
use Rattle.au_instances.proofs.TableLemmas.{row_gave, row_there}

module _ (heads : List (DeclAt × Head)) (scope : List Parameter) where
  -- ---- heads over type parameters

  applies_gave : (params : List Parameter) (at : DeclAt) (names : Arguments) (t : Meaning) →
      applies heads scope params (named at names) t ≡ true → (args : Arguments) × (t ≡ named at args)
      × (all_stand_for heads scope params names args ≡ true)
  applies_gave params at names (named other args) e =
      let both = and_parts (same_place at other) (all_stand_for heads scope params names args) e in
      (args, ap (λ p. named p args) (sym (place_is at other both.0)), both.1)
  applies_gave params at names t e = absurd cc

  over_gave : (params : List Parameter) (head t : Meaning) → OverParameters params head →
      applies heads scope params head t ≡ true → (s : Bindings) × Makes [] head t s
      × BindingsFit heads params scope s
  over_gave params head t over e =
      let applied = applies_gave params over.at over.args t
      (subst (λ h. applies heads scope params h t ≡ true) over.is e) in
      let s = bound_to over.args applied.0 in
      let gives = bound_gives over.args applied.0 over.distinct in
      let back = all_back heads scope params s over.args applied.0 over.own applied.2 gives in (
        s,
        record {
          extends = λ name value h. absurd (nothing name value h);
          fixes = subst (Fixes s) (sym over.is) back.0;
          equal = ap (substituted s) over.is ∙ ap (named over.at) back.1 ∙ sym applied.1;
        },
        fit_back heads scope params s over.args applied.0 over.stand applied.2 gives,
      )
    where
      nothing : (name : Bytes) (value : Argument) → value_of name [] ≡ Some value → ⊥
      nothing name value h = cc

  over_found : (params : List Parameter) (head t : Meaning) (s : Bindings) → OverParameters params head →
      Makes [] head t s → BindingsFit heads params scope s → applies heads scope params head t ≡ true
  over_found params head t s over makes fit =
      let fixed : EachNameOfAll (GivesType s) (GivesRegion s) over.args = subst (Fixes s) over.is makes.fixes in
      subst (λ h. applies heads scope params h t ≡ true) (sym over.is)
      (subst (λ u. applies heads scope params (named over.at over.args) u ≡ true)
      (sym (ap (substituted s) over.is) ∙ makes.equal)
      (and_from (same_place over.at over.at)
      (all_stand_for heads scope params over.args (all_substituted s over.args)) (place_self over.at)
      (all_forward heads scope params s fit over.args over.own fixed)))

  -- ---- heads of rows

  pub becomes_gave : (generics : List Bounded) (head t : Meaning) → HasForm generics head →
      becomes heads scope generics head t ≡ true → (s : Bindings) × Makes [] head t s
      × BindingsFit heads (parameters generics) scope s
  becomes_gave [] head t form e =
      let closed = form_closed head form in (
        [],
        record {
          extends = λ name value h. h;
          fixes = closed_each (GivesType []) (GivesRegion []) head closed;
          equal = untouched [] head (closed_each (λ name. value_of name [] ≡ None)
              (λ name. value_of name [] ≡ None) head closed) ∙ same_is head t e;
        },
        λ name universe h. absurd cc,
      )
  becomes_gave (first ∷ others) head t form e = over_gave (parameters (first ∷ others)) head t
      (form_over first others head form) e

  pub becomes_found : (generics : List Bounded) (head t : Meaning) (s : Bindings) → HasForm generics head →
      Makes [] head t s → BindingsFit heads (parameters generics) scope s → becomes heads scope generics head t
      ≡ true
  becomes_found [] head t s form makes fit =
      let closed = form_closed head form in
      let is : head ≡ t = sym (untouched s head
      (closed_each (λ name. value_of name s ≡ None) (λ name. value_of name s ≡ None) head closed))
      ∙ makes.equal in
      subst (λ u. same head u ≡ true) is (same_self head)
  becomes_found (first ∷ others) head t s form makes fit = over_found (parameters (first ∷ others)) head t s
      (form_over first others head form) makes fit

  -- ---- the row of a class whose head becomes a type

  if_becomes_gave : (t : Meaning) (o : Option Row) (row : Row) → if_becomes heads scope t o ≡ Some row →
      (o ≡ Some row) × (becomes heads scope row.generics row.head t ≡ true)
  if_becomes_gave t None row e = absurd cc
  if_becomes_gave t (Some other) row e = by (becomes heads scope other.generics other.head t) refl e
    where
      by : (b : Bool) → becomes heads scope other.generics other.head t ≡ b → (if b then Some other else None)
          ≡ Some row → (Some other ≡ Some row) × (becomes heads scope row.generics row.head t ≡ true)
      by true is e = (e, subst (λ r. becomes heads scope r.generics r.head t ≡ true) (same_Some other row e) is)
      by false is e = absurd cc

  row_with_gave : (rows : List Row) (class : DeclAt) (o : Option Constructor) (row : Row) →
      row_with rows class o ≡ Some row → Contains rows row × (row.class ≡ class)
  row_with_gave rows class None row e = absurd cc
  row_with_gave rows class (Some one) row e = let found = row_gave rows class one row e in (found.0, found.1)

  -- a row that is found is such a row
  pub row_for_gave : (rows : List Row) (class : DeclAt) (t : Meaning) (row : Row) → IsTable rows →
      row_for heads scope rows class t ≡ Some row → IsRowFor heads scope rows class t row
  row_for_gave rows class t row table e =
      let tested = if_becomes_gave t (row_with rows class (constructor_of t)) row e in
      let found = row_with_gave rows class (constructor_of t) row tested.0 in
      let made = becomes_gave row.generics row.head t (table.formed row found.0) tested.1 in
      record { listed = found.0; of_class = found.1; by = made.0; becomes = record { makes = made.1; fit = made.2 } }

  -- and each such row is found
  pub row_for_there : (rows : List Row) (class : DeclAt) (t : Meaning) (row : Row) → IsTable rows →
      IsRowFor heads scope rows class t row → row_for heads scope rows class t ≡ Some row
  row_for_there rows class t row table is =
      let form = table.formed row is.listed in
      let makes = is.becomes.makes in
      let heads_t : constructor_of t ≡ Some form.constructor = ap constructor_of (sym makes.equal)
      ∙ constructor_stays is.by row.head form.constructor form.heads in
      let there = row_there rows class form.constructor row table is.listed is.of_class form.heads in
      let passes = becomes_found row.generics row.head t is.by form makes is.becomes.fit in
      ap (λ o. if_becomes heads scope t (row_with rows class o)) heads_t
      ∙ ap (if_becomes heads scope t) there
      ∙ ap (λ b. if b then Some row else None) passes

-- ---- what the code finds of types that aren't declared ones

module _ (heads : List (DeclAt × Head)) (scope params : List Parameter) where
  pub no_head_applies : (head : Ty) (t : Meaning) →
      ((x : DeclAt) (xs : Vec Arg Global) → head ≡ Named-of x xs → ⊥) →
      applies heads scope params (meaning head) t ≡ false
  unfolding meaning
  no_head_applies (Named' x shape row) t differs =
      absurd (differs x (shown-the_row-Arg-0 shape row) (sym (backs-Ty (Named' x shape row))))
  no_head_applies head t differs = refl

  pub applies_to_none : (at : DeclAt) (names : Arguments) (of : Ty) →
      ((x : DeclAt) (xs : Vec Arg Global) → of ≡ Named-of x xs → ⊥) →
      applies heads scope params (named at names) (meaning of) ≡ false
  unfolding meaning
  applies_to_none at names (Named' x shape row) differs =
      absurd (differs x (shown-the_row-Arg-0 shape row) (sym (backs-Ty (Named' x shape row))))
  applies_to_none at names of differs = refl
