-- Laws of tables of instances.
use Rattle.std.proofs.Common.{◌≡◌, ◌||◌, Bool, true, false, List, [], ◌∷◌, ◌++◌, Option, None, Some, Contains}
use Rattle.std.proofs.Common.{refl, sym, ap, subst, ◌∙◌}
use Rattle.std.specs.Prelude.{if◌then◌else◌}
use Rattle.std.specs.List.{flat_map}
use Rattle.std.proofs.lemmas.Option.{same_Some}
use Rattle.std.proofs.lemmas.Slice.Eq.{bytes_eq-Decides}
use Rattle.au_base.proofs.ListLemmas.{Contains-first, Contains-rest}
use Rattle.au_syntax.specs.Plain.{Bytes}
use Rattle.au_types.specs.declared.headings.Head.{Head}
use Rattle.au_types.specs.declared.parameters.Parameter.{Parameter}
use Rattle.au_types.specs.declared.types.DeclAt.{DeclAt}
use Rattle.au_types.specs.declared.types.Region.TheVariants.{Named}
use Rattle.au_types.specs.Types.{Meaning, Argument, Arguments, parameter, of_type, in_region, no_arguments, arguments}
use Rattle.au_matching.specs.Bindings.{Bindings, value_of, GivesType, GivesRegion}
use Rattle.au_matching.specs.Substituted.{type_for, substituted, argument_substituted, all_substituted, Fixes}
use Rattle.au_matching.specs.Substituted.{EachNameOf, EachNameOfAll}
use Rattle.au_type_texts.specs.Closing.{closed}
use Rattle.au_type_texts.specs.Types.{ClosedType}
use Rattle.au_judged_types.specs.Bounds.{Bounded}
use Rattle.au_instances.specs.Becoming.{IsRowFor}
use Rattle.au_instances.specs.ClosedInstances.{ClosedInstance, parts_in}
use Rattle.au_instances.specs.Constructors.{constructor_of, closed_constructor}
use Rattle.au_instances.specs.Forms.{HasForm, arguments_of, is_called, name_of, stands_in}
use Rattle.au_instances.specs.Laws.{pairs_at, pairs_below}
use Rattle.au_instances.specs.Pairs.{constraints_of, part_for, below, pairs, part_of, parts_of}
use Rattle.au_instances.specs.Rows.{Row}
use Rattle.au_instances.specs.Tables.{IsTable, row_with, row_for}
use Rattle.au_instances.proofs.ClosedLemmas.{closed_constructor_is, closed_row_there, closed_row_is, if_gives_gave}
use Rattle.au_instances.proofs.ConstructorLemmas.{constructor_stays}
use Rattle.au_instances.proofs.FormLemmas.{form_over}
use Rattle.au_instances.proofs.PairLemmas.{constrained_stands, listed_constrains, pairs_are}
use Rattle.au_instances.proofs.RowLemmas.{row_for_gave, row_for_there}
use Rattle.au_instances.proofs.TableLemmas.{row_there}

-- ---- one row

pub one_whole : (rows : List Row) (heads : List (DeclAt × Head)) (scope : List Parameter) (class : DeclAt)
    (t : Meaning) (one other : Row) → IsTable rows → IsRowFor heads scope rows class t one →
    IsRowFor heads scope rows class t other → one ≡ other
one_whole rows heads scope class t one other table is also =
    same_Some one other (sym (row_for_there heads scope rows class t one table is)
    ∙ row_for_there heads scope rows class t other table also)

pub one_closed : (rows : List Row) (heads : List (DeclAt × Head)) (class : DeclAt) (t : ClosedType)
    (one other : Row) → IsTable rows → ClosedInstance rows heads class t one →
    ClosedInstance rows heads class t other → one ≡ other
one_closed rows heads class t one other table is also =
    same_Some one other (sym (closed_row_there rows heads table class t one is)
    ∙ closed_row_there rows heads table class t other also)

pub one_kept : (rows : List Row) (heads : List (DeclAt × Head)) (scope : List Parameter) (class : DeclAt)
    (t : Meaning) (s : Bindings) (u : ClosedType) (one other : Row) → IsTable rows →
    IsRowFor heads scope rows class t one → closed (substituted s t) ≡ Some u →
    ClosedInstance rows heads class u other → one ≡ other
one_kept rows heads scope class t s u one other table is closes instance =
    let form = table.formed one is.listed in
    let constructed : constructor_of t ≡ Some form.constructor =
    ap constructor_of (sym is.becomes.makes.equal) ∙ constructor_stays is.by one.head form.constructor
    form.heads in
    let closed_so : closed_constructor u ≡ Some form.constructor =
    sym (closed_constructor_is (substituted s t) u closes) ∙ constructor_stays s t form.constructor
    constructed in
    let found = if_gives_gave rows heads u (parts_in rows heads u)
    (row_with rows class (closed_constructor u)) other
    (sym (closed_row_is rows heads u class) ∙ closed_row_there rows heads table class u other instance) in
    same_Some one other
    (sym (row_there rows class form.constructor one table is.listed is.of_class form.heads)
    ∙ sym (ap (row_with rows class) closed_so)
    ∙ found.0)

-- ---- pairs

flat_same : {X Y : Type 0} (f g : X → List Y) (xs : List X) → ((x : X) → Contains xs x → f x ≡ g x) →
    flat_map f xs ≡ flat_map g xs
flat_same f g [] same = refl
flat_same f g (x ∷ xs) same =
    ap (λ ys. ys ++ flat_map f xs) (same x (Contains-first x xs))
    ∙ ap (λ ys. g x ++ ys) (flat_same f g xs (λ y c. same y (Contains-rest x xs y c)))

module _ (rows : List Row) (heads : List (DeclAt × Head)) (scope : List Parameter) where
  -- the part in the place of a name is what comes from the name's value
  walk_value : (s : Bindings) (names : Arguments) (name : Bytes) (wanted : DeclAt) →
      EachNameOfAll (GivesType s) (GivesRegion s) names → stands_in name names ≡ true
      → part_for name names (parts_of rows heads scope (all_substituted s names)) wanted ≡ pairs_at rows heads
      scope (value_of name s) wanted
  walk_value s no_arguments name wanted fixed stands = absurd cc
  walk_value s (arguments one rest) name wanted fixed stands = by (is_called name (name_of one)) refl
      (walk_value s rest name wanted fixed.1) stands
    where
      here : (one : Argument) → EachNameOf (GivesType s) (GivesRegion s) one → is_called name (name_of one)
          ≡ true → part_of rows heads scope (argument_substituted s one) wanted ≡ pairs_at rows heads scope
          (value_of name s) wanted
      here (of_type (parameter other)) gives called =
          ap (λ o. pairs rows heads scope (type_for o other) wanted) gives.1
          ∙ sym (ap (λ o. pairs_at rows heads scope o wanted)
          (ap (λ n. value_of n s) ((bytes_eq-Decides name other).0 called) ∙ gives.1))
      here (of_type t) gives called = absurd cc
      here (in_region (Named other)) gives called =
          sym (ap (λ o. pairs_at rows heads scope o wanted)
          (ap (λ n. value_of n s) ((bytes_eq-Decides name other).0 called) ∙ gives.1))
      here (in_region region) gives called = absurd cc

      by : (b : Bool) → is_called name (name_of one) ≡ b
          → (stands_in name rest ≡ true →
          part_for name rest (parts_of rows heads scope (all_substituted s rest)) wanted
          ≡ pairs_at rows heads scope (value_of name s) wanted)
          → (b || stands_in name rest) ≡ true
          → (if b then part_of rows heads scope (argument_substituted s one) wanted else part_for name rest
          (parts_of rows heads scope (all_substituted s rest)) wanted) ≡ pairs_at rows heads scope
          (value_of name s) wanted
      by true called later stands = here one fixed.0 called
      by false called later stands = later stands

  below_is : (class : DeclAt) (t : Meaning) (row : Row) → IsTable rows →
      (is : IsRowFor heads scope rows class t row) →
      below (Some row) (parts_of rows heads scope (arguments_of t)) ≡ pairs_below rows heads scope row is.by
  below_is class t row table is = by row.generics (table.formed row is.listed)
    where
      by : (generics : List Bounded) → HasForm generics row.head
          → flat_map (λ one. part_for one.0 (arguments_of row.head)
          (parts_of rows heads scope (arguments_of t)) one.1) (constraints_of generics)
          ≡ flat_map (λ one. pairs_at rows heads scope (value_of one.0 is.by) one.1) (constraints_of generics)
      by [] form = refl
      by (first ∷ others) form =
          let s = is.by in
          let over = form_over first others row.head form in
          let fixed : EachNameOfAll (GivesType s) (GivesRegion s) over.args =
          subst (Fixes s) over.is is.becomes.makes.fixes in
          let args_are : arguments_of t ≡ all_substituted s over.args =
          sym (ap arguments_of (sym (ap (substituted s) over.is) ∙ is.becomes.makes.equal)) in
          let names_are : arguments_of row.head ≡ over.args = ap arguments_of over.is in
          flat_same (λ one. part_for one.0 (arguments_of row.head)
          (parts_of rows heads scope (arguments_of t)) one.1)
          (λ one. pairs_at rows heads scope (value_of one.0 s) one.1) (constraints_of (first ∷ others))
          (λ one c.
          ap (λ ns. part_for one.0 ns (parts_of rows heads scope (arguments_of t)) one.1) names_are
          ∙ ap (λ args. part_for one.0 over.args (parts_of rows heads scope args) one.1) args_are
          ∙ walk_value s over.args one.0 one.1 fixed
          (constrained_stands (first ∷ others) over.args one.0 one.1 over.stand
          (listed_constrains (first ∷ others) one.0 one.1 c)))

  pub pairs_alone : (class : DeclAt) (t : Meaning) → IsTable rows →
      ((row : Row) → ¬ (IsRowFor heads scope rows class t row)) → pairs rows heads scope t class
      ≡ (class, t) ∷ []
  pairs_alone class t table none = pairs_are rows heads scope [] t class ∙ by (row_for heads scope rows class t) refl
    where
      by : (o : Option Row) → row_for heads scope rows class t ≡ o →
          (class, t) ∷ below o (parts_of rows heads scope (arguments_of t)) ≡ (class, t) ∷ []
      by None e = refl
      by (Some row) e = absurd (none row (row_for_gave heads scope rows class t row table e))

  pub pairs_with : (class : DeclAt) (t : Meaning) (row : Row) → IsTable rows →
      (is : IsRowFor heads scope rows class t row) → pairs rows heads scope t class ≡ (class, t) ∷ pairs_below
      rows heads scope row is.by
  pairs_with class t row table is =
      pairs_are rows heads scope [] t class
      ∙ ap (λ o. (class, t) ∷ below o (parts_of rows heads scope (arguments_of t)))
      (row_for_there heads scope rows class t row table is)
      ∙ ap (λ xs. (class, t) ∷ xs) (below_is class t row table is)
