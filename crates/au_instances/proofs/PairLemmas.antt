-- No pair is lacking exactly where the class holds at the type.
use Rattle.std.proofs.Common.{◌≡◌, ◌⊎◌, ◌||◌, Bool, true, false, cond, not, List, [], ◌∷◌, ◌++◌, Option, None}
use Rattle.std.proofs.Common.{Some, Contains, refl, sym, ap, subst, ◌∙◌, inl, inr, arith}
use Rattle.std.specs.Prelude.{IsTrue, if◌then◌else◌, is_none, unwrap_or}
use Rattle.std.specs.List.{find, flat_map, list_any}
use Rattle.std.specs.Option.{option_or}
use Rattle.std.specs.Str.{bytes_eq}
use Rattle.std.proofs.lemmas.Bool.{and_parts, or_cases, or_left, or_right}
use Rattle.std.proofs.lemmas.List.Elements.{Contains-append_cases, Contains-append_left, Contains-append_right}
use Rattle.std.proofs.lemmas.List.Folds.{find-append}
use Rattle.std.proofs.lemmas.Slice.Eq.{bytes_eq-Decides}
use Rattle.au_base.proofs.OptionLemmas.{or_both}
use Rattle.au_base.proofs.ListLemmas.{Contains-first, Contains-rest, Contains-cases}
use Rattle.au_syntax.specs.Plain.{Bytes}
use Rattle.au_types.specs.declared.headings.Head.{Head}
use Rattle.au_types.specs.declared.parameters.Parameter.{Parameter}
use Rattle.au_types.specs.declared.types.DeclAt.{DeclAt}
use Rattle.au_types.specs.declared.types.Region.TheVariants.{Named}
use Rattle.au_types.specs.Rows.{same_place}
use Rattle.au_types.specs.Types.{Meaning, Argument, Arguments, unit, truth, integer, text, parameter, named}
use Rattle.au_types.specs.Types.{reads, writes, of_type, in_region, no_arguments, arguments}
use Rattle.au_types.proofs.SameLemmas.{place_is, place_self}
use Rattle.au_matching.specs.Bindings.{Bindings, value_of, GivesType, GivesRegion}
use Rattle.au_matching.specs.Substituted.{type_for, substituted, argument_substituted, all_substituted, Fixes}
use Rattle.au_matching.specs.Substituted.{EachNameOf, EachNameOfAll}
use Rattle.au_judged_types.specs.Bounds.{Bounded, classes_of, constrains, is_among, parameters}
use Rattle.au_instances.specs.Becoming.{Becomes, IsRowFor}
use Rattle.au_instances.specs.Forms.{HasForm, arguments_of, is_called, name_of, stands_in, all_stand}
use Rattle.au_instances.specs.Instances.{Known, is_known, Instance, by_row, Holds, assumed, given}
use Rattle.au_instances.specs.Pairs.{Pair, Parts, named_with, constraints_of, part_for, below, pairs, part_of}
use Rattle.au_instances.specs.Pairs.{parts_of, is_lacking, lacking}
use Rattle.au_instances.specs.Rows.{Row}
use Rattle.au_instances.specs.Tables.{IsTable, row_for}
use Rattle.au_instances.proofs.FormLemmas.{form_over}
use Rattle.au_instances.proofs.RowLemmas.{row_for_gave, row_for_there}

-- ---- lists of lists

module _ {X Y : Type 0} (test : Y → Bool) (f : X → List Y) where
  -- nothing passes in all lists exactly where nothing does in each
  pub flat_none : (xs : List X) → ((x : X) → Contains xs x → find test (f x) ≡ None) → find test (flat_map f xs) ≡ None
  flat_none [] none = refl
  flat_none (x ∷ xs) none =
      find-append test (f x) (flat_map f xs)
      ∙ ap (λ o. option_or o (find test (flat_map f xs))) (none x (Contains-first x xs))
      ∙ flat_none xs (λ y c. none y (Contains-rest x xs y c))

  pub each_none : (xs : List X) (x : X) → find test (flat_map f xs) ≡ None → Contains xs x → find test (f x) ≡ None
  each_none [] x e c = absurd (nothing c)
    where
      nothing : Contains [] x → ⊥
      nothing h = omega arith
  each_none (y ∷ ys) x e c =
      let both = or_both (find test (f y)) (find test (flat_map f ys))
      (sym (find-append test (f y) (flat_map f ys)) ∙ e) in
      by both.0 (each_none ys x both.1) (Contains-cases y ys x c)
    where
      by : find test (f y) ≡ None → (Contains ys x → find test (f x) ≡ None) → (y ≡ x) ⊎ Contains ys x →
          find test (f x) ≡ None
      by mine others (inl is) = subst (λ z. find test (f z) ≡ None) is mine
      by mine others (inr h) = others h

-- ---- the constraints of a row

pub in_classes : (class : DeclAt) (classes : List DeclAt) → list_any (same_place class) classes ≡ true →
    Contains classes class
in_classes class [] e = absurd cc
in_classes class (one ∷ rest) e =
    by (in_classes class rest) (or_cases (same_place class one) (list_any (same_place class) rest) e)
  where
    by : (list_any (same_place class) rest ≡ true → Contains rest class) → (same_place class one ≡ true)
        ⊎ (list_any (same_place class) rest ≡ true) → Contains (one ∷ rest) class
    by others (inl h) = subst (Contains (one ∷ rest)) (sym (place_is class one h)) (Contains-first one rest)
    by others (inr h) = Contains-rest one rest class (others h)

pub class_among : (class : DeclAt) (classes : List DeclAt) → Contains classes class →
    list_any (same_place class) classes ≡ true
class_among class [] c = absurd (nothing c)
  where
    nothing : Contains [] class → ⊥
    nothing h = omega arith
class_among class (one ∷ rest) c = by (class_among class rest) (Contains-cases one rest class c)
  where
    by : (Contains rest class → list_any (same_place class) rest ≡ true) → (one ≡ class)
        ⊎ Contains rest class → (same_place class one || list_any (same_place class) rest) ≡ true
    by others (inl is) = or_left (same_place class one) (list_any (same_place class) rest)
        (subst (λ o. same_place class o ≡ true) (sym is) (place_self class))
    by others (inr h) = or_right (same_place class one) (list_any (same_place class) rest) (others h)

named_in : (name : Bytes) (classes : List DeclAt) (class : DeclAt) → Contains classes class →
    Contains (named_with name classes) (name, class)
named_in name [] class c = absurd (nothing c)
  where
    nothing : Contains [] class → ⊥
    nothing h = omega arith
named_in name (one ∷ rest) class c = by (named_in name rest class) (Contains-cases one rest class c)
  where
    by : (Contains rest class → Contains (named_with name rest) (name, class)) → (one ≡ class)
        ⊎ Contains rest class → Contains ((name, one) ∷ named_with name rest) (name, class)
    by others (inl is) = subst (λ o. Contains ((name, one) ∷ named_with name rest) (name, o)) is
        (Contains-first (name, one) (named_with name rest))
    by others (inr h) = Contains-rest (name, one) (named_with name rest) (name, class) (others h)

named_out : (name : Bytes) (classes : List DeclAt) (pair : Bytes × DeclAt) →
    Contains (named_with name classes) pair → (pair.0 ≡ name) × Contains classes pair.1
named_out name [] pair c = absurd (nothing c)
  where
    nothing : Contains [] pair → ⊥
    nothing h = omega arith
named_out name (one ∷ rest) pair c =
    by (named_out name rest pair) (Contains-cases (name, one) (named_with name rest) pair c)
  where
    by : (Contains (named_with name rest) pair → (pair.0 ≡ name) × Contains rest pair.1) →
        ((name, one) ≡ pair) ⊎ Contains (named_with name rest) pair → (pair.0 ≡ name)
        × Contains (one ∷ rest) pair.1
    by others (inl is) = (
      sym (ap (λ p. p.0) is),
      subst (Contains (one ∷ rest)) (ap (λ p. p.1) is)
          (Contains-first one rest),
    )
    by others (inr h) = let there = others h in (there.0, Contains-rest one rest pair.1 there.1)

module _ (all : List Bounded) where
  -- the constraints of one of the type parameters
  abbrev constraints_by : Bounded → Known
  constraints_by one = named_with one.parameter.name (unwrap_or (classes_of all one.parameter.name) [])

  constraint_in : (some : List Bounded) (name : Bytes) (classes mine : List DeclAt) (class : DeclAt) →
      classes_of some name ≡ Some mine → classes_of all name ≡ Some classes → Contains classes class →
      Contains (flat_map constraints_by some) (name, class)
  constraint_in [] name classes mine class e is c = absurd cc
  constraint_in (one ∷ rest) name classes mine class e is c = by (bytes_eq one.parameter.name name) refl
      (λ e. constraint_in rest name classes mine class e is c) e
    where
      by : (b : Bool) → bytes_eq one.parameter.name name ≡ b →
          (classes_of rest name ≡ Some mine → Contains (flat_map constraints_by rest) (name, class)) →
          (if b then Some one.classes else classes_of rest name) ≡ Some mine →
          Contains (constraints_by one ++ flat_map constraints_by rest) (name, class)
      by true same others e =
          let named_so : one.parameter.name ≡ name = (bytes_eq-Decides one.parameter.name name).0 same in
          Contains-append_left (constraints_by one) (flat_map constraints_by rest) (name, class)
          (subst (λ n. Contains (named_with n (unwrap_or (classes_of all n) [])) (name, class)) (sym named_so)
          (subst (λ o. Contains (named_with name (unwrap_or o [])) (name, class)) (sym is)
          (named_in name classes class c)))
      by false other others e = Contains-append_right (constraints_by one) (flat_map constraints_by rest)
          (name, class) (others e)

  constraint_out : (some : List Bounded) (pair : Bytes × DeclAt) → Contains (flat_map constraints_by some)
      pair → constrains all pair.0 pair.1 ≡ true
  constraint_out [] pair c = absurd (nothing c)
    where
      nothing : Contains [] pair → ⊥
      nothing h = omega arith
  constraint_out (one ∷ rest) pair c =
      by (constraint_out rest pair) (Contains-append_cases (constraints_by one) (flat_map constraints_by rest)
      pair c)
    where
      from : (o : Option (List DeclAt)) → Contains (unwrap_or o []) pair.1 → is_among pair.1 o ≡ true
      from None h = absurd (nothing h)
        where
          nothing : Contains [] pair.1 → ⊥
          nothing h = omega arith
      from (Some classes) h = class_among pair.1 classes h

      by : (Contains (flat_map constraints_by rest) pair → constrains all pair.0 pair.1 ≡ true) →
          Contains (constraints_by one) pair ⊎ Contains (flat_map constraints_by rest) pair →
          constrains all pair.0 pair.1 ≡ true
      by others (inl h) =
          let there = named_out one.parameter.name (unwrap_or (classes_of all one.parameter.name) []) pair h in
          subst (λ n. constrains all n pair.1 ≡ true) (sym there.0) (from (classes_of all one.parameter.name) there.1)
      by others (inr h) = others h

-- a class constrains a name exactly where it is listed so
pub constraint_listed : (generics : List Bounded) (name : Bytes) (class : DeclAt) →
    constrains generics name class ≡ true → Contains (constraints_of generics) (name, class)
constraint_listed generics name class e = by (classes_of generics name) refl e
  where
    by : (o : Option (List DeclAt)) → classes_of generics name ≡ o → is_among class o ≡ true →
        Contains (constraints_of generics) (name, class)
    by None is h = absurd cc
    by (Some classes) is h = constraint_in generics generics name classes classes class is is
        (in_classes class classes h)

pub listed_constrains : (generics : List Bounded) (name : Bytes) (class : DeclAt) →
    Contains (constraints_of generics) (name, class) → constrains generics name class ≡ true
listed_constrains generics name class c = constraint_out generics generics (name, class) c

-- a name with constraints is that of a parameter, so it is among the arguments that all stand in
pub constrained_stands : (generics : List Bounded) (args : Arguments) (name : Bytes) (class : DeclAt) →
    all_stand (parameters generics) args ≡ true → constrains generics name class ≡ true → stands_in name args
    ≡ true
constrained_stands [] args name class stand e = absurd cc
constrained_stands (one ∷ rest) args name class stand e =
    let both = and_parts (stands_in one.parameter.name args) (all_stand (parameters rest) args) stand in
    by (bytes_eq one.parameter.name name) refl both.0 (constrained_stands rest args name class both.1) e
  where
    by : (b : Bool) → bytes_eq one.parameter.name name ≡ b → stands_in one.parameter.name args ≡ true →
        (constrains rest name class ≡ true → stands_in name args ≡ true) →
        is_among class (if b then Some one.classes else classes_of rest name) ≡ true → stands_in name args
        ≡ true
    by true is mine others e = subst (λ n. stands_in n args ≡ true)
        ((bytes_eq-Decides one.parameter.name name).0 is) mine
    by false is mine others e = others e

-- ---- the pairs of a class at a type

one_empty : (name : Bytes) (args : Arguments) (class : DeclAt) → part_for name args [] class ≡ []
one_empty name no_arguments class = refl
one_empty name (arguments first rest) class = refl

pub nothing_below : (names : Arguments) (constraints : Known) →
    flat_map (λ one. part_for one.0 names [] one.1) constraints ≡ []
nothing_below names [] = refl
nothing_below names (one ∷ rest) = ap (λ xs. xs ++ flat_map (λ one. part_for one.0 names [] one.1) rest)
    (one_empty one.0 names one.1) ∙ nothing_below names rest

none_below : (o : Option Row) → below o [] ≡ []
none_below None = refl
none_below (Some row) = nothing_below (arguments_of row.head) (constraints_of row.generics)

module _ (rows : List Row) (heads : List (DeclAt × Head)) (scope : List Parameter) (known : Known) where
  abbrev test : Pair → Bool
  test pair = is_lacking rows heads scope known pair.0 pair.1

  pub pairs_are : (t : Meaning) (class : DeclAt) → pairs rows heads scope t class ≡ (class, t) ∷ below
      (row_for heads scope rows class t) (parts_of rows heads scope (arguments_of t))
  pairs_are unit class = ap (λ xs. (class, unit) ∷ xs) (sym (none_below (row_for heads scope rows class unit)))
  pairs_are truth class = ap (λ xs. (class, truth) ∷ xs) (sym (none_below (row_for heads scope rows class truth)))
  pairs_are (integer kind) class = ap (λ xs. (class, integer kind) ∷ xs)
      (sym (none_below (row_for heads scope rows class (integer kind))))
  pairs_are text class = ap (λ xs. (class, text) ∷ xs) (sym (none_below (row_for heads scope rows class text)))
  pairs_are (parameter name) class = refl
  pairs_are (named at args) class = refl
  pairs_are (reads to region) class = refl
  pairs_are (writes to region) class = refl

  -- a type that a row is found for isn't lacking
  pub not_lacking : (class : DeclAt) (t : Meaning) (row : Row) → row_for heads scope rows class t ≡ Some row →
      is_lacking rows heads scope known class t ≡ false
  not_lacking class unit row e = ap is_none e
  not_lacking class truth row e = ap is_none e
  not_lacking class (integer kind) row e = ap is_none e
  not_lacking class text row e = ap is_none e
  not_lacking class (parameter name) row e = absurd cc
  not_lacking class (named at args) row e = ap is_none e
  not_lacking class (reads to region) row e = ap is_none e
  not_lacking class (writes to region) row e = ap is_none e

  -- what is lacking first where a row is found: what is lacking below it
  pub lacking_with : (class : DeclAt) (t : Meaning) (row : Row) → row_for heads scope rows class t ≡ Some row
      → lacking rows heads scope known class t
      ≡ find test (below (Some row) (parts_of rows heads scope (arguments_of t)))
  lacking_with class t row e =
      ap (find test) (pairs_are t class)
      ∙ ap (λ b. cond b (Some (class, t))
      (find test (below (row_for heads scope rows class t) (parts_of rows heads scope (arguments_of t)))))
      (not_lacking class t row e)
      ∙ ap (λ o. find test (below o (parts_of rows heads scope (arguments_of t)))) e

  -- ---- the arguments in the places of names

  module _ (s : Bindings) where
    walk_none : (names : Arguments) (name : Bytes) (wanted : DeclAt) → EachNameOfAll (GivesType s) (GivesRegion s) names
        → ((value : Meaning) → value_of name s ≡ Some (of_type value) → lacking rows heads scope known wanted
        value ≡ None)
        → find test (part_for name names (parts_of rows heads scope (all_substituted s names)) wanted) ≡ None
    walk_none no_arguments name wanted fixed none = refl
    walk_none (arguments one rest) name wanted fixed none = by (is_called name (name_of one)) refl
        (walk_none rest name wanted fixed.1 none)
      where
        here : (one : Argument) → EachNameOf (GivesType s) (GivesRegion s) one → is_called name (name_of one)
            ≡ true → find test (part_of rows heads scope (argument_substituted s one) wanted) ≡ None
        here (of_type (parameter other)) gives called =
            let same : other ≡ name = sym ((bytes_eq-Decides name other).0 called) in
            subst (λ o. find test (pairs rows heads scope (type_for o other) wanted) ≡ None) (sym gives.1)
            (none gives.0 (ap (λ n. value_of n s) (sym same) ∙ gives.1))
        here (of_type t) gives called = absurd cc
        here (in_region region) gives called = refl

        by : (b : Bool) → is_called name (name_of one) ≡ b →
            find test (part_for name rest (parts_of rows heads scope (all_substituted s rest)) wanted) ≡ None →
            find test (if b then part_of rows heads scope (argument_substituted s one) wanted else part_for name
            rest (parts_of rows heads scope (all_substituted s rest)) wanted) ≡ None
        by true called others = here one fixed.0 called
        by false called others = others

  -- P of each type among arguments
  abbrev OfArgument : (Meaning → Type 0) → Argument → Type 0
  OfArgument P (of_type t) = P t
  OfArgument P (in_region region) = Unit {0}

  abbrev EachArgument : (Meaning → Type 0) → Arguments → Type 0
  EachArgument P no_arguments = Unit {0}
  EachArgument P (arguments one rest) = OfArgument P one × EachArgument P rest

  -- where nothing is lacking at a type, the class holds
  abbrev IsMet : Meaning → Type 0
  IsMet t = (class : DeclAt) → lacking rows heads scope known class t ≡ None → Holds rows heads scope known class t

  module _ (s : Bindings) where
    walk_holds : (names : Arguments) (name : Bytes) (wanted : DeclAt) (value : Meaning) →
        EachNameOfAll (GivesType s) (GivesRegion s) names → EachArgument IsMet (all_substituted s names)
        → stands_in name names ≡ true → value_of name s ≡ Some (of_type value)
        → find test (part_for name names (parts_of rows heads scope (all_substituted s names)) wanted) ≡ None
        → Holds rows heads scope known wanted value
    walk_holds no_arguments name wanted value fixed met stands is none = absurd cc
    walk_holds (arguments one rest) name wanted value fixed met stands is none =
        by (is_called name (name_of one)) refl
        (λ stands none. walk_holds rest name wanted value fixed.1 met.1 stands is none) stands none
      where
        here : (one : Argument) → EachNameOf (GivesType s) (GivesRegion s) one →
            OfArgument IsMet (argument_substituted s one) → is_called name (name_of one) ≡ true →
            find test (part_of rows heads scope (argument_substituted s one) wanted) ≡ None →
            Holds rows heads scope known wanted value
        here (of_type (parameter other)) gives met called none =
            let same : other ≡ name = sym ((bytes_eq-Decides name other).0 called) in
            let becomes : type_for (value_of other s) other ≡ value =
            ap (λ o. type_for o other) (ap (λ n. value_of n s) same ∙ is) in
            subst (Holds rows heads scope known wanted) becomes (met wanted none)
        here (of_type t) gives met called none = absurd cc
        here (in_region (Named other)) gives met called none =
            let same : other ≡ name = sym ((bytes_eq-Decides name other).0 called) in
            let both : Some (in_region gives.0) ≡ Some (of_type value) = sym gives.1
            ∙ ap (λ n. value_of n s) same ∙ is in
            absurd cc
        here (in_region region) gives met called none = absurd cc

        by : (b : Bool) → is_called name (name_of one) ≡ b →
            (stands_in name rest ≡ true → find test
            (part_for name rest (parts_of rows heads scope (all_substituted s rest)) wanted) ≡ None →
            Holds rows heads scope known wanted value) → (b || stands_in name rest) ≡ true →
            find test (if b then part_of rows heads scope (argument_substituted s one) wanted else part_for name
            rest (parts_of rows heads scope (all_substituted s rest)) wanted) ≡ None →
            Holds rows heads scope known wanted value
        by true called others stands none = here one fixed.0 met.0 called none
        by false called others stands none = others stands none

  -- ---- where the class holds, nothing is lacking

  module _ (table : IsTable rows) where
    -- the constraints of a row whose head becomes a type under a substitution
    below_none : (class : DeclAt) (t : Meaning) (row : Row) (s : Bindings) → Contains rows row →
        Becomes heads scope row t s
        → ((name : Bytes) (wanted : DeclAt) (value : Meaning) → IsTrue (constrains row.generics name wanted) →
        value_of name s ≡ Some (of_type value) → lacking rows heads scope known wanted value ≡ None)
        → find test (below (Some row) (parts_of rows heads scope (arguments_of t))) ≡ None
    below_none class t row s listed becomes none = by row.generics (table.formed row listed) none
      where
        names : Arguments
        names = arguments_of row.head

        parts : Parts
        parts = parts_of rows heads scope (arguments_of t)

        by : (generics : List Bounded) → HasForm generics row.head
            → ((name : Bytes) (wanted : DeclAt) (value : Meaning) → IsTrue (constrains generics name wanted) →
            value_of name s ≡ Some (of_type value) → lacking rows heads scope known wanted value ≡ None)
            → find test (flat_map (λ one. part_for one.0 names parts one.1) (constraints_of generics)) ≡ None
        by [] form none = refl
        by (first ∷ others) form none =
            let over = form_over first others row.head form in
            let fixed : EachNameOfAll (GivesType s) (GivesRegion s) over.args =
            subst (Fixes s) over.is becomes.makes.fixes in
            let is : all_substituted s over.args ≡ arguments_of t =
            ap arguments_of (sym (ap (substituted s) over.is) ∙ becomes.makes.equal) in
            let names_are : over.args ≡ names = sym (ap arguments_of over.is) in
            flat_none test (λ one. part_for one.0 names parts one.1) (constraints_of (first ∷ others))
            (λ one c. subst (λ ns. find test (part_for one.0 ns parts one.1) ≡ None) names_are
            (subst (λ args. find test (part_for one.0 over.args (parts_of rows heads scope args) one.1) ≡ None) is
            (walk_none s over.args one.0 one.1 fixed
            (λ value given. none one.0 one.1 value (listed_constrains (first ∷ others) one.0 one.1 c)
            given))))

    mutual
      pub holds_none : (class : DeclAt) (t : Meaning) → Holds rows heads scope known class t →
          lacking rows heads scope known class t ≡ None
      holds_none class t (assumed one name h) = ap (λ b. cond (not b) (Some (one, parameter name)) None) h
      holds_none class t (given one u row instance) = instance_none one u row instance

      pub instance_none : (class : DeclAt) (t : Meaning) (row : Row) → Instance rows heads scope known class t
          row → lacking rows heads scope known class t ≡ None
      instance_none class t row (by_row one u r s listed of_class becomes constraints) =
          lacking_with one u r (row_for_there heads scope rows one u r table
          (record { listed = listed; of_class = of_class; by = s; becomes = becomes }))
          ∙ below_none one u r s listed becomes
          (λ name wanted value c v. holds_none wanted value (constraints name wanted value c v))

    -- ---- where nothing is lacking, the class holds

    -- the row that is found gives the instance, where the arguments of the type meet what is wanted of them
    row_gives : (class : DeclAt) (t : Meaning) (row : Row) → EachArgument IsMet (arguments_of t) →
        row_for heads scope rows class t ≡ Some row → lacking rows heads scope known class t ≡ None →
        Instance rows heads scope known class t row
    row_gives class t row met e none =
        let is = row_for_gave heads scope rows class t row table e in
        by_row class t row is.by is.listed is.of_class is.becomes
        (constraints is row.generics (table.formed row is.listed) (sym (lacking_with class t row e) ∙ none))
      where
        names : Arguments
        names = arguments_of row.head

        parts : Parts
        parts = parts_of rows heads scope (arguments_of t)

        constraints : (is : IsRowFor heads scope rows class t row) (generics : List Bounded) → HasForm generics row.head
            → find test (flat_map (λ one. part_for one.0 names parts one.1) (constraints_of generics)) ≡ None
            → (name : Bytes) (wanted : DeclAt) (value : Meaning) → IsTrue (constrains generics name wanted) →
            value_of name is.by ≡ Some (of_type value) → Holds rows heads scope known wanted value
        constraints is [] form none name wanted value c v = absurd cc
        constraints is (first ∷ others) form none name wanted value c v =
            let s = is.by in
            let over = form_over first others row.head form in
            let fixed : EachNameOfAll (GivesType s) (GivesRegion s) over.args =
            subst (Fixes s) over.is is.becomes.makes.fixes in
            let args_are : arguments_of t ≡ all_substituted s over.args =
            sym (ap arguments_of (sym (ap (substituted s) over.is) ∙ is.becomes.makes.equal)) in
            let names_are : names ≡ over.args = ap arguments_of over.is in
            let mine = each_none test (λ one. part_for one.0 names parts one.1)
            (constraints_of (first ∷ others)) (name, wanted) none
            (constraint_listed (first ∷ others) name wanted c) in
            walk_holds s over.args name wanted value fixed (subst (EachArgument IsMet) args_are met)
            (constrained_stands (first ∷ others) over.args name wanted over.stand c) v
            (subst (λ args. find test (part_for name over.args (parts_of rows heads scope args) wanted) ≡ None) args_are
            (subst (λ ns. find test (part_for name ns parts wanted) ≡ None) names_are mine))

    -- a type that is no type parameter, whose arguments meet what is wanted of them
    met_by : (class : DeclAt) (t : Meaning) → EachArgument IsMet (arguments_of t) →
        is_lacking rows heads scope known class t ≡ is_none (row_for heads scope rows class t)
        → lacking rows heads scope known class t ≡ None → Holds rows heads scope known class t
    met_by class t met tested none = by (row_for heads scope rows class t) refl
      where
        by : (o : Option Row) → row_for heads scope rows class t ≡ o → Holds rows heads scope known class t
        by (Some row) e = given class t row (row_gives class t row met e none)
        by None e =
            let first : ◌≡◌ {A = Option Pair} (Some (class, t)) None =
            sym (ap (find test) (pairs_are t class)
            ∙ ap (λ b. cond b (Some (class, t))
            (find test (below (row_for heads scope rows class t)
            (parts_of rows heads scope (arguments_of t))))) (tested ∙ ap is_none e)) ∙ none in
            absurd cc

    mutual
      pub none_holds : (t : Meaning) → IsMet t
      none_holds unit class none = met_by class unit tt refl none
      none_holds truth class none = met_by class truth tt refl none
      none_holds (integer kind) class none = met_by class (integer kind) tt refl none
      none_holds text class none = met_by class text tt refl none
      none_holds (parameter name) class none = by (is_known known name class) refl none
        where
          by : (b : Bool) → is_known known name class ≡ b →
              cond {A = Option Pair} (not b) (Some (class, parameter name)) None ≡ None →
              Holds rows heads scope known class (parameter name)
          by true e none = assumed class name e
          by false e none = absurd cc
      none_holds (named at args) class none = met_by class (named at args) (all_met args) refl none
      none_holds (reads to region) class none = met_by class (reads to region) tt refl none
      none_holds (writes to region) class none = met_by class (writes to region) tt refl none

      argument_met : (one : Argument) → OfArgument IsMet one
      argument_met (of_type t) = none_holds t
      argument_met (in_region region) = tt

      all_met : (args : Arguments) → EachArgument IsMet args
      all_met no_arguments = tt
      all_met (arguments one rest) = (argument_met one, all_met rest)
