-- What calls and rows give for type parameters.
use Rattle.std.proofs.Common.{◌≡◌, ◌⊎◌, inl, inr, ◌||◌, Bool, true, false, cond, List, [], ◌∷◌, Option, None}
use Rattle.std.proofs.Common.{Some, map, refl, sym, ap, subst, ◌∙◌, true≢false}
use Rattle.std.specs.Prelude.{Contains, if◌then◌else◌}
use Rattle.std.specs.List.{list_any}
use Rattle.std.specs.Map.{lookup}
use Rattle.std.specs.Str.{bytes_eq}
use Rattle.std.proofs.lemmas.Bool.{and_parts}
use Rattle.std.proofs.lemmas.Option.{same_Some}
use Rattle.std.proofs.lemmas.Slice.Eq.{bytes_eq-Decides}
use Rattle.au_base.proofs.ListLemmas.{nothing_there, Contains-first, Contains-rest, Contains-cases}
use Rattle.au_syntax.specs.declared.declarations.Universe.{Universe}
use Rattle.au_syntax.specs.declared.declarations.Universe.TheVariants as universes
use Rattle.au_syntax.specs.Plain.{Bytes}
use Rattle.au_types.specs.declared.headings.Head.{Head}
use Rattle.au_types.specs.declared.parameters.Parameter.{Parameter}
use Rattle.au_types.specs.declared.types.DeclAt.{DeclAt}
use Rattle.au_types.specs.declared.types.Region.{Region}
use Rattle.au_types.specs.declared.types.Region.TheVariants.{Static, Named, Anonymous}
use Rattle.au_types.specs.Types.{Meaning, Arguments, parameter, of_type, in_region, no_arguments, arguments}
use Rattle.au_types.specs.Universes.{universe_in}
use Rattle.au_matching.specs.Bindings.{Bindings}
use Rattle.au_matching.specs.Substituted.{substituted}
use Rattle.au_matching.specs.Forming.{wants_region}
use Rattle.au_type_texts.specs.Types.{ClosedType, ClosedTypes, unit, truth, integer, text, named, reads}
use Rattle.au_type_texts.specs.Types.{writes, no_types, types}
use Rattle.au_judged_types.specs.Bounds.{Bounded, parameters}
use Rattle.au_instances.specs.ClosedInstances.{ClosedInstance, by_row, all_closed_stand, closed_stands, gives}
use Rattle.au_instances.specs.ClosedInstances.{part_of, parts_in, parts_of, types_in}
use Rattle.au_instances.specs.Constructors.{closed_constructor}
use Rattle.au_instances.specs.Forms.{HasForm, are_parameters, arguments_of, is_called, is_one_of, of_kind}
use Rattle.au_instances.specs.Forms.{region_name, stands_in, type_name}
use Rattle.au_instances.specs.Rows.{Row}
use Rattle.au_instances.specs.Tables.{IsTable, row_with}
use Rattle.au_instances.proofs.BecomingLemmas.{parameter_stands}
use Rattle.au_instances.proofs.ClosedLemmas.{closed_row_is, closed_row_there, if_gives_gave}
use Rattle.au_instances.proofs.FormLemmas.{form_over}
use Rattle.au_type_texts.specs.Given.{Given, closed_or_unit, closed_under, given_by, given_for}
use Rattle.au_closed_trees.specs.TypeNames.{is_region, listed, type_names}
use Rattle.au_closing.specs.Instances.{given_of_row, pair_before, paired, picked, types_within}
use Rattle.au_closing_laws.specs.Targets.{IsTypeOf}

-- ---- names

-- a type parameter that isn't a region is named
pub type_named : (params : List Parameter) (name : Bytes) (universe : Universe) → universe_in params name
    ≡ Some universe
    → is_region universe ≡ false → Contains (type_names params) name
type_named [] name universe e is = absurd cc
type_named (p ∷ params) name universe e is =
    by (bytes_eq p.name name) refl (is_region p.universe) refl (type_named params name universe) e
  where
    by : (b : Bool) → bytes_eq p.name name ≡ b → (r : Bool) → is_region p.universe ≡ r
        → (universe_in params name ≡ Some universe → is_region universe ≡ false → Contains (type_names params) name)
        → cond b (Some p.universe) (universe_in params name) ≡ Some universe
        → Contains (if r then type_names params else p.name ∷ type_names params) name
    by true same true region later e =
        let sort : p.universe ≡ universe = same_Some p.universe universe e in
        absurd (true≢false (sym region ∙ ap is_region sort ∙ is))
    by true same false region later e =
        subst (Contains (p.name ∷ type_names params)) ((bytes_eq-Decides p.name name).0 same)
        (Contains-first p.name (type_names params))
    by false same true region later e = later e is
    by false same false region later e = Contains-rest p.name (type_names params) name (later e is)

-- a name that is given first, and one that is given later
found_next : (f : Bytes → ClosedType) (rest : Given) (first name : Bytes)
    → (first ≡ name) ⊎ (given_for rest name ≡ f name)
    → given_for ((first, f first) ∷ rest) name ≡ f name
found_next f rest first name h = by (bytes_eq name first) refl h
  where
    by : (b : Bool) → bytes_eq name first ≡ b → (first ≡ name) ⊎ (given_for rest name ≡ f name)
        → closed_or_unit (cond b (Some (f first)) (lookup (bytes_eq name) rest)) ≡ f name
    by true is h = ap f (sym ((bytes_eq-Decides name first).0 is))
    by false is (inl same) = absurd (true≢false (sym ((bytes_eq-Decides name first).1 (sym same)) ∙ is))
    by false is (inr later) = later

-- what a call gives for one of these names
pub given_found : (all : Given) (s : Bindings) (names : List Bytes) (name : Bytes) → Contains names name
    → given_for (given_by all s names) name ≡ closed_under all (substituted s (parameter name))
given_found all s [] name c = absurd (nothing_there name c)
given_found all s (first ∷ names) name c =
    found_next (λ n. closed_under all (substituted s (parameter n))) (given_by all s names) first name
    (by (given_found all s names name) (Contains-cases first names name c))
  where
    by : (Contains names name → given_for (given_by all s names) name ≡ closed_under all
        (substituted s (parameter name)))
        → (first ≡ name) ⊎ Contains names name
        → (first ≡ name) ⊎ (given_for (given_by all s names) name ≡ closed_under all (substituted s (parameter name)))
    by later (inl same) = inl same
    by later (inr there) = inr (later there)

pub picked_found : (pairs : Given) (names : List Bytes) (name : Bytes) → Contains names name
    → given_for (picked pairs names) name ≡ given_for pairs name
picked_found pairs [] name c = absurd (nothing_there name c)
picked_found pairs (first ∷ names) name c =
    found_next (given_for pairs) (picked pairs names) first name
    (by (picked_found pairs names name) (Contains-cases first names name c))
  where
    by : (Contains names name → given_for (picked pairs names) name ≡ given_for pairs name)
        → (first ≡ name) ⊎ Contains names name
        → (first ≡ name) ⊎ (given_for (picked pairs names) name ≡ given_for pairs name)
    by later (inl same) = inl same
    by later (inr there) = inr (later there)

-- ---- the arguments of a head

not_both : (universe : Universe) → is_region universe ≡ false → wants_region universe ≡ true → ⊥
not_both universes.Free is wants = absurd cc
not_both universes.Linear is wants = absurd cc
not_both universes.AnyType is wants = absurd cc
not_both universes.Region is wants = absurd cc

-- a type parameter that is one of the arguments is one of the types among them
pub among : (params : List Parameter) (args : Arguments) (name : Bytes) (universe : Universe)
    → universe_in params name ≡ Some universe → is_region universe ≡ false
    → are_parameters params args ≡ true → stands_in name args ≡ true
    → list_any (λ t. is_called name (type_name t)) (types_in args) ≡ true
among params no_arguments name universe e is own stands = absurd cc
among params (arguments (of_type t) rest) name universe e is own stands =
    let parts = and_parts (is_one_of params (type_name t) (of_type t)) (are_parameters params rest) own in
    by (is_called name (type_name t)) (among params rest name universe e is parts.1) stands
  where
    by : (b : Bool) → (stands_in name rest ≡ true → list_any (λ t. is_called name (type_name t)) (types_in rest) ≡ true)
        → (b || stands_in name rest) ≡ true
        → (b || list_any (λ t. is_called name (type_name t)) (types_in rest)) ≡ true
    by true later h = refl
    by false later h = later h
among params (arguments (in_region region) rest) name universe e is own stands =
    let parts = and_parts (is_one_of params (region_name region) (in_region region)) (are_parameters params rest) own in
    by region parts.0 (among params rest name universe e is parts.1) stands
  where
    here : (other : Bytes) (b : Bool) → bytes_eq name other ≡ b →
        of_kind (universe_in params other) (in_region region) ≡ true
        → (stands_in name rest ≡ true → list_any (λ t. is_called name (type_name t)) (types_in rest) ≡ true)
        → (b || stands_in name rest) ≡ true
        → list_any (λ t. is_called name (type_name t)) (types_in rest) ≡ true
    here other true same kind later h =
        let named_so : universe_in params other ≡ Some universe =
        ap (universe_in params) (sym ((bytes_eq-Decides name other).0 same)) ∙ e in
        absurd (not_both universe is (subst (λ o. of_kind o (in_region region) ≡ true) named_so kind))
    here other false same kind later h = later h

    by : (r : Region) → is_one_of params (region_name r) (in_region region) ≡ true
        → (stands_in name rest ≡ true → list_any (λ t. is_called name (type_name t)) (types_in rest) ≡ true)
        → (is_called name (region_name r) || stands_in name rest) ≡ true
        → list_any (λ t. is_called name (type_name t)) (types_in rest) ≡ true
    by Static kind later h = absurd cc
    by (Named other) kind later h = here other (bytes_eq name other) refl kind later h
    by Anonymous kind later h = absurd cc

-- ---- what a row gives

module _ (rows : List Row) (heads : List (DeclAt × Head)) where
  listed_parts : (list : ClosedTypes) → parts_of rows heads list ≡ map (part_of rows heads) (listed list)
  listed_parts no_types = refl
  listed_parts (types one rest) = ap (λ l. part_of rows heads one ∷ l) (listed_parts rest)

  parts_within : (t : ClosedType) → parts_in rows heads t ≡ map (part_of rows heads) (types_within t)
  parts_within unit = refl
  parts_within truth = refl
  parts_within (integer kind) = refl
  parts_within text = refl
  parts_within (named at list) = listed_parts list
  parts_within (reads to) = refl
  parts_within (writes to) = refl

  module _ (generics : List Bounded) (name : Bytes) where
    abbrev Suits : ClosedType → Type 0
    Suits t = closed_stands heads generics (Some name) (part_of rows heads t) ≡ true

    -- what is paired with a name that is among the types suits it
    pairs_suit : (ts : List Meaning) (list : List ClosedType)
        → all_closed_stand heads generics ts (map (part_of rows heads) list) ≡ true
        → list_any (λ t. is_called name (type_name t)) ts ≡ true
        → Suits (given_for (paired ts list) name)
    pairs_suit [] list e there = absurd cc
    pairs_suit (t ∷ ts) [] e there = absurd cc
    pairs_suit (t ∷ ts) (u ∷ list) e there =
        let parts = and_parts (closed_stands heads generics (type_name t) (part_of rows heads u))
        (all_closed_stand heads generics ts (map (part_of rows heads) list)) e in
        by (type_name t) parts.0 (pairs_suit ts list parts.1) there
      where
        at : (other : Bytes) (b : Bool) → bytes_eq name other ≡ b
            → closed_stands heads generics (Some other) (part_of rows heads u) ≡ true
            → (list_any (λ t. is_called name (type_name t)) ts ≡ true → Suits (given_for (paired ts list) name))
            → (b || list_any (λ t. is_called name (type_name t)) ts) ≡ true
            → Suits (closed_or_unit (cond b (Some u) (lookup (bytes_eq name) (paired ts list))))
        at other true same stands later h =
            subst (λ n. closed_stands heads generics (Some n) (part_of rows heads u) ≡ true)
            (sym ((bytes_eq-Decides name other).0 same)) stands
        at other false same stands later h = later h

        by : (o : Option Bytes) → closed_stands heads generics o (part_of rows heads u) ≡ true
            → (list_any (λ t. is_called name (type_name t)) ts ≡ true → Suits (given_for (paired ts list) name))
            → (is_called name o || list_any (λ t. is_called name (type_name t)) ts) ≡ true
            → Suits (given_for (pair_before o u (paired ts list)) name)
        by None stands later h = absurd cc
        by (Some other) stands later h = at other (bytes_eq name other) refl stands later h

  module _ (table : IsTable rows) where
    is_listed : (class : DeclAt) (t : ClosedType) (row : Row) → ClosedInstance rows heads class t row →
        Contains rows row
    is_listed class t row (by_row one u r s there of_class becomes held) = there

    -- what a row gives for a type parameter that isn't a region suits it
    pub row_suits : (class : DeclAt) (t : ClosedType) (row : Row) → ClosedInstance rows heads class t row
        → (name : Bytes) (universe : Universe) → IsTypeOf (parameters row.generics) name universe
        → closed_stands heads row.generics (Some name) (part_of rows heads (given_for (given_of_row row t) name)) ≡ true
    row_suits class t row instance name universe is =
        let tested = if_gives_gave rows heads t (parts_in rows heads t) (row_with rows class (closed_constructor t)) row
        (sym (closed_row_is rows heads t class) ∙ closed_row_there rows heads table class t row instance) in
        let form = table.formed row (is_listed class t row instance) in
        let pairs = paired (types_in (arguments_of row.head)) (types_within t) in
        let there = type_named (parameters row.generics) name universe is.declared is.is_type in
        subst (λ u. closed_stands heads row.generics (Some name) (part_of rows heads u) ≡ true)
        (sym (picked_found pairs (type_names (parameters row.generics)) name there))
        (by row.generics form tested.1 is)
      where
        by : (generics : List Bounded) → HasForm generics row.head
            → gives heads generics row.head t (parts_in rows heads t) ≡ true
            → IsTypeOf (parameters generics) name universe
            → Suits generics name (given_for (paired (types_in (arguments_of row.head)) (types_within t)) name)
        by [] form e is = let none : None ≡ Some universe = is.declared in absurd cc
        by (first ∷ others) form e is =
            let params = parameters (first ∷ others) in
            let over = form_over first others row.head form in
            let args_are : arguments_of row.head ≡ over.args = ap arguments_of over.is in
            let stands = parameter_stands heads [] params [] params (arguments_of row.head) name universe
            form.stand is.declared in
            let own = subst (λ args. are_parameters params args ≡ true) (sym args_are) over.own in
            pairs_suit (first ∷ others) name (types_in (arguments_of row.head)) (types_within t)
            (subst (λ parts. gives heads (first ∷ others) row.head t parts ≡ true) (parts_within t) e)
            (among params (arguments_of row.head) name universe is.declared is.is_type own stands)
