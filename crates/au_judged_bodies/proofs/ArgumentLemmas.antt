-- The arguments of good calls, as what is called takes them.
use Rattle.std.proofs.Common.{◌≡◌, ◌⊎◌, inl, inr, ℕ, zero, suc, ◌+◌, ◌==◌, ◌||◌, Bool, true, false, cond, true≢false}
use Rattle.std.proofs.Common.{List, [], ◌∷◌, length, map, find, Option, None, Some, refl, sym, ap, ◌∙◌, subst, arith}
use Rattle.std.specs.Prelude.{if◌then◌else◌, option_and_then, slice_get}
use Rattle.std.specs.List.{count_by, list_all, list_any}
use Rattle.std.specs.Option.{option_map}
use Rattle.std.specs.Str.{bytes_eq}
use Rattle.std.proofs.lemmas.Bool.{and_from, and_parts, eqb-true}
use Rattle.std.proofs.lemmas.List.Sums.{sum_by-cons}
use Rattle.std.proofs.lemmas.Option.{none-some, same_Some}
use Rattle.std.proofs.lemmas.Slice.Eq.{bytes_eq-Decides}
use Rattle.au_syntax.specs.Expressions.{Node, call, named_call, no_expressions, expressions, no_arguments, arguments}
use Rattle.au_syntax.specs.Names.{Placed}
use Rattle.au_syntax.specs.Plain.{Bytes}
use Rattle.au_types.specs.Types.{Meaning}
use Rattle.au_matching.specs.Bindings.{Bindings}
use Rattle.au_matching.specs.Substituted.{substituted}
use Rattle.au_type_texts.specs.Given.{Given}
use Rattle.au_type_texts.specs.Types.{ClosedType}
use Rattle.au_running_types.specs.Running.{running}
use Rattle.au_memory.specs.Loans.{Types}
use Rattle.au_typing.specs.Calls.{GoodCall, by_labels, each_is_named_once, in_order, labelled_types}
use Rattle.au_typing.specs.Good.{AllGoodIn, AllGoodLabelled, HaveTypes, count_of, items_of, labels_of, shown}
use Rattle.au_typing.specs.Good.{values_of}
use Rattle.au_typing.specs.Lookups.{parameters_in, type_of_name}
use Rattle.au_typing.specs.Notes.{Note, NotedArguments, NotedExpressions, type_of}
use Rattle.au_typing.specs.Scopes.{Scope, Typed}
use Rattle.au_typing.proofs.Arguments.{labelled_fits, positional_fits}
use Rattle.au_meaning.specs.Expressions.{labels}
use Rattle.au_meaning.specs.Names as meaning
use Rattle.au_meaning.specs.Views.{Act, View, invokes, makes, ships}
use Rattle.au_known_types.specs.Known.{ScopeIsKnown}
use Rattle.au_known_types.specs.Laws.{ModesAreKnown}
use Rattle.au_known_types.proofs.CallLemmas.{by_labels_well, call_known, in_order_well}
use Rattle.au_known_types.proofs.NotedLemmas.{all_last, labelled_last, type_known}
use Rattle.au_judged_types.specs.Bounds.{parameters}
use Rattle.au_safe_steps.specs.Orders.{AreApart, IsNone, IsReordered}
use Rattle.au_running_lives.specs.Expressions.{AreOf, IsOf, NamedAreOf, Performs}
use Rattle.au_running_lives.specs.Known.{AreActive, Callables, Calls, callees}
use Rattle.au_running_lives.specs.Picking.{AreTypesUnder, IsTypeUnder}
use Rattle.au_judged_bodies.specs.TypedRunsLaws.{AreHanded, AreHandedLabelled, CallsRun, kinds_labelled, kinds_of}
use Rattle.au_judged_bodies.specs.Rounds.{names_of}
use Rattle.au_judged_bodies.proofs.OnceLemmas.{In, found_apart, once_reordered, self_is}
use Rattle.au_judged_bodies.specs.Sights.{Allows, AreHandedAs, CallIsSeen, CallsAreSeen, IsHandedAs, kinds_taken}

-- ---- running types of arguments

module _ (s : Bindings) (z : ℕ) (noted : Bindings) where
  abbrev kind_taken : Meaning → Meaning
  kind_taken t = running s z (substituted noted t)

  kinds_in_order : (es : NotedExpressions) (types : List Meaning) → HaveTypes noted types (items_of es)
      → kinds_of s z es ≡ map kind_taken types
  kinds_in_order no_expressions [] fit = refl
  kinds_in_order no_expressions (t ∷ types) fit = absurd fit
  kinds_in_order (expressions e es) [] fit = absurd fit
  kinds_in_order (expressions e es) (t ∷ types) fit =
      ap (λ u. running s z u ∷ kinds_of s z es) fit.0
      ∙ ap (λ l. kind_taken t ∷ l) (kinds_in_order es types fit.1)

  kinds_by_labels : (es : NotedArguments) (types : List Meaning) → HaveTypes noted types (values_of es)
      → kinds_labelled s z es ≡ map kind_taken types
  kinds_by_labels no_arguments [] fit = refl
  kinds_by_labels no_arguments (t ∷ types) fit = absurd fit
  kinds_by_labels (arguments label e es) [] fit = absurd fit
  kinds_by_labels (arguments label e es) (t ∷ types) fit =
      ap (λ u. running s z u ∷ kinds_labelled s z es) fit.0
      ∙ ap (λ l. kind_taken t ∷ l) (kinds_by_labels es types fit.1)

  kinds_whole : (ps : List Typed) → map kind_taken (map (λ (one : Typed). one.of) ps) ≡ kinds_taken s z noted ps
  kinds_whole [] = refl
  kinds_whole (p ∷ ps) = ap (λ l. kind_taken p.of ∷ l) (kinds_whole ps)

  types_in_order : (number : ℕ) (ps : List Typed) (types : List Meaning) → in_order number ps ≡ Some types
      → map kind_taken types ≡ kinds_taken s z noted ps
  types_in_order number ps types e = by (length ps == number) e
    where
      by : (b : Bool) → (if b then Some (map (λ (one : Typed). one.of) ps) else None) ≡ Some types
          → map kind_taken types ≡ kinds_taken s z noted ps
      by true e =
          ap (map kind_taken) (sym (same_Some (map (λ (one : Typed). one.of) ps) types e)) ∙ kinds_whole ps
      by false e = absurd (none-some types e)

  as_many : (ps : List Typed) → length (kinds_taken s z noted ps) ≡ length (names_of ps)
  as_many [] = refl
  as_many (p ∷ ps) = ap suc (as_many ps)

-- ---- labels

times_more : (name other : Bytes) (rest : List Bytes)
    → count_by (bytes_eq name) (other ∷ rest) ≡ cond (bytes_eq name other) 1 0 + count_by (bytes_eq name) rest
times_more name other rest = sum_by-cons (λ x. cond (bytes_eq name x) 1 0) other rest

counted : (name other : Bytes) (rest : List Bytes) (b : Bool) (n : ℕ) → bytes_eq name other ≡ b
    → count_by (bytes_eq name) (other ∷ rest) ≡ n → cond b 1 0 + count_by (bytes_eq name) rest ≡ n
counted name other rest b n is e =
    ap (λ c. cond c 1 0 + count_by (bytes_eq name) rest) (sym is) ∙ sym (times_more name other rest) ∙ e

no_one : (a : ℕ) → a ≡ 0 → a ≡ 1 → ⊥
no_one a e f = omega (arith, e, f)

less_one : (a : ℕ) → 1 + a ≡ 1 → a ≡ 0
less_one a e = omega (arith, e)

none_more : (a n : ℕ) → 0 + a ≡ n → a ≡ n
none_more a n e = omega (arith, e)

one_more : (a : ℕ) → a ≡ 0 → 1 + a ≡ 1
one_more a e = omega (arith, e)

also_none : (a : ℕ) → a ≡ 0 → 0 + a ≡ 0
also_none a e = omega (arith, e)

also_one : (a : ℕ) → a ≡ 1 → 0 + a ≡ 1
also_one a e = omega (arith, e)

no_more : (a : ℕ) → 1 + a ≡ 0 → ⊥
no_more a e = omega (arith, e)

-- what stands somewhere is found
any_in : (name : Bytes) (all : List Bytes) → In name all → list_any (bytes_eq name) all ≡ true
any_in name [] is = absurd is
any_in name (other ∷ rest) (inl same) =
    ap (λ b. b || list_any (bytes_eq name) rest) ((bytes_eq-Decides name other).1 same)
any_in name (other ∷ rest) (inr later) = by (bytes_eq name other) (any_in name rest later)
  where
    by : (b : Bool) → list_any (bytes_eq name) rest ≡ true → b || list_any (bytes_eq name) rest ≡ true
    by true e = refl
    by false e = e

-- what is met once stands somewhere
once_in : (name : Bytes) (all : List Bytes) → count_by (bytes_eq name) all ≡ 1 → In name all
once_in name [] e = absurd (no_one (count_by (bytes_eq name) []) refl e)
once_in name (other ∷ rest) e = by (bytes_eq name other) refl (once_in name rest)
  where
    by : (b : Bool) → bytes_eq name other ≡ b → (count_by (bytes_eq name) rest ≡ 1 → In name rest)
        → In name (other ∷ rest)
    by true found later = inl ((bytes_eq-Decides name other).0 found)
    by false found later =
        inr (later (none_more (count_by (bytes_eq name) rest) 1 (counted name other rest false 1 found e)))

-- what is met never is no name of a list, and the other way round
none_counted : (name : Bytes) (all : List Bytes) → count_by (bytes_eq name) all ≡ 0 → IsNone name all
none_counted name [] e = tt
none_counted name (other ∷ rest) e = by (bytes_eq name other) refl (none_counted name rest)
  where
    by : (b : Bool) → bytes_eq name other ≡ b → (count_by (bytes_eq name) rest ≡ 0 → IsNone name rest)
        → IsNone name (other ∷ rest)
    by true found later = absurd (no_more (count_by (bytes_eq name) rest) (counted name other rest true 0 found e))
    by false found later = (
      λ same. true≢false (sym ((bytes_eq-Decides name other).1 same) ∙ found),
      later (none_more (count_by (bytes_eq name) rest) 0 (counted name other rest false 0 found e)),
    )

counted_none : (name : Bytes) (all : List Bytes) → IsNone name all → count_by (bytes_eq name) all ≡ 0
counted_none name [] none = refl
counted_none name (other ∷ rest) none =
    times_more name other rest ∙ by (bytes_eq name other) refl (counted_none name rest none.1)
  where
    by : (b : Bool) → bytes_eq name other ≡ b → count_by (bytes_eq name) rest ≡ 0
        → cond b 1 0 + count_by (bytes_eq name) rest ≡ 0
    by true found later = absurd (none.0 ((bytes_eq-Decides name other).0 found))
    by false found later = also_none (count_by (bytes_eq name) rest) later

-- of names that are apart each is met once
apart_once : (name : Bytes) (all : List Bytes) → AreApart all → In name all → count_by (bytes_eq name) all ≡ 1
apart_once name [] apart is = absurd is
apart_once name (other ∷ rest) apart (inl same) =
    times_more name other rest
    ∙ ap (λ b. cond b 1 0 + count_by (bytes_eq name) rest) ((bytes_eq-Decides name other).1 same)
    ∙ one_more (count_by (bytes_eq name) rest)
    (counted_none name rest (subst (λ n. IsNone n rest) (sym same) apart.0))
apart_once name (other ∷ rest) apart (inr later) =
    times_more name other rest ∙ by (bytes_eq name other) refl (apart_once name rest apart.1 later)
  where
    by : (b : Bool) → bytes_eq name other ≡ b → count_by (bytes_eq name) rest ≡ 1
        → cond b 1 0 + count_by (bytes_eq name) rest ≡ 1
    by true found its =
        absurd (no_one (count_by (bytes_eq name) rest)
        (counted_none name rest (subst (λ n. IsNone n rest) (sym ((bytes_eq-Decides name other).0 found)) apart.0)) its)
    by false found its = also_one (count_by (bytes_eq name) rest) its

-- names each of which is met at most once are apart
once_apart : (all : List Bytes) → ((name : Bytes) → In name all → count_by (bytes_eq name) all ≡ 1) → AreApart all
once_apart [] once = tt
once_apart (name ∷ rest) once = (
  none_counted name rest
      (less_one (count_by (bytes_eq name) rest) (counted name name rest true 1 (self_is name) (once name (inl refl)))),
  once_apart rest (λ other is. by other (bytes_eq other name) refl is),
)
  where
    by : (other : Bytes) (b : Bool) → bytes_eq other name ≡ b → In other rest → count_by (bytes_eq other) rest ≡ 1
    by other false found is =
        none_more (count_by (bytes_eq other) rest) 1 (counted other name rest false 1 found (once other (inr is)))
    by other true found is =
        absurd (true≢false (sym (any_in other rest is)
        ∙ none_any other rest (less_one (count_by (bytes_eq other) rest)
        (counted other name rest true 1 found (once other (inr is))))))
      where
        none_any : (one : Bytes) (others : List Bytes) → count_by (bytes_eq one) others ≡ 0
            → list_any (bytes_eq one) others ≡ false
        none_any one [] e = refl
        none_any one (x ∷ xs) e = so (bytes_eq one x) refl (none_any one xs)
          where
            so : (b : Bool) → bytes_eq one x ≡ b
                → (count_by (bytes_eq one) xs ≡ 0 → list_any (bytes_eq one) xs ≡ false)
                → b || list_any (bytes_eq one) xs ≡ false
            so true found later = absurd (no_more (count_by (bytes_eq one) xs) (counted one x xs true 0 found e))
            so false found later =
                later (none_more (count_by (bytes_eq one) xs) 0 (counted one x xs false 0 found e))

all_so : (test : Bytes → Bool) (all : List Bytes) → ((name : Bytes) → In name all → test name ≡ true)
    → list_all test all ≡ true
all_so test [] so = refl
all_so test (name ∷ rest) so =
    and_from (test name) (list_all test rest) (so name (inl refl)) (all_so test rest (λ other is. so other (inr is)))

equal_one : (n : ℕ) → n ≡ 1 → (n == 1) ≡ true
equal_one n e = ap (λ k. k == 1) e

-- ---- labels and parameters

-- each parameter is named once
named_once : (ls : List Bytes) (ps : List Typed) → each_is_named_once ls ps ≡ true → (name : Bytes)
    → In name (names_of ps) → count_by (bytes_eq name) ls ≡ 1
named_once ls [] e name is = absurd is
named_once ls (p ∷ ps) e name is =
    by is (and_parts (count_by (bytes_eq p.name) ls == 1) (each_is_named_once ls ps) e)
    (λ more later. named_once ls ps more name later)
  where
    by : (name ≡ p.name) ⊎ In name (names_of ps)
        → ((count_by (bytes_eq p.name) ls == 1) ≡ true) × (each_is_named_once ls ps ≡ true)
        → (each_is_named_once ls ps ≡ true → In name (names_of ps) → count_by (bytes_eq name) ls ≡ 1)
        → count_by (bytes_eq name) ls ≡ 1
    by (inl same) both so =
        subst (λ x. count_by (bytes_eq x) ls ≡ 1) (sym same) (eqb-true (count_by (bytes_eq p.name) ls) 1 both.0)
    by (inr later) both so = so both.1 later

-- what has a type by its name stands there
type_there : (name : Bytes) (ps : List Typed) (t : Meaning) → type_of_name name ps ≡ Some t → In name (names_of ps)
type_there name [] t e = absurd (none-some t e)
type_there name (p ∷ ps) t e = by (bytes_eq p.name name) refl e (type_there name ps t)
  where
    by : (b : Bool) → bytes_eq p.name name ≡ b
        → option_map (λ (x : Typed). x.of) (cond b (Some p) (find (λ x. bytes_eq x.name name) ps)) ≡ Some t
        → (type_of_name name ps ≡ Some t → In name (names_of ps)) → In name (names_of (p ∷ ps))
    by true found e later = inl (sym ((bytes_eq-Decides p.name name).0 found))
    by false found e later = inr (later e)

record FirstLabel (label : Bytes) (ls : List Bytes) (ps : List Typed) (types : List Meaning) : Type 0 where
  t : Meaning
  rest : List Meaning
  is : type_of_name label ps ≡ Some t
  others : labelled_types ls ps ≡ Some rest
  whole : types ≡ t ∷ rest

first_label : (label : Bytes) (ls : List Bytes) (ps : List Typed) (types : List Meaning)
    → labelled_types (label ∷ ls) ps ≡ Some types → FirstLabel label ls ps types
first_label label ls ps types e = by (type_of_name label ps) refl (labelled_types ls ps) refl e
  where
    by : (o : Option Meaning) → type_of_name label ps ≡ o → (p : Option (List Meaning)) → labelled_types ls ps ≡ p
        → option_and_then (λ (t : Meaning). option_map (λ (l : List Meaning). t ∷ l) p) o ≡ Some types
        → FirstLabel label ls ps types
    by None is p its e = absurd (none-some types e)
    by (Some t) is None its e = absurd (none-some types e)
    by (Some t) is (Some rest) its e =
        record { t = t; rest = rest; is = is; others = its; whole = sym (same_Some (t ∷ rest) types e) }

-- each label names a parameter
labels_there : (ls : List Bytes) (ps : List Typed) (types : List Meaning) → labelled_types ls ps ≡ Some types
    → (name : Bytes) → In name ls → In name (names_of ps)
labels_there [] ps types e name is = absurd is
labels_there (label ∷ ls) ps types e name is = by (first_label label ls ps types e) is (labels_there ls ps)
  where
    by : FirstLabel label ls ps types → (name ≡ label) ⊎ In name ls
        → ((more : List Meaning) → labelled_types ls ps ≡ Some more → (x : Bytes) → In x ls → In x (names_of ps))
        → In name (names_of ps)
    by first (inl same) later =
        subst (λ x. In x (names_of ps)) (sym same) (type_there label ps first.t first.is)
    by first (inr more) later = later first.rest first.others name more

module _ (s : Bindings) (z : ℕ) (noted : Bindings) where
  -- the type of an argument is found by its label
  type_under : (ls : List Bytes) (ps : List Typed) (types : List Meaning) → labelled_types ls ps ≡ Some types
      → (name : Bytes) (t : Meaning) → In name ls → type_of_name name ps ≡ Some t
      → IsTypeUnder name ls (map (kind_taken s z noted) types) (kind_taken s z noted t)
  type_under [] ps types e name t is named = absurd is
  type_under (label ∷ ls) ps types e name t is named =
      subst (λ l. IsTypeUnder name (label ∷ ls) (map (kind_taken s z noted) l) (kind_taken s z noted t))
      (sym first.whole)
      (by (bytes_eq name label) refl is (λ more. type_under ls ps first.rest first.others name t more named))
    where
      first : FirstLabel label ls ps types
      first = first_label label ls ps types e

      by : (b : Bool) → bytes_eq name label ≡ b → (name ≡ label) ⊎ In name ls
          → (In name ls → IsTypeUnder name ls (map (kind_taken s z noted) first.rest) (kind_taken s z noted t))
          → IsTypeUnder name (label ∷ ls) (map (kind_taken s z noted) (first.t ∷ first.rest)) (kind_taken s z noted t)
      by true found is later =
          let same : name ≡ label = (bytes_eq-Decides name label).0 found in
          inl (
            same,
            ap (kind_taken s z noted)
                (same_Some t first.t (sym named ∙ ap (λ n. type_of_name n ps) same ∙ first.is)),
          )
      by false found (inl same) later = absurd (true≢false (sym ((bytes_eq-Decides name label).1 same) ∙ found))
      by false found (inr more) later =
          inr (λ same. true≢false (sym ((bytes_eq-Decides name label).1 same) ∙ found), later more)

  types_under : (ls : List Bytes) (kinds : List Meaning) (ps : List Typed)
      → ((i : ℕ) (one : Typed) → slice_get ps i ≡ Some one
      → IsTypeUnder one.name ls kinds (kind_taken s z noted one.of))
      → AreTypesUnder (names_of ps) ls kinds (kinds_taken s z noted ps)
  types_under ls kinds [] each = tt
  types_under ls kinds (p ∷ ps) each = (each 0 p refl, types_under ls kinds ps (λ i one e. each (suc i) one e))

-- parameters stand among their names
parameter_in : (ps : List Typed) (i : ℕ) (one : Typed) → slice_get ps i ≡ Some one → In one.name (names_of ps)
parameter_in [] i one e = absurd (none-some one e)
parameter_in (p ∷ ps) zero one e = inl (ap (λ (x : Typed). x.name) (sym (same_Some p one e)))
parameter_in (p ∷ ps) (suc i) one e = inr (parameter_in ps i one e)

same_labels : (es : NotedArguments) → labels es ≡ labels_of es
same_labels no_arguments = refl
same_labels (arguments label e es) = ap (λ l. label.name ∷ l) (same_labels es)

-- what labels are, where each parameter is named once and each label names one
record Labelled (s : Bindings) (z : ℕ) (noted : Bindings) (ls : List Bytes) (ps : List Typed) (types : List Meaning)
    : Type 0 where
  apart : AreApart ls
  order : IsReordered (names_of ps) ls
  under : AreTypesUnder (names_of ps) ls (map (kind_taken s z noted) types) (kinds_taken s z noted ps)

labelled_so : (s : Bindings) (z : ℕ) (noted : Bindings) (ls : List Bytes) (ps : List Typed) (types : List Meaning)
    → by_labels ls ps ≡ Some types → AreApart (names_of ps) → Labelled s z noted ls ps types
labelled_so s z noted ls ps types e apart = by (each_is_named_once ls ps) refl e
  where
    by : (b : Bool) → each_is_named_once ls ps ≡ b → (if b then labelled_types ls ps else None) ≡ Some types
        → Labelled s z noted ls ps types
    by false is e = absurd (none-some types e)
    by true is e = record {
      apart = labels_apart;
      order = once_reordered ls (names_of ps) labels_apart
          (and_from (list_all (λ name. count_by (bytes_eq name) (names_of ps) == 1) ls)
          (list_all (λ other. list_any (bytes_eq other) ls) (names_of ps))
          (all_so (λ name. count_by (bytes_eq name) (names_of ps) == 1) ls
          (λ name there. equal_one (count_by (bytes_eq name) (names_of ps))
          (apart_once name (names_of ps) apart (labels_there ls ps types e name there))))
          (all_so (λ other. list_any (bytes_eq other) ls) (names_of ps)
          (λ name there. any_in name ls (once_in name ls (named_once ls ps is name there)))));
      under = types_under s z noted ls (map (kind_taken s z noted) types) ps
          (λ i one at. type_under s z noted ls ps types e one.name one.of
          (once_in one.name ls (named_once ls ps is one.name (parameter_in ps i one at)))
          (found_apart ps apart i one at));
    }
      where
        labels_apart : AreApart ls
        labels_apart =
            once_apart ls (λ name there. named_once ls ps is name (labels_there ls ps types e name there))

-- ---- what is handed on

module _ (sc : Scope) (may_hand : Meaning → Type 0) (Stands : Bindings → Type 0) where
  -- running types of what may be handed on, in this scope
  abbrev Handed : List Meaning → Type 0
  Handed kinds = AreHandedAs sc.outside.heads (parameters_in sc) may_hand Stands kinds

  abbrev OneHanded : Meaning → Type 0
  OneHanded kind = IsHandedAs sc.outside.heads (parameters_in sc) may_hand Stands kind

  module _ (knows : ScopeIsKnown sc) (s : Bindings) (z : ℕ) (stands : Stands s) where
    handed_kinds : (es : NotedExpressions) → AllGoodIn sc es → ModesAreKnown sc (shown (items_of es))
        → AreHanded may_hand es → Handed (kinds_of s z es)
    handed_kinds no_expressions good modes handed = tt
    handed_kinds (expressions e es) good modes handed = (
      (s, z, sc.regions, type_of e, stands, type_known sc knows e good.0 modes.0, handed.0, refl),
      handed_kinds es good.1 modes.1 handed.1,
    )

    handed_labelled : (es : NotedArguments) → AllGoodLabelled sc es → ModesAreKnown sc (shown (values_of es))
        → AreHandedLabelled may_hand es → Handed (kinds_labelled s z es)
    handed_labelled no_arguments good modes handed = tt
    handed_labelled (arguments label e es) good modes handed = (
      (s, z, sc.regions, type_of e, stands, type_known sc knows e good.0 modes.0, handed.0, refl),
      handed_labelled es good.1 modes.1 handed.1,
    )

  handed_one : (name : Bytes) (names : List Bytes) (kinds : List Meaning) (t : Meaning) → Handed kinds
      → IsTypeUnder name names kinds t → OneHanded t
  handed_one name [] kinds t handed under = absurd under
  handed_one name (n ∷ names) [] t handed under = absurd under
  handed_one name (n ∷ names) (kind ∷ kinds) t handed (inl its) = subst OneHanded (sym its.1) handed.0
  handed_one name (n ∷ names) (kind ∷ kinds) t handed (inr its) = handed_one name names kinds t handed.1 its.1

  handed_under : (wanted names : List Bytes) (kinds ts : List Meaning) → Handed kinds
      → AreTypesUnder wanted names kinds ts → Handed ts
  handed_under [] names kinds [] handed under = tt
  handed_under [] names kinds (t ∷ ts) handed under = absurd under
  handed_under (name ∷ wanted) names kinds [] handed under = absurd under
  handed_under (name ∷ wanted) names kinds (t ∷ ts) handed under =
      (handed_one name names kinds t handed under.0, handed_under wanted names kinds ts handed under.1)

-- ---- calls

module _ (types : Types) (owner : ClosedType → Option (List ℕ)) {I K : Type 0} (see : View I Note (Unit {0}))
    (known : Callables I K) (active : ℕ → Bool) (s : Bindings) (z : ℕ) (names : ℕ → Meaning) (sc : Scope)
    (scope : meaning.Scope) (given : Given) {E : Type 0} (calls : Calls K E) (key : K) (may_hand : Meaning → Type 0)
    (Stands : Bindings → Type 0) (stands : Stands s)
    (allows : Allows sc.outside.heads (parameters_in sc) may_hand Stands known calls key) where
  abbrev reached : Callables I ((one : E) × (calls.from one ≡ key))
  reached = callees known calls key

  -- what may be called here may be called from this way
  performs_allowed : (act : Act I) (kinds : List Meaning) (t : Meaning) → Handed sc may_hand Stands kinds
      → Performs types owner see known active act kinds t → Performs types owner see reached active act kinds t
  performs_allowed (invokes one) kinds t handed (to, of, takes, gives, tokens) =
      let call = allows to (subst (Handed sc may_hand Stands) (sym takes) handed) in (
        (call.0, call.1),
        ap known.of call.2 ∙ of,
        ap known.parameters call.2 ∙ takes,
        ap known.result call.2 ∙ gives,
        subst (λ (k : K). AreActive active (known.tokens k)) (sym call.2) tokens,
      )
  performs_allowed (makes of tag home) kinds t handed performs = performs
  performs_allowed (ships prim born) kinds t handed performs = performs

  module _ (n : Node Note) (f : Placed Bytes) (c : Unit {0}) where
    call_runs : (es : NotedExpressions)
        (good : GoodCall sc n.note f.name (in_order (count_of es)) (shown (items_of es)))
        → AllGoodIn sc es → Handed sc may_hand Stands (kinds_of s z es)
        → CallIsSeen types owner see known active s z n.note f.name good.called good.ends
        → AreOf types owner see reached names z active scope es (kinds_of s z es)
        → IsOf types owner see reached names z active scope (call n f es c) (running s z n.note.of)
    call_runs es good each handed sight args = (
      sight.one,
      kinds_taken s z good.ends good.called.parameters,
      sight.seen c,
      subst (AreOf types owner see reached names z active scope es) kinds args,
      as_many s z good.ends good.called.parameters ∙ ap length (sym sight.parameters),
      performs_allowed sight.one.act (kinds_taken s z good.ends good.called.parameters) (running s z n.note.of)
          (subst (Handed sc may_hand Stands) kinds handed) sight.performs,
    )
      where
        kinds : kinds_of s z es ≡ kinds_taken s z good.ends good.called.parameters
        kinds =
            let fits = positional_fits sc n.note f.name (in_order (count_of es)) es good each in
            let same : fits.s ≡ good.ends =
            same_Some fits.s good.ends (sym fits.told ∙ ap (λ (m : Note). m.call) good.is_noted) in
            kinds_in_order s z good.ends es good.types
            (subst (λ r. HaveTypes r good.types (items_of es)) same fits.arguments_fit)
            ∙ types_in_order s z good.ends (count_of es) good.called.parameters good.types good.one_each

    named_runs : (es : NotedArguments)
        (good : GoodCall sc n.note f.name (by_labels (labels_of es)) (shown (values_of es)))
        → AllGoodLabelled sc es → Handed sc may_hand Stands (kinds_labelled s z es)
        → CallIsSeen types owner see known active s z n.note f.name good.called good.ends
        → NamedAreOf types owner see reached names z active scope es (kinds_labelled s z es)
        → IsOf types owner see reached names z active scope (named_call n f es c) (running s z n.note.of)
    named_runs es good each handed sight args = (
      sight.one,
      map (kind_taken s z good.ends) good.types,
      kinds_taken s z good.ends good.called.parameters,
      sight.seen c,
      subst (NamedAreOf types owner see reached names z active scope es) kinds args,
      subst AreApart (sym (same_labels es)) labelled.apart,
      subst (λ (l : List Bytes). IsReordered sight.one.parameters l) (sym (same_labels es))
          (subst (λ (l : List Bytes). IsReordered l (labels_of es)) (sym sight.parameters) labelled.order),
      subst (λ (l : List Bytes). AreTypesUnder sight.one.parameters l (map (kind_taken s z good.ends) good.types)
          (kinds_taken s z good.ends good.called.parameters)) (sym (same_labels es))
          (subst (λ (l : List Bytes). AreTypesUnder l (labels_of es) (map (kind_taken s z good.ends) good.types)
          (kinds_taken s z good.ends good.called.parameters)) (sym sight.parameters) labelled.under),
      performs_allowed sight.one.act (kinds_taken s z good.ends good.called.parameters) (running s z n.note.of)
          (handed_under sc may_hand Stands (names_of good.called.parameters) (labels_of es)
          (map (kind_taken s z good.ends) good.types) (kinds_taken s z good.ends good.called.parameters)
          (subst (Handed sc may_hand Stands) kinds handed)
          labelled.under) sight.performs,
    )
      where
        labelled : Labelled s z good.ends (labels_of es) good.called.parameters good.types
        labelled =
            labelled_so s z good.ends (labels_of es) good.called.parameters good.types good.one_each sight.apart

        kinds : kinds_labelled s z es ≡ map (kind_taken s z good.ends) good.types
        kinds =
            let fits = labelled_fits sc n.note f.name (by_labels (labels_of es)) es good each in
            let same : fits.s ≡ good.ends =
            same_Some fits.s good.ends (sym fits.told ∙ ap (λ (m : Note). m.call) good.is_noted) in
            kinds_by_labels s z good.ends es good.types
            (subst (λ r. HaveTypes r good.types (values_of es)) same fits.arguments_fit)

  pub seen_run : ScopeIsKnown sc → CallsAreSeen types owner see known active s z sc
      → CallsRun types owner see reached may_hand names active sc scope s given z
  seen_run knows seen = record {
    in_order = λ n f es c all wanted handed args.
        let its = call_known sc n.note f.name (in_order (count_of es)) (shown (items_of es)) all.0
        (in_order_well sc (parameters all.0.called.generics) (count_of es))
        (knows.outside.takes f.name all.0.called all.0.is_called) wanted (all_last sc knows es all.1) in
        call_runs n f c es all.0 all.1 (handed_kinds sc may_hand Stands knows s z stands es all.1 its.modes handed)
        (seen n.note f.name (in_order (count_of es)) (shown (items_of es)) all.0 wanted its) args;
    by_labels = λ n f es c all wanted handed args.
        let its = call_known sc n.note f.name (by_labels (labels_of es)) (shown (values_of es)) all.0
        (by_labels_well sc (parameters all.0.called.generics) (labels_of es))
        (knows.outside.takes f.name all.0.called all.0.is_called) wanted (labelled_last sc knows es all.1) in
        named_runs n f c es all.0 all.1
        (handed_labelled sc may_hand Stands knows s z stands es all.1 its.modes handed)
        (seen n.note f.name (by_labels (labels_of es)) (shown (values_of es)) all.0 wanted its) args;
  }
