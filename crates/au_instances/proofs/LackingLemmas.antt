-- What is lacking first, as the code looks for it.
use Rattle.std.proofs.Common.{◌≡◌, ℕ, ◌+◌, ◌<◌, ◌≤◌, Bool, true, false, cond, List, [], ◌∷◌, ◌++◌, length}
use Rattle.std.proofs.Common.{drop, get_or, Option, None, Some, refl, sym, ap, subst, ◌∙◌, Vec}
use Rattle.std.specs.Global.{Global}
use Rattle.au_base.proofs.ListLemmas.{drop_at}
use Rattle.au_types.specs.declared.headings.Head.{Head}
use Rattle.au_types.specs.declared.types.Arg.{Arg}
use Rattle.au_types.proofs.TypeLemmas.{named_means}
use Rattle.au_matching.specs.Forming.{StandsOver, all_formed, fits_in_kind}
use Rattle.std.specs.Prelude.{slice_get, is_none, if◌then◌else◌, unwrap_or}
use Rattle.std.specs.List.{flat_map}
use Rattle.std.specs.Option.{option_map, option_or}
use Rattle.std.proofs.lemmas.Grind.{flat_map-append}
use Rattle.std.proofs.lemmas.List.{drop_all}
use Rattle.std.proofs.lemmas.List.Folds.{find-append}
use Rattle.std.proofs.lemmas.Option.{slice_get-map, same_Some}
use Rattle.au_syntax.specs.Plain.{Bytes}
use Rattle.au_types.specs.declared.parameters.Parameter.{Parameter}
use Rattle.au_types.specs.declared.types.DeclAt.{DeclAt}
use Rattle.au_types.specs.declared.types.Ty.{Ty, Unit, Bool as Bool', Int, Text, Param, Named as Named-of}
use Rattle.au_types.specs.declared.types.Ty.{Named', Read', Write'}
use Rattle.au_types.specs.Types.{Arguments, no_arguments, arguments}
use Rattle.au_types.specs.Views.{argument, argument_all, meaning}
use Rattle.au_judged_types.specs.Bounds.{Bounded, classes_of, parameters}
use Rattle.au_instances.specs.declared.lacking.Sight.{Sight}
use Rattle.au_instances.specs.Forms.{arguments_of, is_called, name_of}
use Rattle.au_instances.specs.Instances.{Known}
use Rattle.au_instances.specs.Pairs.{Pair, below, constraints_of, is_lacking, named_with, part_for, part_of}
use Rattle.au_instances.specs.Tables.{row_for}
use Rattle.au_types.specs.declared.types.Arg.TheBlock.{backs-Ty, shown-the_row-Arg-0}
use Rattle.au_instances.specs.Views.{first_in, lacking_among, lacking_at, lacking_in, lacking_of, parts_in}
use Rattle.au_instances.proofs.PairLemmas.{nothing_below, pairs_are}
use Rattle.au_instances.proofs.StandingLemmas.{arguments_stand}
use Rattle.au_instances.proofs.WalkLemmas.{item_left}

module _ (sight : Sight) where
  -- one list of pairs before another
  pub first_both : (xs ys : List Pair) → first_in sight (xs ++ ys) ≡ option_or (first_in sight xs) (first_in sight ys)
  first_both xs ys = find-append _ xs ys

  module _ (names args : Arguments) where
    -- what a constraint leads to
    abbrev pub led : Bytes × DeclAt → List Pair
    led one = part_for one.0 names (parts_in sight args) one.1

    abbrev pub led_all : Known → Option Pair
    led_all constraints = first_in sight (flat_map led constraints)

    -- the first of the classes that are left
    pub class_left : (name : Bytes) (classes : List DeclAt) (i : ℕ) (class : DeclAt) → i < length classes →
        class ≡ get_or classes i class
        → led_all (named_with name (drop i classes)) ≡ option_or (lacking_at sight name class names args)
        (led_all (named_with name (drop (i + 1) classes)))
    class_left name classes i class inside is =
        ap (λ cs. led_all (named_with name cs)) (item_left classes classes i class refl inside is)
        ∙ first_both (led (name, class)) (flat_map led (named_with name (drop (i + 1) classes)))

    pub no_class_left : (name : Bytes) (classes : List DeclAt) (i : ℕ) → length classes ≤ i →
        led_all (named_with name (drop i classes)) ≡ None
    no_class_left name classes i past = ap (λ cs. led_all (named_with name cs)) (drop_all i classes past)

    module _ (all : List Bounded) where
      -- the constraints of a type parameter
      abbrev pub constraints_by : Bounded → Known
      constraints_by one = named_with one.parameter.name (unwrap_or (classes_of all one.parameter.name) [])

      -- the first of the type parameters that are left
      pub parameter_left : (some : List Bounded) (i : ℕ) (p : Parameter) → slice_get (parameters some) i ≡ Some p
          → led_all (flat_map constraints_by (drop i some))
          ≡ option_or (led_all (named_with p.name (unwrap_or (classes_of all p.name) [])))
          (led_all (flat_map constraints_by (drop (i + 1) some)))
      parameter_left some i p here =
          by (slice_get some i) refl (sym (slice_get-map (λ (g : Bounded). g.parameter) some i) ∙ here)
        where
          by : (o : Option Bounded) → slice_get some i ≡ o → option_map (λ (g : Bounded). g.parameter) o ≡ Some p
              → led_all (flat_map constraints_by (drop i some))
              ≡ option_or (led_all (named_with p.name (unwrap_or (classes_of all p.name) [])))
              (led_all (flat_map constraints_by (drop (i + 1) some)))
          by None at e = absurd cc
          by (Some g) at e =
              let is : g.parameter ≡ p = same_Some g.parameter p e in
              ap (λ gs. led_all (flat_map constraints_by gs)) (drop_at some i g at)
              ∙ ap (first_in sight) (flat_map-append led (constraints_by g)
              (flat_map constraints_by (drop (i + 1) some)))
              ∙ first_both (flat_map led (constraints_by g))
              (flat_map led (flat_map constraints_by (drop (i + 1) some)))
              ∙ ap (λ q. option_or (led_all (named_with q.name (unwrap_or (classes_of all q.name) [])))
              (led_all (flat_map constraints_by (drop (i + 1) some)))) is

      pub no_parameter_left : (some : List Bounded) (i : ℕ) → length some ≤ i →
          led_all (flat_map constraints_by (drop i some)) ≡ None
      no_parameter_left some i past = ap (λ gs. led_all (flat_map constraints_by gs)) (drop_all i some past)

  -- ---- the argument in the place of a name

  abbrev pub at_left : Bytes → DeclAt → List Arg → List Arg → Option Pair
  at_left name class names args = lacking_at sight name class (argument_all names) (argument_all args)

  pub place_left : (name : Bytes) (class : DeclAt) (names args items : List Arg) (i : ℕ) (known : Arg)
      (item : Arg) → i < length names → known ≡ get_or names i known → items ≡ args → i < length items →
      item ≡ get_or items i item
      → at_left name class (drop i names) (drop i args)
      ≡ (if is_called name (name_of (argument known)) then lacking_of sight class (argument item) else
      at_left name class (drop (i + 1) names) (drop (i + 1) args))
  place_left name class names args items i known item within is same inside here =
      ap (λ ns. at_left name class ns (drop i args)) (item_left names names i known refl within is)
      ∙ ap (at_left name class (known ∷ drop (i + 1) names)) (item_left args items i item same inside here)
      ∙ by (is_called name (name_of (argument known)))
    where
      by : (b : Bool) → first_in sight
          (if b then part_of sight.instances.now sight.heads.now sight.scope.now (argument item) class else
          part_for name (argument_all (drop (i + 1) names)) (parts_in sight (argument_all (drop (i + 1) args)))
          class)
          ≡ (if b then lacking_of sight class (argument item) else at_left name class (drop (i + 1) names)
          (drop (i + 1) args))
      by true = refl
      by false = refl

  no_names : (name : Bytes) (class : DeclAt) (args : List Arg) → at_left name class [] args ≡ None
  no_names name class args = refl

  pub names_past : (name : Bytes) (class : DeclAt) (names args : List Arg) (i : ℕ) → length names ≤ i →
      at_left name class (drop i names) args ≡ None
  names_past name class names args i past = ap (λ ns. at_left name class ns args) (drop_all i names past)

  pub args_past : (name : Bytes) (class : DeclAt) (names args items : List Arg) (i : ℕ) → items ≡ args →
      length items ≤ i → at_left name class (drop i names) (drop i args) ≡ None
  args_past name class names args items i same past =
      ap (at_left name class (drop i names)) (drop_all i args (subst (λ xs. length xs ≤ i) same past))
      ∙ by (argument_all (drop i names))
    where
      by : (ns : Arguments) → first_in sight (part_for name ns [] class) ≡ None
      by no_arguments = refl
      by (arguments one rest) = refl

  -- ---- a class at a type

  lacks : (class : DeclAt) (of : Ty) → ((x : List ℕ) → of ≡ Param x → ⊥) →
      None ≡ row_for sight.heads.now sight.scope.now sight.instances.now class (meaning of) →
      is_lacking sight.instances.now sight.heads.now sight.scope.now sight.known.now class (meaning of) ≡ true
  unfolding meaning
  lacks class Unit other none = sym (ap is_none none)
  lacks class Bool' other none = sym (ap is_none none)
  lacks class (Int kind) other none = sym (ap is_none none)
  lacks class Text other none = sym (ap is_none none)
  lacks class (Param name) other none = absurd (other name refl)
  lacks class (Named' at shape args) other none = sym (ap is_none none)
  lacks class (Read' p to region) other none = refl
  lacks class (Write' p to region) other none = refl

  pub none_there : (class : DeclAt) (of : Ty) → ((x : List ℕ) → of ≡ Param x → ⊥) →
      None ≡ row_for sight.heads.now sight.scope.now sight.instances.now class (meaning of) →
      Some (class, meaning of) ≡ lacking_in sight class (meaning of)
  none_there class of other none =
      let t = meaning of in
      let rows = sight.instances.now in
      let heads = sight.heads.now in
      let scope = sight.scope.now in
      let known = sight.known.now in
      sym (ap (first_in sight) (pairs_are rows heads scope known t class)
      ∙ ap (λ b. cond b (Some (class, t))
      (first_in sight (below (row_for heads scope rows class t) (parts_in sight (arguments_of t)))))
      (lacks class of other none))

-- ---- parts of types stand as the types do

module _ (heads : List (DeclAt × Head)) (scope : List Parameter) where
  pub arguments_of_stand : (of : Ty) (at : DeclAt) (args : Vec Arg Global) → of ≡ Named-of at args →
      StandsOver heads scope (meaning of) → all_formed fits_in_kind heads scope (argument_all args.items) ≡ true
  arguments_of_stand of at args is h = arguments_stand heads scope at (argument_all args.items)
      (subst (StandsOver heads scope) (ap meaning is ∙ named_means at args) h)

-- a type that isn't a declared one has no arguments, so nothing is lacking below it
pub no_arguments_of : (of : Ty) → ((x : DeclAt) (xs : Vec Arg Global) → of ≡ Named-of x xs → ⊥) →
    arguments_of (meaning of) ≡ no_arguments
unfolding meaning
no_arguments_of (Named' x shape row) differs =
    absurd (differs x (shown-the_row-Arg-0 shape row) (sym (backs-Ty (Named' x shape row))))
no_arguments_of of differs = refl

pub nothing_known : (sight : Sight) (names : Arguments) (generics : List Bounded) →
    lacking_among sight generics names no_arguments ≡ None
nothing_known sight names generics = ap (first_in sight) (nothing_below names (constraints_of generics))
