-- The type that a written type means has the depth and the nodes of the written one.
use Rattle.std.proofs.Common.{◌≡◌, ℕ, ◌+◌, ◌&&◌, Bool, true, false, cond, List, [], ◌∷◌, Option, None, Some}
use Rattle.std.proofs.Common.{refl, ap, ◌∙◌, sym, max, arith}
use Rattle.std.specs.Option.{option_map, option_or}
use Rattle.std.specs.List.{list_any}
use Rattle.std.specs.Str.{bytes_eq}
use Rattle.std.proofs.lemmas.Bool.{cond_both, and_parts}
use Rattle.au_base.specs.declared.kinds.IntKind.TheVariants as kinds
use Rattle.au_syntax.specs.declared.declarations.Universe.{Universe}
use Rattle.au_syntax.specs.declared.declarations.Universe.TheVariants as universes
use Rattle.au_syntax.specs.declared.types.Access.{Access}
use Rattle.au_syntax.specs.declared.types.Access.TheVariants as access
use Rattle.au_syntax.specs.Plain.{Bytes}
use Rattle.au_syntax.specs.Sizes.{type_depth, types_depth, type_nodes, types_nodes}
use Rattle.au_syntax.specs.Types.{WrittenType, WrittenTypes, named, reference, no_types, types}
use Rattle.au_types.specs.Tables.{find}
use Rattle.au_types.specs.declared.headings.Head.{Head}
use Rattle.au_types.specs.declared.parameters.Parameter.{Parameter}
use Rattle.au_types.specs.declared.types.DeclAt.{DeclAt}
use Rattle.au_types.specs.declared.types.Region.{Region}
use Rattle.au_types.specs.declared.types.Region.TheVariants as regions
use Rattle.au_types.specs.Rows.{head_of}
use Rattle.au_types.proofs.SameLemmas.{same_is}
use Rattle.au_types.specs.Same.{same, same_region}
use Rattle.au_types.specs.Types as mean
use Rattle.au_types.specs.Types.{Meaning, Argument, Arguments}
use Rattle.au_types.specs.Universes.{universe_in}
use Rattle.au_types.specs.Meant.{Given, applied, argument_meant, arguments_meant, followed, refers, region_of}
use Rattle.au_types.specs.Meant.{region_meant, span_of, span_with, meant, all_given}
use Rattle.au_types.specs.Senses.{Sense, a_type, a_span, a_region, declared, a_class, built_in}
use Rattle.au_types.specs.Senses.{parameter_sense, declared_sense, open_region, outer_sense, sense_of}
use Rattle.au_type_texts.specs.Sizes.{depth_of, nodes_of, argument_depth, arguments_depth, argument_nodes}
use Rattle.au_type_texts.specs.Sizes.{arguments_nodes}

-- ---- a name alone means a type of depth 1 with one node

abbrev IsOne : Option Sense → Type 0
IsOne None = Unit {0}
IsOne (Some (a_type t)) = (depth_of t ≡ 1) × (nodes_of t ≡ 1)
IsOne (Some a_span) = Unit {0}
IsOne (Some (a_region region)) = Unit {0}
IsOne (Some (declared at params)) = Unit {0}
IsOne (Some (a_class at)) = Unit {0}

one_or : (a b : Option Sense) → IsOne a → IsOne b → IsOne (option_or a b)
one_or None b ha hb = hb
one_or (Some s) b ha hb = ha

open_one : (opened : List Bytes) (name : Bytes) → IsOne (open_region opened name)
open_one opened name = cond_both (list_any (bytes_eq name) opened) (Some (a_region (regions.Named name))) None
    IsOne (λ e. tt) (λ e. tt)

parameter_one : (name : Bytes) (o : Option Universe) → IsOne (option_map (parameter_sense name) o)
parameter_one name None = tt
parameter_one name (Some universes.Region) = tt
parameter_one name (Some universes.Free) = (refl, refl)
parameter_one name (Some universes.Linear) = (refl, refl)
parameter_one name (Some universes.AnyType) = (refl, refl)

abbrev AllOne : List (Bytes × Sense) → Type 0
AllOne [] = Unit {0}
AllOne (row ∷ rows) = IsOne (Some row.1) × AllOne rows

found_one : (name : Bytes) (table : List (Bytes × Sense)) → AllOne table → IsOne (find name table)
found_one name [] h = tt
found_one name (row ∷ rows) h = cond_both (bytes_eq name row.0) (Some row.1) (find name rows) IsOne (λ e. h.0)
    (λ e. found_one name rows h.1)

built_in_one : AllOne built_in
built_in_one = (
  (refl, refl),
  (
    (refl, refl),
    (
      (refl, refl),
      (
        (refl, refl),
        (
          (refl, refl),
          (
            (refl, refl),
            ((refl, refl), ((refl, refl), ((refl, refl), ((refl, refl), ((refl, refl), (tt, (tt, tt))))))),
          ),
        ),
      ),
    ),
  ),
)

declared_one : (heads : List (DeclAt × Head)) (o : Option DeclAt) → IsOne (option_map (declared_sense heads) o)
declared_one heads None = tt
declared_one heads (Some at) = by (head_of heads at) refl
  where
    by : (o : Option Head) → head_of heads at ≡ o → IsOne (Some (declared_sense heads at))
    by None e = rw e tt
    by (Some head) e = rw e tt

-- ---- written types

module _ (opened : List Bytes) (params : List Parameter) (visible : List (Bytes × DeclAt))
    (heads : List (DeclAt × Head)) where
  sense_one : (name : Bytes) → IsOne (sense_of opened params visible heads name)
  sense_one name =
      one_or (open_region opened name)
      (option_or (option_map (parameter_sense name) (universe_in params name))
      (outer_sense visible heads name)) (open_one opened name)
      (one_or (option_map (parameter_sense name) (universe_in params name)) (outer_sense visible heads name)
      (parameter_one name (universe_in params name))
      (one_or (find name built_in) (option_map (declared_sense heads) (find name visible))
      (found_one name built_in built_in_one) (declared_one heads (find name visible))))

  -- the type has the depth and the nodes of the written one
  abbrev IsSized : WrittenType → Meaning → Type 0
  IsSized w t = (depth_of t ≡ type_depth w) × (nodes_of t ≡ type_nodes w)

  abbrev AreSized : WrittenTypes → Type 0
  AreSized no_types = Unit {0}
  AreSized (types w rest) = ((t : Meaning) → meant opened params visible heads w ≡ Some t → IsSized w t) × AreSized rest

  -- a region is a name alone
  region_sized : (w : WrittenType) (r : Region) → region_meant opened params visible heads w ≡ Some r →
      (type_depth w ≡ 1) × (type_nodes w ≡ 1)
  region_sized (named name no_types) r e = (refl, refl)
  region_sized (named name (types w rest)) r e = absurd cc
  region_sized (reference at kind target region) r e = absurd cc

  given : WrittenType → Given
  given w = record {
    as_type = meant opened params visible heads w;
    as_region =
        region_meant opened params visible heads w;
  }

  -- one argument
  abbrev IsSizedArgument : WrittenType → Argument → Type 0
  IsSizedArgument w x = (argument_depth x ≡ type_depth w) × (argument_nodes x ≡ type_nodes w)

  type_argument_sized : (w : WrittenType) →
      ((t : Meaning) → meant opened params visible heads w ≡ Some t → IsSized w t) → (x : Argument) →
      option_map mean.of_type (meant opened params visible heads w) ≡ Some x → IsSizedArgument w x
  type_argument_sized w sized x e = by (meant opened params visible heads w) refl e
    where
      by : (o : Option Meaning) → meant opened params visible heads w ≡ o → option_map mean.of_type o
          ≡ Some x → IsSizedArgument w x
      by None is e = absurd cc
      by (Some t) is e =
          let same : mean.of_type t ≡ x = cc in
          (ap argument_depth (sym same) ∙ (sized t is).0, ap argument_nodes (sym same) ∙ (sized t is).1)

  region_argument_sized : (w : WrittenType) (x : Argument) →
      option_map mean.in_region (region_meant opened params visible heads w) ≡ Some x → IsSizedArgument w x
  region_argument_sized w x e = by (region_meant opened params visible heads w) refl e
    where
      by : (o : Option Region) → region_meant opened params visible heads w ≡ o → option_map mean.in_region o
          ≡ Some x → IsSizedArgument w x
      by None is e = absurd cc
      by (Some r) is e =
          let same : mean.in_region r ≡ x = cc in
          let sized = region_sized w r is in
          (ap argument_depth (sym same) ∙ sym sized.0, ap argument_nodes (sym same) ∙ sym sized.1)

  argument_sized : (u : Universe) (w : WrittenType) →
      ((t : Meaning) → meant opened params visible heads w ≡ Some t → IsSized w t) → (x : Argument) →
      argument_meant u (given w) ≡ Some x → IsSizedArgument w x
  unfolding given
  argument_sized universes.Region w sized x e = region_argument_sized w x e
  argument_sized universes.Free w sized x e = type_argument_sized w sized x e
  argument_sized universes.Linear w sized x e = type_argument_sized w sized x e
  argument_sized universes.AnyType w sized x e = type_argument_sized w sized x e

  -- arguments
  abbrev AreSizedArguments : WrittenTypes → Arguments → Type 0
  AreSizedArguments ws xs = (arguments_depth xs ≡ types_depth ws) × (arguments_nodes xs ≡ types_nodes ws)

  arguments_sized : (ps : List Parameter) (ws : WrittenTypes) → AreSized ws → (xs : Arguments) →
      arguments_meant ps (all_given opened params visible heads ws) ≡ Some xs → AreSizedArguments ws xs
  unfolding all_given given
  arguments_sized [] no_types sized xs e = let same : mean.no_arguments ≡ xs = cc
      in (ap arguments_depth (sym same), ap arguments_nodes (sym same))
  arguments_sized [] (types w rest) sized xs e = absurd cc
  arguments_sized (p ∷ ps) no_types sized xs e = absurd cc
  arguments_sized (p ∷ ps) (types w rest) sized xs e = by (argument_meant p.universe (given w)) refl
      (arguments_meant ps (all_given opened params visible heads rest))
      (λ ys. arguments_sized ps rest sized.1 ys) e
    where
      by : (o : Option Argument) → argument_meant p.universe (given w) ≡ o → (os : Option Arguments) →
          ((ys : Arguments) → os ≡ Some ys → AreSizedArguments rest ys) → followed o os ≡ Some xs →
          AreSizedArguments (types w rest) xs
      by None is os others e = absurd cc
      by (Some x) is None others e = absurd cc
      by (Some x) is (Some ys) others e =
          let same : mean.arguments x ys ≡ xs = cc in
          let first = argument_sized p.universe w sized.0 x is in
          let rest = others ys refl in (
            ap arguments_depth (sym same) ∙ ap (λ d. max d (arguments_depth ys)) first.0
                ∙ ap (max (type_depth w)) rest.0,
            ap arguments_nodes (sym same) ∙ ap (λ n. n + arguments_nodes ys) first.1
                ∙ ap (λ n. type_nodes w + n) rest.1,
          )

  -- what a name with arguments adds to them
  abbrev IsSizedOver : WrittenTypes → Meaning → Type 0
  IsSizedOver ws t = (depth_of t ≡ 1 + types_depth ws) × (nodes_of t ≡ 1 + types_nodes ws)

  -- `Span` is counted with its arguments
  span_of_sized : (w v : WrittenType) (n : Meaning) (r : Region) → IsSized w n → (type_depth v ≡ 1)
      × (type_nodes v ≡ 1) → (t : Meaning) → span_of (Some n) (Some r) ≡ Some t →
      IsSizedOver (types w (types v no_types)) t
  span_of_sized w v n r hw hv t e = by (same n (mean.integer kinds.Nat8) && same_region r regions.Static) refl e
    where
      by : (b : Bool) → (same n (mean.integer kinds.Nat8) && same_region r regions.Static) ≡ b →
          cond b (Some mean.text) None ≡ Some t → IsSizedOver (types w (types v no_types)) t
      by false is e = absurd cc
      by true is e =
          let texts : mean.text ≡ t = cc in
          let byte : n ≡ mean.integer kinds.Nat8 = same_is n (mean.integer kinds.Nat8)
          (and_parts (same n (mean.integer kinds.Nat8)) (same_region r regions.Static) is).0 in
          let depth : type_depth w ≡ 1 = sym hw.0 ∙ ap depth_of byte in
          let nodes : type_nodes w ≡ 1 = sym hw.1 ∙ ap nodes_of byte in
          let two : 2 ≡ 1 + max (type_depth w) (max (type_depth v) 0) = omega (arith, depth, hv.0) in
          let three : 3 ≡ 1 + (type_nodes w + (type_nodes v + 0)) = omega (arith, nodes, hv.1) in
          (ap depth_of (sym texts) ∙ two, ap nodes_of (sym texts) ∙ three)

  span_sized : (ws : WrittenTypes) → AreSized ws → (t : Meaning) →
      span_with (all_given opened params visible heads ws) ≡ Some t → IsSizedOver ws t
  unfolding all_given
  span_sized no_types sized t e = absurd cc
  span_sized (types w no_types) sized t e = absurd cc
  span_sized (types w (types v (types u rest))) sized t e = absurd cc
  span_sized (types w (types v no_types)) sized t e = by (meant opened params visible heads w) refl
      (region_meant opened params visible heads v) refl e
    where
      by : (o : Option Meaning) → meant opened params visible heads w ≡ o → (p : Option Region) →
          region_meant opened params visible heads v ≡ p → span_of o p ≡ Some t →
          IsSizedOver (types w (types v no_types)) t
      by None ho p hp e = absurd cc
      by (Some n) ho None hp e = absurd cc
      by (Some n) ho (Some r) hp e = span_of_sized w v n r (sized.0 n ho) (region_sized v r hp) t e

  declared_sized : (at : DeclAt) (ps : List Parameter) (ws : WrittenTypes) → AreSized ws → (t : Meaning) →
      option_map (mean.named at) (arguments_meant ps (all_given opened params visible heads ws)) ≡ Some t →
      IsSizedOver ws t
  declared_sized at ps ws sized t e = by (arguments_meant ps (all_given opened params visible heads ws)) refl e
    where
      by : (o : Option Arguments) → arguments_meant ps (all_given opened params visible heads ws) ≡ o →
          option_map (mean.named at) o ≡ Some t → IsSizedOver ws t
      by None is e = absurd cc
      by (Some xs) is e =
          let same : mean.named at xs ≡ t = cc in
          let args = arguments_sized ps ws sized xs is in
          (ap depth_of (sym same) ∙ ap (λ d. 1 + d) args.0, ap nodes_of (sym same) ∙ ap (λ n. 1 + n) args.1)

  named_sized : (o : Option Sense) → IsOne o → (ws : WrittenTypes) → AreSized ws → (t : Meaning) →
      applied o (all_given opened params visible heads ws) ≡ Some t → IsSizedOver ws t
  unfolding all_given
  named_sized None one ws sized t e = absurd cc
  named_sized (Some (a_type u)) one no_types sized t e = let same : u ≡ t = cc
      in (ap depth_of (sym same) ∙ one.0, ap nodes_of (sym same) ∙ one.1)
  named_sized (Some (a_type u)) one (types w rest) sized t e = absurd cc
  named_sized (Some a_span) one ws sized t e = span_sized ws sized t e
  named_sized (Some (a_region region)) one ws sized t e = absurd cc
  named_sized (Some (declared at ps)) one ws sized t e = declared_sized at ps ws sized t e
  named_sized (Some (a_class at)) one ws sized t e = absurd cc

  -- a reference
  reference_sized : (kind : Access) (o : Option Meaning) (p : Option Region) (d n : ℕ) →
      ((m : Meaning) → o ≡ Some m → (depth_of m ≡ d) × (nodes_of m ≡ n))
      → (t : Meaning) → refers kind o p ≡ Some t → (depth_of t ≡ 1 + d) × (nodes_of t ≡ 2 + n)
  reference_sized access.Read None p d n sized t e = absurd cc
  reference_sized access.Write None p d n sized t e = absurd cc
  reference_sized access.Read (Some m) None d n sized t e = absurd cc
  reference_sized access.Write (Some m) None d n sized t e = absurd cc
  reference_sized access.Read (Some m) (Some r) d n sized t e =
      let same : mean.reads m r ≡ t = cc in
      let target = sized m refl in
      (ap depth_of (sym same) ∙ ap (λ k. 1 + k) target.0, ap nodes_of (sym same) ∙ ap (λ k. 2 + k) target.1)
  reference_sized access.Write (Some m) (Some r) d n sized t e =
      let same : mean.writes m r ≡ t = cc in
      let target = sized m refl in
      (ap depth_of (sym same) ∙ ap (λ k. 1 + k) target.0, ap nodes_of (sym same) ∙ ap (λ k. 2 + k) target.1)

  mutual
    unfolding meant

    pub type_sized : (w : WrittenType) (t : Meaning) → meant opened params visible heads w ≡ Some t → IsSized w t
    type_sized (named name args) t e = named_sized (sense_of opened params visible heads name.name)
        (sense_one name.name) args (types_sized args) t e
    type_sized (reference at kind target region) t e =
        reference_sized kind (meant opened params visible heads target)
        (region_of (sense_of opened params visible heads region.name)) (type_depth target)
        (type_nodes target) (λ m same. type_sized target m same) t e

    types_sized : (ws : WrittenTypes) → AreSized ws
    types_sized no_types = tt
    types_sized (types w rest) = ((λ m same. type_sized w m same), types_sized rest)
