-- A declaration is refused for nothing exactly where it is well made.
use Rattle.std.proofs.Common.{◌≡◌, ◌≢◌, inl, inr, Bool, true, false, not, List, [], ◌∷◌, ◌++◌, map, Option}
use Rattle.std.proofs.Common.{None, Some, refl, sym, ap, ◌∙◌, subst, Contains, true≢false}
use Rattle.std.specs.List.{flat_map}
use Rattle.std.specs.Option.{option_map, option_or}
use Rattle.std.proofs.lemmas.Bool.{not-true, not-false, both_ways}
use Rattle.std.proofs.lemmas.Option.{none-some, same_Some}
use Rattle.au_base.specs.declared.places.Pos.{Pos}
use Rattle.au_base.proofs.OptionLemmas.{map_none, none_map, or_first, or_second, or_neither}
use Rattle.au_syntax.specs.declared.declarations.Universe.{Universe}
use Rattle.au_syntax.specs.declared.declarations.Universe.TheVariants as universes
use Rattle.au_syntax.specs.Modules.{Variant, constant, opaque_type, record_type, union_type, function, class}
use Rattle.au_syntax.specs.Modules.{instance, constant_body, function_body, instance_body}
use Rattle.au_syntax.specs.Names.{Placed}
use Rattle.au_syntax.specs.Plain.{Bytes, PlainDeclaration}
use Rattle.au_syntax.specs.Types.{Labelled, WrittenType}
use Rattle.au_types.specs.declared.headings.Head.{Head}
use Rattle.au_types.specs.declared.parameters.Parameter.{Parameter}
use Rattle.au_types.specs.declared.types.DeclAt.{DeclAt}
use Rattle.au_types.specs.Types.{Meaning}
use Rattle.au_judged_types.specs.Judging.{judged}
use Rattle.au_judged_types.specs.Reasons.{Outcome, means, fails}
use Rattle.au_judged_types.proofs.AgreementLemmas.{judged_is_meant, meant_is_judged}
use Rattle.au_promises.specs.Mentions.{type_parameters}
use Rattle.au_matching.specs.declared.universes.TypeUniverse.{TypeUniverse}
use Rattle.au_matching.specs.declared.universes.TypeUniverse.TheVariants.{Free, Linear, AnyUniverse}
use Rattle.au_matching.specs.Forming.{wants_region}
use Rattle.au_matching.specs.Universes.{is_free, is_linear, universe_of}
use Rattle.au_types.specs.Meant.{meant}
use Rattle.au_types.specs.Senses.{Sense, a_type as type_sense, a_span, a_region, declared}
use Rattle.au_types.specs.Senses.{a_class as class_sense, sense_of}
use Rattle.au_imports.specs.Choices.{first_of, where_so}
use Rattle.au_names.proofs.AmongLemmas.{Among, among, among-flat_map_from, contains}
use Rattle.au_imports.proofs.ChoiceLemmas.{first_from, first_to, so_from, so_to}
use Rattle.au_formed.specs.declared.faults.FormFault.{FormFault}
use Rattle.au_formed.specs.declared.faults.FormFault.TheVariants.{Malformed, EmptyUnion, UniverseBelow}
use Rattle.au_formed.specs.Fields.{above_place, case_above, empty_union, field_above, first_above, holds}
use Rattle.au_formed.specs.Fields.{is_above, without_case}
use Rattle.au_formed.specs.Forms.{form_fault}
use Rattle.au_formed.specs.Good.{FieldFits, FieldsFit, HasCase, Holds, IsFormed, IsGoodWriting, IsWellMade}
use Rattle.au_formed.specs.Malformed.{ill_place, is_class, is_failure, is_ill, malformed}
use Rattle.au_formed.specs.Writings.{Writing, a_type, a_class, a_universe, case_writings, field_writings}
use Rattle.au_formed.specs.Writings.{place_of, writings}

-- ---- universes

not_region : (u : Universe) → wants_region u ≡ false → u ≢ universes.Region
not_region u h is = true≢false (sym (ap wants_region is) ∙ h)

no_region : (u : Universe) → u ≢ universes.Region → wants_region u ≡ false
no_region universes.Free h = refl
no_region universes.Linear h = refl
no_region universes.AnyType h = refl
no_region universes.Region h = absurd (h refl)

holds_from : (u : Universe) (field : TypeUniverse) → holds u field ≡ true → Holds u field
holds_from universes.Free Free h = refl
holds_from universes.Free Linear h = absurd cc
holds_from universes.Free AnyUniverse h = absurd cc
holds_from universes.AnyType field h = λ is. true≢false (sym (ap is_linear is) ∙ not-true (is_linear field) h)
holds_from universes.Linear field h = tt
holds_from universes.Region field h = tt

holds_to : (u : Universe) (field : TypeUniverse) → Holds u field → holds u field ≡ true
holds_to universes.Free field h = ap is_free h
holds_to universes.AnyType Free h = refl
holds_to universes.AnyType Linear h = absurd (h refl)
holds_to universes.AnyType AnyUniverse h = refl
holds_to universes.Linear field h = refl
holds_to universes.Region field h = refl

-- ---- classes

class_from : (o : Option Sense) → not (is_class o) ≡ false → (at : DeclAt) × (o ≡ Some (class_sense at))
class_from None h = absurd cc
class_from (Some (type_sense t)) h = absurd cc
class_from (Some a_span) h = absurd cc
class_from (Some (a_region r)) h = absurd cc
class_from (Some (declared at expected)) h = absurd cc
class_from (Some (class_sense at)) h = (at, refl)

class_to : (o : Option Sense) (at : DeclAt) → o ≡ Some (class_sense at) → not (is_class o) ≡ false
class_to o at h = ap (λ s. not (is_class s)) h

module _ (visible : List (Bytes × DeclAt)) (heads : List (DeclAt × Head)) (params : List Parameter) where
  abbrev judge : WrittenType → Outcome Meaning
  judge t = judged [] params visible heads t

  abbrev sense : Bytes → Option Sense
  sense name = sense_of [] params visible heads name

  -- ---- what is written

  formed_from : (t : WrittenType) → is_failure (judge t) ≡ false → IsFormed visible heads params t
  formed_from t h = by (judge t) refl
    where
      by : (o : Outcome Meaning) → judge t ≡ o → IsFormed visible heads params t
      by (means m) e = let both = judged_is_meant heads params [] visible t m e in (m, both.0, both.1)
      by (fails why) e = absurd (true≢false (sym (ap is_failure e) ∙ h))

  formed_to : (t : WrittenType) → IsFormed visible heads params t → is_failure (judge t) ≡ false
  formed_to t h = ap is_failure (meant_is_judged heads params [] visible t h.0 h.1 h.2)

  good_from : (w : Writing) → is_ill judge sense w ≡ false → IsGoodWriting visible heads params w
  good_from (a_type t) h = formed_from t h
  good_from (a_class name) h = class_from (sense name.name) h
  good_from (a_universe at u) h = not_region u h

  good_to : (w : Writing) → IsGoodWriting visible heads params w → is_ill judge sense w ≡ false
  good_to (a_type t) h = formed_to t h
  good_to (a_class name) h = class_to (sense name.name) h.0 h.1
  good_to (a_universe at u) h = no_region u h

  written_from : (ws : List Writing) → malformed judge sense ws ≡ None → (w : Writing) → Among w ws
      → IsGoodWriting visible heads params w
  written_from ws h w m = good_from w
      (so_from (is_ill judge sense w) (place_of w) (first_from (ill_place judge sense) ws h w m))

  written_to : (ws : List Writing) → ((w : Writing) → Among w ws → IsGoodWriting visible heads params w)
      → malformed judge sense ws ≡ None
  written_to ws h = first_to (ill_place judge sense) ws
      (λ w m. so_to (is_ill judge sense w) (place_of w) (good_to w (h w m)))

  -- ---- fields

  abbrev universe : Meaning → TypeUniverse
  universe m = universe_of heads params m

  fits_from : (u : Universe) (field : Labelled Bytes) → IsFormed visible heads params field.of
      → above_place judge universe u field ≡ None → FieldFits visible heads params u field
  fits_from u field formed h m is =
      let same : formed.0 ≡ m = same_Some formed.0 m (sym formed.1 ∙ is) in
      let below : is_above judge universe u (judge field.of)
      ≡ false = so_from (is_above judge universe u (judge field.of)) field.name.at h in
      let known : judge field.of
      ≡ means formed.0 = meant_is_judged heads params [] visible field.of formed.0 formed.1 formed.2 in
      let held : not (holds u (universe formed.0)) ≡ false = sym (ap (is_above judge universe u) known)
      ∙ below in
      subst (λ n. Holds u (universe n)) same
      (holds_from u (universe formed.0) (not-false (holds u (universe formed.0)) held))

  fits_to : (u : Universe) (field : Labelled Bytes) → IsFormed visible heads params field.of
      → FieldFits visible heads params u field → above_place judge universe u field ≡ None
  fits_to u field formed h =
      so_to (is_above judge universe u (judge field.of)) field.name.at
      (ap (is_above judge universe u)
      (meant_is_judged heads params [] visible field.of formed.0 formed.1 formed.2)
      ∙ ap not (holds_to u (universe formed.0) (h formed.0 formed.1)))

  first_above_from : (u : Universe) (fields : List (Labelled Bytes))
      → ((f : Labelled Bytes) → Among f fields → IsFormed visible heads params f.of)
      → first_above judge universe u fields ≡ None → (f : Labelled Bytes) → Among f fields
      → FieldFits visible heads params u f
  first_above_from u fields formed h f m = fits_from u f (formed f m)
      (first_from (above_place judge universe u) fields h f m)

  first_above_to : (u : Universe) (fields : List (Labelled Bytes))
      → ((f : Labelled Bytes) → Among f fields → IsFormed visible heads params f.of)
      → ((f : Labelled Bytes) → Among f fields → FieldFits visible heads params u f)
      → first_above judge universe u fields ≡ None
  first_above_to u fields formed h = first_to (above_place judge universe u) fields
      (λ f m. fits_to u f (formed f m) (h f m))

  -- a field's type is written
  written_field : (fields : List (Labelled Bytes)) (f : Labelled Bytes) → Among f fields
      → Among (a_type f.of) (field_writings fields)
  written_field [] f m = absurd m
  written_field (x ∷ xs) f (inl here) = inl (ap (λ (g : Labelled Bytes). a_type g.of) here)
  written_field (x ∷ xs) f (inr later) = inr (written_field xs f later)

  abbrev AllGood : PlainDeclaration → Type 0
  AllGood d = (w : Writing) → Among w (writings d) → IsGoodWriting visible heads params w

  record_formed : (at : Pos) (name : Placed Bytes) (ps : _) (u : Universe) (fields : List (Labelled Bytes))
      → AllGood (record_type at name ps u fields)
      → (f : Labelled Bytes) → Among f fields → IsFormed visible heads params f.of
  record_formed at name ps u fields good f m = good (a_type f.of) (inr (written_field fields f m))

  case_formed : (at : Pos) (name : Placed Bytes) (ps : _) (u : Universe) (cases : List (Variant Bytes))
      → AllGood (union_type at name ps u cases)
      → (c : Variant Bytes) → Among c cases → (f : Labelled Bytes) → Among f c.fields
      → IsFormed visible heads params f.of
  case_formed at name ps u cases good c m f n =
      good (a_type f.of) (inr
      (among-flat_map_from case_writings cases c (a_type f.of) m (written_field c.fields f n)))

  fields_from : (d : PlainDeclaration) → AllGood d → field_above judge universe d ≡ None
      → FieldsFit visible heads params d
  fields_from (record_type at name ps u fields) good h = λ f m.
      first_above_from u fields (record_formed at name ps u fields good) h f (among fields f m)
  fields_from (union_type at name ps u cases) good h = λ c m f n.
      first_above_from u c.fields (case_formed at name ps u cases good c (among cases c m))
      (first_from (case_above judge universe u) cases h c (among cases c m)) f (among c.fields f n)
  fields_from (constant at name t) good h = tt
  fields_from (opaque_type at name ps u) good h = tt
  fields_from (function at gs header) good h = tt
  fields_from (class at name p methods) good h = tt
  fields_from (instance at gs name t) good h = tt
  fields_from (constant_body at name t e) good h = tt
  fields_from (function_body at gs header body stop) good h = tt
  fields_from (instance_body at gs name t methods) good h = tt

  fields_to : (d : PlainDeclaration) → AllGood d → FieldsFit visible heads params d
      → field_above judge universe d ≡ None
  fields_to (record_type at name ps u fields) good h =
      first_above_to u fields (record_formed at name ps u fields good) (λ f m. h f (contains fields f m))
  fields_to (union_type at name ps u cases) good h =
      first_to (case_above judge universe u) cases
      (λ c m. first_above_to u c.fields (case_formed at name ps u cases good c m)
      (λ f n. h c (contains cases c m) f (contains c.fields f n)))
  fields_to (constant at name t) good h = refl
  fields_to (opaque_type at name ps u) good h = refl
  fields_to (function at gs header) good h = refl
  fields_to (class at name p methods) good h = refl
  fields_to (instance at gs name t) good h = refl
  fields_to (constant_body at name t e) good h = refl
  fields_to (function_body at gs header body stop) good h = refl
  fields_to (instance_body at gs name t methods) good h = refl

-- ---- cases

some_case : (at : Pos) (cases : List (Variant Bytes)) → without_case at cases ≡ None → cases ≢ []
some_case at [] h = absurd cc
some_case at (c ∷ cs) h = λ is. absurd cc

no_empty : (at : Pos) (cases : List (Variant Bytes)) → cases ≢ [] → without_case at cases ≡ None
no_empty at [] h = absurd (h refl)
no_empty at (c ∷ cs) h = refl

case_from : (d : PlainDeclaration) → empty_union d ≡ None → HasCase d
case_from (union_type at name ps u cases) h = some_case at cases h
case_from (record_type at name ps u fields) h = tt
case_from (constant at name t) h = tt
case_from (opaque_type at name ps u) h = tt
case_from (function at gs header) h = tt
case_from (class at name p methods) h = tt
case_from (instance at gs name t) h = tt
case_from (constant_body at name t e) h = tt
case_from (function_body at gs header body stop) h = tt
case_from (instance_body at gs name t methods) h = tt

case_to : (d : PlainDeclaration) → HasCase d → empty_union d ≡ None
case_to (union_type at name ps u cases) h = no_empty at cases h
case_to (record_type at name ps u fields) h = refl
case_to (constant at name t) h = refl
case_to (opaque_type at name ps u) h = refl
case_to (function at gs header) h = refl
case_to (class at name p methods) h = refl
case_to (instance at gs name t) h = refl
case_to (constant_body at name t e) h = refl
case_to (function_body at gs header body stop) h = refl
case_to (instance_body at gs name t methods) h = refl

-- ---- all

module _ (visible : List (Bytes × DeclAt)) (heads : List (DeclAt × Head)) (d : PlainDeclaration) where
  abbrev params : List Parameter
  params = type_parameters d

  abbrev ill : Option Pos
  ill = malformed (judged [] params visible heads) (sense_of [] params visible heads) (writings d)

  abbrev above : Option Pos
  above = field_above (judged [] params visible heads) (universe_of heads params) d

  pub well_made_from : form_fault visible heads d ≡ None → IsWellMade visible heads d
  well_made_from h =
      let first = option_map Malformed ill in
      let second = option_map EmptyUnion (empty_union d) in
      let third = option_map UniverseBelow above in
      let later = or_second first (option_or second third) h in
      let written : AllGood visible heads params d = written_from visible heads params (writings d)
      (map_none Malformed ill (or_first first (option_or second third) h)) in
      record {
        written = λ w m. written w (among (writings d) w m);
        cases = case_from d (map_none EmptyUnion (empty_union d) (or_first second third later));
        fields = fields_from visible heads params d written
            (map_none UniverseBelow above (or_second second third later));
      }

  pub well_made_to : IsWellMade visible heads d → form_fault visible heads d ≡ None
  well_made_to good =
      let first = option_map Malformed ill in
      let second = option_map EmptyUnion (empty_union d) in
      let third = option_map UniverseBelow above in
      let written : AllGood visible heads params d = λ w m. good.written w (contains (writings d) w m) in
      or_neither first (option_or second third)
      (none_map Malformed ill (written_to visible heads params (writings d) written))
      (or_neither second third (none_map EmptyUnion (empty_union d) (case_to d good.cases))
      (none_map UniverseBelow above (fields_to visible heads params d written good.fields)))
