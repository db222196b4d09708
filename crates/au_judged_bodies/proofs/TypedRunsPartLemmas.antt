-- Names and parts of records in a frame that fits a scope.
use Rattle.std.proofs.Common.{◌≡◌, ◌⊎◌, inl, inr, ℕ, suc, ◌+◌, Bool, true, false, cond, List, [], ◌∷◌}
use Rattle.std.proofs.Common.{map, find, Option, None, Some, refl, sym, ap, ◌∙◌, subst, arith}
use Rattle.std.specs.Prelude.{option_and_then, slice_get}
use Rattle.std.specs.Option.{option_map, option_or}
use Rattle.std.specs.Str.{bytes_eq}
use Rattle.std.proofs.lemmas.Option.{none-some, same_Some}
use Rattle.au_syntax.specs.Names.{Placed}
use Rattle.au_syntax.specs.Plain.{Bytes}
use Rattle.au_types.specs.declared.types.Region.{Region}
use Rattle.au_types.specs.declared.types.Region.TheVariants.{Static, Named, Anonymous}
use Rattle.au_types.specs.Types.{Meaning}
use Rattle.au_matching.specs.Bindings.{Bindings}
use Rattle.au_matching.specs.Substituted.{OfRegion}
use Rattle.au_type_texts.specs.Given.{Given, closed_under}
use Rattle.au_type_texts.specs.Types.{ClosedType}
use Rattle.au_running_types.specs.Running.{region_running, running}
use Rattle.au_written_types.specs.Written.{IsRegionName}
use Rattle.au_memory.specs.Loans.{Types}
use Rattle.au_lending.specs.Seeing.{LeadsOn}
use Rattle.au_effects.specs.Parts.{along}
use Rattle.au_typing.specs.Lookups.{IsPart, parameters_in, type_of_name, value_type, variable_of}
use Rattle.au_typing.specs.Lookups.{variable_type}
use Rattle.au_typing.specs.Notes.{Note}
use Rattle.au_typing.specs.Scopes.{Scope, Typed, Variable}
use Rattle.au_meaning.specs.Expressions.{names_of}
use Rattle.au_meaning.specs.Names as meaning
use Rattle.au_meaning.specs.Names.{field_from, path_numbers}
use Rattle.au_meaning.specs.Views.{View}
use Rattle.au_known_types.specs.Known.{IsKnownIn}
use Rattle.au_known_types.proofs.NotedLemmas.{part_known}
use Rattle.au_running_lives.specs.Known.{InScope}
use Rattle.au_judged_bodies.specs.Frames.{FrameFits, RecordIsSeen, VariableIsThere, field_closed}

abbrev some_pair : ℕ → ClosedType → Option (ℕ × ClosedType)
some_pair n t = Some (n, t)

module _ (s : Bindings) (given : Given) (z : ℕ) where
  -- the field of a name is seen by its number, with its closed type, and there is its running type
  pub field_found : (base : ℕ) (fields : List Typed) (name : Bytes) (next : Meaning) → type_of_name name fields
      ≡ Some next
      → (i : ℕ) × (field_from base name (map (field_closed given) fields) ≡ Some (base + i, closed_under given next))
      × (slice_get (map (λ (one : Typed). running s z one.of) fields) i ≡ Some (running s z next))
  field_found base [] name next e = absurd (none-some next e)
  field_found base (one ∷ rest) name next e =
      by (bytes_eq one.name name) e (λ later. field_found (base + 1) rest name next later)
    where
      at_base : (n : ℕ) → n ≡ n + 0
      at_base n = omega arith

      further : (n i : ℕ) → (n + 1) + i ≡ n + suc i
      further n i = omega arith

      by : (b : Bool)
          → option_map (λ (x : Typed). x.of) (cond b (Some one) (find (λ x. bytes_eq x.name name) rest)) ≡ Some next
          → (type_of_name name rest ≡ Some next
          → (i : ℕ) × (field_from (base + 1) name (map (field_closed given) rest)
          ≡ Some ((base + 1) + i, closed_under given next))
          × (slice_get (map (λ (x : Typed). running s z x.of) rest) i ≡ Some (running s z next)))
          → (i : ℕ)
          × (cond b (Some (base, closed_under given one.of)) (field_from (base + 1) name
          (map (field_closed given) rest))
          ≡ Some (base + i, closed_under given next))
          × (slice_get (map (λ (x : Typed). running s z x.of) (one ∷ rest)) i ≡ Some (running s z next))
      by true e later =
          let same : one.of ≡ next = same_Some one.of next e in (
            0,
            ap (λ n. some_pair n (closed_under given one.of)) (at_base base)
                ∙ ap (λ t. some_pair (base + 0) (closed_under given t)) same,
            ap (λ t. Some (running s z t)) same,
          )
      by false e later =
          let its = later e in
          (suc its.0, its.1 ∙ ap (λ n. some_pair n (closed_under given next)) (further base its.0), its.2)

module _ (types : Types) {I : Type 0} (see : View I Note (Unit {0})) (names : ℕ → Meaning) (active : ℕ → Bool)
    (sc : Scope) (scope : meaning.Scope) (s : Bindings) (given : Given) (z : ℕ)
    (fits : FrameFits types see names active sc scope s given z) where
  abbrev Seen : Meaning → List Typed → Type 0
  Seen t fields = RecordIsSeen types see s given z t fields

  -- where a path of fields leads, by numbers
  abbrev pub Leads : Meaning → List Bytes → Meaning → Type 0
  Leads t path part =
      (numbers : List ℕ)
      × (path_numbers (λ of. see.fields of 0) (Some (closed_under given t)) path ≡ Some numbers)
      × LeadsOn types (running s z t) numbers (running s z part)

  one_leads : (t next part : Meaning) (fields : List Typed) (name : Bytes) (path : List Bytes) → Seen t fields
      → type_of_name name fields ≡ Some next → Leads next path part → Leads t (name ∷ path) part
  one_leads t next part fields name path seen e (numbers, is, leads) =
      let its = field_found s given z 0 fields name next e in
      let zero_first : 0 + its.0 ≡ its.0 = omega arith in (
        its.0 ∷ numbers,
        ap (λ o. along (along o (meaning.field_of name)) (λ (one : ℕ × ClosedType).
            along (path_numbers (λ of. see.fields of 0) (Some one.1) path) (λ rest. Some (one.0 ∷ rest)))) seen.closed
            ∙ ap (λ o. along o (λ (one : ℕ × ClosedType).
            along (path_numbers (λ of. see.fields of 0) (Some one.1) path) (λ rest. Some (one.0 ∷ rest)))) its.1
            ∙ ap (λ o. along o (λ rest. Some ((0 + its.0) ∷ rest))) is
            ∙ ap (λ n. Some (n ∷ numbers)) zero_first,
        (
          map (λ (one : Typed). running s z one.of) fields,
          running s z next,
          seen.runs,
          seen.alone,
          its.2,
          leads,
        ),
      )

  pub part_leads : (fields : List (Placed Bytes)) (t part : Meaning) → IsKnownIn sc t → IsPart sc t fields part
      → Leads t (names_of fields) part
  part_leads [] t part known is = ([], refl, ap (running s z) (sym is))
  part_leads (field ∷ fields) t part known (next, e, rest) =
      by (sc.outside.fields t) refl e
      (part_leads fields next part (part_known sc fits.known (field ∷ []) t next (next, e, refl) known) rest)
    where
      by : (o : Option (List Typed)) → sc.outside.fields t ≡ o
          → option_and_then (type_of_name field.name) o ≡ Some next → Leads next (names_of fields) part
          → Leads t (names_of (field ∷ fields)) part
      by None is e later = absurd (none-some next e)
      by (Some all) is e later =
          one_leads t next part all field.name (names_of fields) (fits.records t all known is) e later

  -- ---- names

  abbrev There : Bytes → Meaning → Type 0
  There name t = VariableIsThere types see names active sc scope s given z name t

  pub variable_there : (name : Bytes) (t : Meaning) → variable_type sc name ≡ Some t → There name t
  variable_there name t e = by (variable_of sc name) refl e
    where
      by : (o : Option Variable) → variable_of sc name ≡ o → option_map (λ (v : Variable). v.of) o ≡ Some t
          → There name t
      by None is e = absurd (none-some t e)
      by (Some v) is e = subst (There name) (same_Some v.of t e) (fits.variables name v is)

  -- what a name means is a variable, or a constant where there is none
  pub value_there : (name : Bytes) (t : Meaning) → value_type sc name ≡ Some t
      → There name t ⊎ ((meaning.variable_of scope name ≡ None) × (sc.outside.constant name ≡ Some t))
  value_there name t e = by (variable_of sc name) refl e
    where
      by : (o : Option Variable) → variable_of sc name ≡ o
          → option_or (option_map (λ (v : Variable). v.of) o) (sc.outside.constant name) ≡ Some t
          → There name t ⊎ ((meaning.variable_of scope name ≡ None) × (sc.outside.constant name ≡ Some t))
      by None is e = inr (fits.others name is, e)
      by (Some v) is e = inl (subst (There name) (same_Some v.of t e) (fits.variables name v is))

  -- ---- regions

  pub region_scoped : (region : Region) → OfRegion (IsRegionName sc.regions (parameters_in sc)) region
      → InScope active (region_running s z region)
  region_scoped Static is = inl refl
  region_scoped (Named name) is = fits.regions name is
  region_scoped Anonymous is = inr (z, refl, fits.here)
