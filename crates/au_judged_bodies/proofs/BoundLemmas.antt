-- Fields that are bound: their running types, and the frame in which they are.
use Rattle.std.proofs.Common.{◌≡◌, ◌⊎◌, inl, inr, ℕ, suc, ◌+◌, Bool, true, false, cond, true≢false, List, []}
use Rattle.std.proofs.Common.{◌∷◌, length, map, find, Option, None, Some, Ok, refl, sym, ap, ◌∙◌, subst}
use Rattle.std.proofs.Common.{arith}
use Rattle.std.specs.Option.{option_map}
use Rattle.std.specs.Str.{bytes_eq}
use Rattle.std.proofs.lemmas.Option.{none-some, same_Some}
use Rattle.std.proofs.lemmas.Slice.Eq.{bytes_eq-Decides}
use Rattle.au_base.specs.declared.kinds.IntKind.{IntKind}
use Rattle.au_syntax.specs.Names.{Placed, Renaming}
use Rattle.au_syntax.specs.Plain.{Bytes}
use Rattle.au_syntax.specs.Types.{Bound, WrittenType}
use Rattle.au_types.specs.declared.types.Region.{Region}
use Rattle.au_types.specs.declared.types.Region.TheVariants.{Static, Named, Anonymous}
use Rattle.au_types.specs.Types.{Meaning, integer, writes}
use Rattle.au_types.proofs.SameLemmas.{same_is}
use Rattle.au_matching.specs.Bindings.{Bindings}
use Rattle.au_matching.specs.Substituted.{OfRegion}
use Rattle.au_names.specs.Importing.{given_name}
use Rattle.au_type_texts.specs.Given.{Given, closed_under}
use Rattle.au_type_texts.specs.Types.{ClosedType}
use Rattle.au_running_types.specs.Running.{is_lasting, region_running, running, token}
use Rattle.au_running_types.proofs.NameLemmas.{type_lasts}
use Rattle.au_written_types.specs.Written.{IsRegionName}
use Rattle.au_memory.specs.Loans.{Types}
use Rattle.au_effects.specs.Parts.{along}
use Rattle.au_typing.specs.InScope.{with_bound, with_typed}
use Rattle.au_typing.specs.Lookups.{is_free_in, parameters_in, type_of_name, written_type}
use Rattle.au_typing.specs.Faults.{Noting}
use Rattle.au_typing.specs.Notes.{Note}
use Rattle.au_typing.specs.Parts.{binds_each}
use Rattle.au_typing.specs.Scopes.{Scope, Typed}
use Rattle.au_typing.specs.Statements as typing
use Rattle.au_meaning.specs.Names as meaning
use Rattle.au_meaning.specs.Names.{field_of}
use Rattle.au_meaning.specs.Views.{Field, View}
use Rattle.au_known_types.specs.Known.{IsKnownIn}
use Rattle.au_known_types.proofs.KnownLemmas.{writes_parts}
use Rattle.au_known_types.proofs.NotedLemmas.{written_known}
use Rattle.au_safe_steps.specs.Binding.{bound_fields, field_names}
use Rattle.au_safe_steps.specs.Orders.{AreApart, IsReordered}
use Rattle.au_running_lives.specs.Blocks.{AreBound, AreFine, IsFine, MayDrop, with_types}
use Rattle.au_running_lives.specs.Held.{IsPermitted, Permits}
use Rattle.au_running_lives.specs.Known.{Callables, InScope}
use Rattle.au_running_lives.specs.Lives.{put}
use Rattle.au_running_lives.specs.Picking.{AreTypesUnder, IsTypeUnder}
use Rattle.au_judged_bodies.specs.Frames.{field_closed}
use Rattle.au_judged_bodies.proofs.TypedRunsPartLemmas.{field_found}
use Rattle.au_judged_bodies.specs.Besides.{AreFineIn, IsFineIn}
use Rattle.au_judged_bodies.specs.Covering.{MayHold}
use Rattle.au_judged_bodies.specs.Rounds.{EachLasts, PlaceFits, kinds_running, names_of}
use Rattle.au_judged_bodies.proofs.OnceLemmas.{In, each_there, field_in, found_apart, once_reordered}
use Rattle.au_judged_bodies.proofs.TypedBlocksPlaceLemmas.{place_later, place_with}

-- ---- lists of fields

pub names_alike : (given : Given) (fields : List Typed) → field_names (map (field_closed given) fields) ≡ names_of
    fields
names_alike given [] = refl
names_alike given (one ∷ rest) = ap (λ l. one.name ∷ l) (names_alike given rest)

pub as_many : (given : Given) (s : Bindings) (z : ℕ) (fields : List Typed)
    → length (kinds_running s z fields) ≡ length (map (field_closed given) fields)
as_many given s z [] = refl
as_many given s z (one ∷ rest) = ap suc (as_many given s z rest)

pub kinds_last : (s : Bindings) (z y : ℕ) (fields : List Typed) → EachLasts fields
    → kinds_running s z fields ≡ kinds_running s y fields
kinds_last s z y [] lasts = refl
kinds_last s z y (one ∷ rest) lasts =
    λ i. type_lasts s z y one.of (lasts 0 one refl) i ∷ kinds_last s z y rest (λ n x e. lasts (suc n) x e) i

type_under : (given : Given) (s : Bindings) (name : Bytes) (t : Meaning) (fields : List Typed)
    → type_of_name name fields ≡ Some t
    → IsTypeUnder name (field_names (map (field_closed given) fields)) (kinds_running s 0 fields) (running s 0 t)
type_under given s name t [] e = absurd (none-some t e)
type_under given s name t (one ∷ rest) e =
    by (bytes_eq one.name name) refl e (λ later. type_under given s name t rest later)
  where
    by : (b : Bool) → bytes_eq one.name name ≡ b
        → option_map (λ (x : Typed). x.of) (cond b (Some one) (find (λ x. bytes_eq x.name name) rest)) ≡ Some t
        → (type_of_name name rest ≡ Some t → IsTypeUnder name (field_names (map (field_closed given) rest))
        (kinds_running s 0 rest) (running s 0 t))
        → IsTypeUnder name (field_names (map (field_closed given) (one ∷ rest))) (kinds_running s 0 (one ∷ rest))
        (running s 0 t)
    by true found e later =
        inl (sym ((bytes_eq-Decides one.name name).0 found), ap (running s 0) (sym (same_Some one.of t e)))
    by false found e later =
        inr (λ same. true≢false (sym ((bytes_eq-Decides one.name name).1 (sym same)) ∙ found), later e)

-- the name that a field is bound to
given_is : (r : Renaming Bytes) → given_name r ≡ meaning.bound_name r
given_is r = by r.alias
  where
    by : (o : Option (Placed Bytes))
        → given_name (record { name = r.name; alias = o }) ≡ meaning.bound_name (record { name = r.name; alias = o })
    by None = refl
    by (Some alias) = refl

-- ---- what is bound

module _ (sc : Scope) (fields : List Typed) where
  -- the running types of what is bound, in the order in which it is
  abbrev pub bound_kinds : Bindings → (binds : List (Bound Bytes)) → typing.AreBound sc fields binds → List Meaning
  bound_kinds s [] good = []
  bound_kinds s (b ∷ rest) good = running s 0 good.0.of ∷ bound_kinds s rest good.1

  bound_is : (b : Bound Bytes) → (its : typing.IsBound sc fields b) → its.field ≡ its.of
  bound_is b its = same_is its.field its.of its.is_same

  pub bound_under : (given : Given) (s : Bindings) (binds : List (Bound Bytes)) (good : typing.AreBound sc fields binds)
      → AreTypesUnder (bound_fields binds) (field_names (map (field_closed given) fields)) (kinds_running s 0 fields)
      (bound_kinds s binds good)
  bound_under given s [] good = tt
  bound_under given s (b ∷ rest) good = (
    type_under given s b.name.name.name good.0.of fields (good.0.has ∙ ap (λ u. Some u) (bound_is b good.0)),
    bound_under given s rest good.1,
  )

  as_many_bound : (s : Bindings) (binds : List (Bound Bytes)) (good : typing.AreBound sc fields binds)
      → length (bound_kinds s binds good) ≡ length binds
  as_many_bound s [] good = refl
  as_many_bound s (b ∷ rest) good = ap suc (as_many_bound s rest good.1)

  -- the type of a field that is bound is lasting
  has_lasting : (name : Bytes) (binds : List (Bound Bytes)) → typing.AreBound sc fields binds
      → In name (bound_fields binds) → (t : Meaning) → type_of_name name fields ≡ Some t → is_lasting t ≡ true
  has_lasting name [] good is t e = absurd is
  has_lasting name (b ∷ rest) good (inl same) t e =
      let one : good.0.of ≡ t =
      sym (bound_is b good.0) ∙ same_Some good.0.field t (sym good.0.has
      ∙ ap (λ n. type_of_name n fields) (sym same) ∙ e) in
      subst (λ u. is_lasting u ≡ true) one (written_known sc b.of good.0.of good.0.formed).1
  has_lasting name (b ∷ rest) good (inr later) t e = has_lasting name rest good.1 later t e

  pub bound_last : (binds : List (Bound Bytes)) → typing.AreBound sc fields binds → binds_each fields binds ≡ true
      → AreApart (names_of fields) → EachLasts fields
  bound_last binds good each apart i one e =
      has_lasting one.name binds good
      (each_there (names_of fields) (bound_fields binds) each one.name (field_in fields i one e)) one.of
      (found_apart fields apart i one e)

module _ (types : Types) (owner : ClosedType → Option (List ℕ)) {I K : Type 0} (see : View I Note (Unit {0}))
    (known : Callables I K) (may_hand : Meaning → Type 0) (given : Given) (Stands : Bindings → Type 0)
    (loose : ℕ → Bool) (result : Meaning)
    {V W : Type 0} (permits : Permits V W) (key : V) (counts : (kind : IntKind) → IsPermitted permits key
    (integer kind))
    (active : ℕ → Bool) where
  abbrev Place : ℕ → Scope → meaning.Scope → Bindings → (ℕ → Meaning) → Type 0
  Place number sc scope s names =
      PlaceFits types owner see known may_hand given Stands result active number sc scope s names

  -- ---- what may be dropped

  region_token : (region : Region) → InScope active region → (region ≡ Static) ⊎ ((z : ℕ) × (region ≡ token z))
  region_token region (inl static) = inl static
  region_token region (inr (z, is, on)) = inr (z, is)

  scoped_region : (number : ℕ) (sc : Scope) (scope : meaning.Scope) (s : Bindings) (names : ℕ → Meaning)
      → Place number sc scope s names → (region : Region) → OfRegion (IsRegionName sc.regions (parameters_in sc)) region
      → (region_running s 0 region ≡ Static) ⊎ ((z : ℕ) × (region_running s 0 region ≡ token z))
  scoped_region number sc scope s names p Static is = inl refl
  scoped_region number sc scope s names p (Named name) is = region_token _ (p.regions name is)
  scoped_region number sc scope s names p Anonymous is = inr (0, refl)

  pub drops : (number at : ℕ) (sc : Scope) (scope : meaning.Scope) (s : Bindings) (names : ℕ → Meaning)
      → Place number sc scope s names → (t : Meaning) → IsKnownIn sc t → IsFineIn see loose
      (MayHold permits key Stands) sc at t
      → IsFine types loose permits key at (running s 0 t)
  drops number at sc scope s names p t whole may = (λ is. by (may.0 is), may.1 s p.good)
    where
      by : (is_free_in sc t ≡ true) ⊎ ((of : Meaning) × (region : Region) × (t ≡ writes of region)) → MayDrop types
          (running s 0 t)
      by (inl free) = inl (p.round.free s sc.regions 0 t p.good whole free)
      by (inr (of, region, same)) =
          inr (
            running s 0 of,
            region_running s 0 region,
            ap (running s 0) same,
            scoped_region number sc scope s names p region
                (writes_parts sc.outside.heads (parameters_in sc) sc.regions of region
                (subst (IsKnownIn sc) same whole)).1,
          )

  pub drops_each : (number at : ℕ) (sc : Scope) (scope : meaning.Scope) (s : Bindings) (names : ℕ → Meaning)
      → Place number sc scope s names → (fields : List Typed) (binds : List (Bound Bytes))
      (good : typing.AreBound sc fields binds) → AreFineIn see loose (MayHold permits key Stands) sc at binds
      → AreFine types loose permits key at (bound_kinds sc fields s binds good)
  drops_each number at sc scope s names p fields [] good may = tt
  drops_each number at sc scope s names p fields (b ∷ rest) good may = (
    drops number at sc scope s names p good.0.of (written_known sc b.of good.0.of good.0.formed).0
        (may.0 good.0.of good.0.formed),
    drops_each number (suc at) sc scope s names p fields rest good.1 may.1,
  )

  -- ---- the fields are bound as the meaning asks

  abbrev pub are_bound : (number : ℕ) (sc : Scope) (scope : meaning.Scope) (s : Bindings) (names : ℕ → Meaning)
      → Place number sc scope s names → (fields : List Typed) (binds : List (Bound Bytes))
      (good : typing.AreBound sc fields binds) → binds_each fields binds ≡ true → AreApart (names_of fields)
      → AreFineIn see loose (MayHold permits key Stands) sc number binds
      → AreBound types owner see known result loose permits key number (map (field_closed given) fields)
      (kinds_running s 0 fields)
      binds
  are_bound number sc scope s names p fields binds good each apart may = record {
    many = as_many given s 0 fields;
    apart = subst AreApart (sym (names_alike given fields)) apart;
    each = subst (λ (l : List Bytes). IsReordered (bound_fields binds) l) (sym (names_alike given fields))
        (once_reordered (names_of fields) (bound_fields binds) apart each);
    bound = bound_kinds sc fields s binds good;
    are = bound_under sc fields given s binds good;
    fine = drops_each number number sc scope s names p fields binds good may;
  }

  -- ---- the frame in which they are

  -- a scope that differs from another in its variables alone gives written types what that gives
  abbrev WritesAlike : Scope → Scope → Type 0
  WritesAlike cur sc = (t : WrittenType) → written_type cur t ≡ written_type sc t

  seen_closed : (fields : List Typed) (opt : Option (List Field)) → opt ≡ Some (map (field_closed given) fields)
      → (name : Bytes) (t : Meaning) → type_of_name name fields ≡ Some t
      → option_map (λ (one : ℕ × ClosedType). one.1) (along opt (field_of name)) ≡ Some (closed_under given t)
  seen_closed fields opt is name t e =
      ap (λ o. option_map (λ (one : ℕ × ClosedType). one.1) (along o (field_of name))) is
      ∙ ap (option_map (λ (one : ℕ × ClosedType). one.1)) (field_found [] given 0 0 fields name t e).1

  pub place_bound : (sc : Scope) (fields : List Typed) (opt : Option (List Field))
      → opt ≡ Some (map (field_closed given) fields) → (binds : List (Bound Bytes))
      (good : typing.AreBound sc fields binds) (number : ℕ) (cur : Scope) (scope : meaning.Scope) (s : Bindings)
      (names : ℕ → Meaning) → WritesAlike cur sc → Place number cur scope s names
      → Place (number + length binds) (with_bound binds cur) (meaning.with_bound opt number binds scope) s
      (with_types number (bound_kinds sc fields s binds good) names)
  place_bound sc fields opt is [] good number cur scope s names alike p =
      place_later types owner see known may_hand given Stands result active number (number + 0) cur scope s names
      (omega arith) p
  place_bound sc fields opt is (b ∷ rest) good number cur scope s names alike p =
      subst (λ (o : Noting Meaning). Goal o (meaning.bound_name b.name) (number + 1)) (sym (alike b.of ∙ its.formed))
      (subst (λ n. Goal (Ok its.of) n (number + 1)) (given_is b.name)
      (subst (λ n. Goal (Ok its.of) (given_name b.name) n) one_more
      (place_later types owner see known may_hand given Stands result active (suc number + length rest)
      (number + suc (length rest)) _ _ s _ (omega arith)
      (place_bound sc fields opt is rest good.1 (suc number) _ _ s (put number (running s 0 its.of) names)
      alike
      (place_with types owner see known may_hand given Stands result active number cur scope s names p (suc number)
      (record { name = given_name b.name; of = its.of; assignable = false }) seen (running s 0 its.of) (omega arith)
      whole.0 whole.1 (seen_closed fields opt is b.name.name.name its.of
      (its.has ∙ ap (λ u. Some u) (bound_is sc fields b its)))
      (λ z. type_lasts s 0 z its.of whole.1))))))
    where
      its : typing.IsBound sc fields b
      its = good.0

      seen : Option ClosedType
      seen = option_map (λ (one : ℕ × ClosedType). one.1) (along opt (field_of b.name.name.name))

      whole : IsKnownIn cur its.of × (is_lasting its.of ≡ true)
      whole = written_known cur b.of its.of (alike b.of ∙ its.formed)

      one_more : suc number ≡ number + 1
      one_more = omega arith

      Goal : Noting Meaning → Bytes → ℕ → Type 0
      Goal o name n =
          Place (number + suc (length rest)) (with_bound rest (with_typed (given_name b.name) false o cur))
          (meaning.with_bound opt n rest (meaning.with_name name number seen scope)) s
          (with_types (suc number) (bound_kinds sc fields s rest good.1) (put number (running s 0 its.of) names))
