-- Fields by number, and parts that are put.
use Rattle.std.proofs.Common.{◌≡◌, ℕ, zero, suc, ◌-◌, ◌≤◌, ◌<◌, false, ◌==◌, List, [], ◌∷◌, length, take}
use Rattle.std.proofs.Common.{drop, get_or, Option, Some, None, slice_get, slice_set, refl, sym, ap, ◌∙◌}
use Rattle.std.proofs.Common.{subst, arith}
use Rattle.std.specs.Option.{option_map}
use Rattle.std.proofs.lemmas.List.{length-map, map-set, take_rest}
use Rattle.std.proofs.lemmas.Option.{slice_get_past, slice_get_read}
use Rattle.std.specs.Global.{Global}
use Rattle.std.specs.declared.boxed.Box.{Box}
use Rattle.au_base.proofs.ListLemmas.{set_twice}
use Rattle.au_effects.specs.Values.{made, field_then, fields_of}
use Rattle.au_effects.specs.Parts.{along, nth_field, field, part, with_nth, with_part}
use Rattle.au_cells.specs.declared.cells.Parts.{Parts}
use Rattle.au_cells.specs.declared.cells.Cell.{Cell}
use Rattle.au_cells.specs.declared.cells.Cell as cell
use Rattle.au_cells.specs.Cells.{Low, low, lows, value_of, taken_apart}
use Rattle.au_cells.proofs.CellLemmas.{made_is}

-- the field of a number, of fields in a list
pub nth_is : (values : List Low) (i : ℕ) → nth_field i (fields_of values) ≡ slice_get values i
nth_is [] i = refl
nth_is (value ∷ values) zero = refl
nth_is (value ∷ values) (suc i) = nth_is values i

pub get_low : (cells : List Cell) (i : ℕ) → slice_get (lows cells) i ≡ option_map low (slice_get cells i)
get_low [] i = refl
get_low (one ∷ cells) zero = refl
get_low (one ∷ cells) (suc i) = get_low cells i

pub nth_low : (cells : List Cell) (i : ℕ)
    → nth_field i (fields_of (lows cells)) ≡ option_map low (slice_get cells i)
nth_low cells i = nth_is (lows cells) i ∙ get_low cells i

-- a value with parts has these fields
pub field_is : (parts : Box Parts Global) (i : ℕ)
    → field i (low (cell.Made parts)) ≡ option_map low (slice_get parts.value.fields.items i)
field_is parts i = ap (field i) (made_is parts) ∙ nth_low parts.value.fields.items i

-- any other has no field, no part, and is not changed
pub no_field : (value : Low) (i : ℕ) → taken_apart value ≡ None → field i value ≡ None
no_field (made tag birth held) i e = cc
no_field other i e = refl

pub no_part : (value : Low) (i : ℕ) (path : List ℕ) → taken_apart value ≡ None
    → part (i ∷ path) value ≡ None
no_part value i path e = ap (λ (found : Option Low). along found (part path)) (no_field value i e)

pub unchanged : (value new : Low) (i : ℕ) (path : List ℕ) → taken_apart value ≡ None
    → with_part (i ∷ path) new value ≡ value
unchanged (made tag birth held) new i path e = cc
unchanged other new i path e = refl

-- fields of which one that isn't there is changed
pub with_nth_past : (change : Low → Low) (values : List Low) (i : ℕ) → length values ≤ i
    → with_nth i change (fields_of values) ≡ fields_of values
with_nth_past change [] i h = refl
with_nth_past change (value ∷ values) zero h = absurd (omega arith)
with_nth_past change (value ∷ values) (suc i) h = ap (field_then value) (with_nth_past change values i
    (omega arith))

-- and one that is
pub with_nth_at : (change : Low → Low) (values : List Low) (i : ℕ) (old : Low)
    → slice_get values i ≡ Some old
    → with_nth i change (fields_of values) ≡ fields_of (slice_set values i (change old))
with_nth_at change [] i old h = cc
with_nth_at change (value ∷ values) zero old h = let e : value
    ≡ old = cc in ap (λ (v : Low). field_then (change v) (fields_of values)) e
with_nth_at change (value ∷ values) (suc i) old h = ap (field_then value) (with_nth_at change values i old h)

-- a field that isn't there
pub past_whole : (change : Low → Low) (cells : List Cell) (i : ℕ) → length cells ≤ i
    → fields_of (lows cells) ≡ with_nth i change (fields_of (lows cells))
past_whole change cells i h = sym (with_nth_past change (lows cells) i (subst (λ n. n ≤ i) (sym
    (length-map cells low)) h))

pub past_old : (path : List ℕ) (cells : List Cell) (i : ℕ) → length cells ≤ i
    → None ≡ along (nth_field i (fields_of (lows cells))) (part path)
past_old path cells i h =
    sym (ap (λ (found : Option Low). along found (part path)) (nth_low cells i
    ∙ ap (option_map low) (slice_get_past cells i h)))

-- a field that is there
cell_there : (cells : List Cell) (i : ℕ) (old : Cell) → i < length cells → old ≡ get_or cells i old
    → slice_get (lows cells) i ≡ Some (low old)
cell_there cells i old h is = get_low cells i
    ∙ ap (option_map low) (slice_get_read cells (length cells) i old refl h is)

pub found_whole : (change : Low → Low) (cells : List Cell) (i : ℕ) (old held whole : Cell)
    → i < length cells → old ≡ get_or cells i old → low whole ≡ change (low old)
    → fields_of (lows (slice_set (slice_set cells i held) i whole))
    ≡ with_nth i change (fields_of (lows cells))
found_whole change cells i old held whole h is becomes =
    ap (λ (ones : List Cell). fields_of (lows ones)) (set_twice cells i held whole)
    ∙ ap fields_of (map-set low cells i whole)
    ∙ ap (λ (value : Low). fields_of (slice_set (lows cells) i value)) becomes
    ∙ sym (with_nth_at change (lows cells) i (low old) (cell_there cells i old h is))

pub found_old : (path : List ℕ) (cells : List Cell) (i : ℕ) (old : Cell) → i < length cells
    → old ≡ get_or cells i old
    → part path (low old) ≡ along (nth_field i (fields_of (lows cells))) (part path)
found_old path cells i old h is =
    sym (ap (λ (found : Option Low). along found (part path)) (nth_is (lows cells) i
    ∙ cell_there cells i old h is))

-- a path that isn't empty
pub path_begins : (path : List ℕ) → (length path == 0) ≡ false
    → path ≡ get_or path 0 0 ∷ take (length path - 1) (drop 1 path)
path_begins [] e = absurd cc
path_begins (index ∷ rest) e = ap (λ (more : List ℕ). index ∷ more) (sym (take_rest (index ∷ rest) 1))

-- a value with parts of which one field is put
pub made_whole : (one : Cell) (old new : Box Parts Global) (path rest : List ℕ) (index : ℕ)
    (value : Low) → one ≡ cell.Made old → path ≡ index ∷ rest
    → new.value.tag ≡ old.value.tag → new.value.birth ≡ old.value.birth
    → fields_of (lows new.value.fields.items)
    ≡ with_nth index (with_part rest value) (fields_of (lows old.value.fields.items))
    → low (cell.Made new) ≡ with_part path value (low one)
made_whole one old new path rest index value is begins tags births becomes =
    let same : value_of new.value ≡ with_part (index ∷ rest) value (value_of old.value) = cc in
    made_is new ∙ same ∙ ap (with_part (index ∷ rest) value) (sym (made_is old))
    ∙ ap (λ p. with_part p value (low (cell.Made old))) (sym begins)
    ∙ ap (λ (v : Cell). with_part path value (low v)) (sym is)

pub made_old : (one : Cell) (old : Box Parts Global) (path rest : List ℕ) (index : ℕ)
    (found : Option Low) → one ≡ cell.Made old → path ≡ index ∷ rest
    → found ≡ along (nth_field index (fields_of (lows old.value.fields.items))) (part rest)
    → found ≡ part path (low one)
made_old one old path rest index found is begins same =
    same ∙ ap (part (index ∷ rest)) (sym (made_is old))
    ∙ ap (λ p. part p (low (cell.Made old))) (sym begins)
    ∙ ap (λ (v : Cell). part path (low v)) (sym is)
