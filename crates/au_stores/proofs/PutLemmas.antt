-- Places into which values are put.
use Rattle.std.proofs.Common.{◌≡◌, ℕ, zero, suc, false, List, [], ◌∷◌, Option, Some, None, is_some, slice_get}
use Rattle.std.proofs.Common.{slice_set, refl, sym, ap, ◌∙◌}
use Rattle.std.specs.Option.{option_map}
use Rattle.au_base.proofs.ListLemmas.{set_twice}
use Rattle.au_effects.specs.Values.{Place, content_of}
use Rattle.au_effects.specs.Parts.{along, part, with_part}
use Rattle.au_effects.specs.Worlds as effect
use Rattle.au_effects.specs.Places.{content_in, name_at, with_name, name_set, base_at, base_set, set_over, exchanged}
use Rattle.au_low.specs.Machines.{Low, LowWorld}
use Rattle.au_cells.specs.declared.cells.Cell.{Cell}
use Rattle.au_cells.specs.Cells.{low}
use Rattle.au_stores.specs.declared.worlds.World.{World}
use Rattle.au_stores.specs.Stores.{world_of, came_out, content_of_birth, with_content_part}
use Rattle.au_stores.proofs.PartLemmas.{part_missing}

-- a slot that gets what it holds
slots_same : (names : List (Option Low)) (slot : ℕ) (held_value : Option Low)
    → along (slice_get names slot) (λ value. value) ≡ held_value → slice_set names slot held_value ≡ names
slots_same [] slot held_value h = refl
slots_same (one ∷ names) zero held_value h = ap (λ (o : Option Low). o ∷ names) (sym h)
slots_same (one ∷ names) (suc slot) held_value h =
    ap (λ (more : List (Option Low)). one ∷ more) (slots_same names slot held_value h)

frames_same : (frames : List (List (Option Low))) (frame slot : ℕ) (held_value : Option Low)
    → along (slice_get frames frame) (λ names. along (slice_get names slot) (λ value. value)) ≡ held_value
    → slice_set frames frame (with_name slot held_value (slice_get frames frame)) ≡ frames
frames_same [] frame slot held_value h = refl
frames_same (names ∷ frames) zero slot held_value h =
    ap (λ (ns : List (Option Low)). ns ∷ frames) (slots_same names slot held_value h)
frames_same (names ∷ frames) (suc frame) slot held_value h =
    ap (λ (more : List (List (Option Low))). names ∷ more) (frames_same frames frame slot held_value h)

-- a slot that is set twice
frames_twice : (frames : List (List (Option Low))) (frame slot : ℕ) (first second : Option Low)
    → slice_set (slice_set frames frame (with_name slot first (slice_get frames frame))) frame
    (with_name slot second (slice_get (slice_set frames frame (with_name slot first (slice_get frames frame)))
    frame))
    ≡ slice_set frames frame (with_name slot second (slice_get frames frame))
frames_twice [] frame slot first second = refl
frames_twice (names ∷ frames) zero slot first second =
    ap (λ (ns : List (Option Low)). ns ∷ frames) (set_twice names slot first second)
frames_twice (names ∷ frames) (suc frame) slot first second =
    ap (λ (more : List (List (Option Low))). names ∷ more) (frames_twice frames frame slot first second)

with_frames : LowWorld → List (List (Option Low)) → LowWorld
with_frames w frames = record w { frames = frames }

pub name_same : (frame slot : ℕ) (held_value : Option Low) (w : LowWorld) → name_at frame slot w ≡ held_value
    → name_set frame slot held_value w ≡ w
unfolding with_frames
name_same frame slot held_value w h = ap (with_frames w) (frames_same w.frames frame slot held_value h)

pub name_twice : (frame slot : ℕ) (first second : Option Low) (w : LowWorld)
    → name_set frame slot second (name_set frame slot first w) ≡ name_set frame slot second w
unfolding with_frames
name_twice frame slot first second w = ap (with_frames w) (frames_twice w.frames frame slot first second)

-- what comes out of a place into which a value is put
out_along : (old : Option Low) (w : LowWorld)
    → along {B = Low × LowWorld} old (λ one. Some (one, w)) ≡ option_map (λ (one : Low). (one, w)) old
out_along None w = refl
out_along (Some one) w = refl

came_low : (old : Option Cell) (w : World)
    → came_out old w ≡ option_map (λ (one : Low). (one, world_of w)) (option_map low old)
came_low None w = refl
came_low (Some one) w = refl

pub exchanged_is : (place : Place) (new base : Low) (old : Option Cell) (w : LowWorld) (after : World)
    → base_at place.base w ≡ Some base → option_map low old ≡ part place.path base
    → world_of after ≡ base_set place.base (with_part place.path new base) w
    → came_out old after ≡ exchanged place new w
exchanged_is place new base old w after there is set =
    came_low old after
    ∙ sym (out_along (option_map low old) (world_of after))
    ∙ ap (λ (found : Option Low). along {B = Low × LowWorld} found (λ one. Some (one, world_of after))) is
    ∙ ap (λ (v : LowWorld). along {B = Low × LowWorld} (part place.path base) (λ one. Some (one, v))) set
    ∙ ap (set_over place new w) (sym there)

low_none : (old : Option Cell) (found : Option Low) → option_map low old ≡ found → is_some old ≡ false
    → found ≡ None
low_none None found is h = sym is
low_none (Some one) found is h = cc

-- a slot whose part is missing
pub slot_kept : (frame slot : ℕ) (path : List ℕ) (new base : Low) (old : Option Cell) (w after : LowWorld)
    → name_at frame slot w ≡ Some base → option_map low old ≡ part path base → is_some old ≡ false
    → after ≡ name_set frame slot (Some (with_part path new base)) w → after ≡ w
slot_kept frame slot path new base old w after there is missing set =
    set
    ∙ ap (λ (v : Low). name_set frame slot (Some v) w)
    (part_missing path new base (low_none old (part path base) is missing))
    ∙ name_same frame slot (Some base) w there

-- what a slot gets that was emptied before
pub slot_put : (frame slot : ℕ) (value : Option Low) (w mid after : LowWorld)
    → mid ≡ name_set frame slot None w
    → after ≡ name_set frame slot value mid → after ≡ name_set frame slot value w
slot_put frame slot value w mid after first second =
    second ∙ ap (name_set frame slot value) first ∙ name_twice frame slot None value w

-- the content of a box
held_content : (birth_held : effect.Held ℕ) (base : Low) → content_in birth_held ≡ Some base → effect.content base ≡ birth_held
held_content effect.nothing base h = cc
held_content (effect.content value) base h = cc
held_content (effect.elements values) base h = cc

births_same : (births : List (effect.Held ℕ)) (id : ℕ) (base : Low)
    → along (slice_get births id) content_in ≡ Some base → slice_set births id (effect.content base) ≡ births
births_same [] id base h = refl
births_same (birth_held ∷ births) zero base h =
    ap (λ (one : effect.Held ℕ). one ∷ births) (held_content birth_held base h)
births_same (birth_held ∷ births) (suc id) base h =
    ap (λ (more : List (effect.Held ℕ)). birth_held ∷ more) (births_same births id base h)

pub held_put : (births mid after : List (effect.Held ℕ)) (id : ℕ) (birth_held : effect.Held ℕ)
    → mid ≡ slice_set births id effect.nothing → after ≡ slice_set mid id birth_held
    → after ≡ slice_set births id birth_held
held_put births mid after id birth_held first second =
    second
    ∙ ap (λ (ones : List (effect.Held ℕ)). slice_set ones id birth_held) first
    ∙ set_twice births id effect.nothing birth_held

pub content_kept : (id : ℕ) (path : List ℕ) (new base : Low) (old : Option Cell)
    (births after : List (effect.Held ℕ))
    → along (slice_get births id) content_in ≡ Some base → option_map low old ≡ part path base
    → is_some old ≡ false → after ≡ slice_set births id (effect.content (with_part path new base))
    → after ≡ births
content_kept id path new base old births after there is missing set =
    set
    ∙ ap (λ (v : Low). slice_set births id (effect.content v))
    (part_missing path new base (low_none old (part path base) is missing))
    ∙ births_same births id base there

-- a box whose content gets another part
came_none : (old : Option Cell) (w : World) → None ≡ option_map low old → came_out old w ≡ None
came_none None w h = refl
came_none (Some one) w h = cc

pub content_exchanged : (id : ℕ) (path : List ℕ) (new : Low) (old : Option Cell) (w : LowWorld) (after : World)
    → option_map low old ≡ along (content_of_birth id w.births) (part path)
    → world_of after
    ≡ record w { births = with_content_part id path new (content_of_birth id w.births) w.births }
    → came_out old after ≡ exchanged (record { base = content_of id; path = path }) new w
content_exchanged id path new old w after is set = by (content_of_birth id w.births) refl
  where
    by : (found : Option Low) → content_of_birth id w.births ≡ found
        → came_out old after ≡ exchanged (record { base = content_of id; path = path }) new w
    by None e =
        let none = is ∙ ap (λ (f : Option Low). along f (part path)) e in
        came_none old after (sym none)
        ∙ sym (ap (set_over (record { base = content_of id; path = path }) new w) e)
    by (Some base) e =
        exchanged_is (record { base = content_of id; path = path }) new base old w after e
        (is ∙ ap (λ (f : Option Low). along f (part path)) e)
        (set ∙ ap (λ (f : Option Low). record w { births = with_content_part id path new f w.births }) e)

pub content_stays : (id : ℕ) (path : List ℕ) (new : Low) (old : Option Cell)
    (births after : List (effect.Held ℕ))
    → option_map low old ≡ along (content_of_birth id births) (part path) → is_some old ≡ false
    → after ≡ with_content_part id path new (content_of_birth id births) births → after ≡ births
content_stays id path new old births after is missing set = by (content_of_birth id births) refl
  where
    by : (found : Option Low) → content_of_birth id births ≡ found → after ≡ births
    by None e = set ∙ ap (λ (f : Option Low). with_content_part id path new f births) e
    by (Some base) e =
        content_kept id path new base old births after e (is ∙ ap (λ (f : Option Low). along f (part path)) e) missing
        (set ∙ ap (λ (f : Option Low). with_content_part id path new f births) e)
