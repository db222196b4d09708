-- What is told of a run, births and borrows, where texts, places and types are changed.
use Rattle.std.proofs.Common.{◌≡◌, ℕ, ◌+◌, Bool, true, false, if◌then◌else◌, List, [], ◌∷◌, ◌++◌, length, map}
use Rattle.std.proofs.Common.{Option, Some, None, refl, sym, ap, ap₂, ◌∙◌, set, slice_get}
use Rattle.std.specs.Prelude.{option_map}
use Rattle.std.proofs.lemmas.List.{length-map, map-append, map-set}
use Rattle.std.proofs.lemmas.Option.{slice_get-map}
use Rattle.au_effects.specs.Calls.{elements_in, with_elements}
use Rattle.au_effects.specs.Parts.{along}
use Rattle.au_effects.specs.Places.{content_in}
use Rattle.au_effects.specs.Values.{Value}
use Rattle.au_effects.specs.Worlds as effects
use Rattle.au_effects.specs.Worlds.{World, Held, Deed, nothing, content, elements, tells, bears, ends, spends}
use Rattle.au_effects.specs.Worlds.{opens, closes}
use Rattle.au_lowered.specs.Maps.{Change, value_to, held_to, deed_to, world_to}

module _ {T S B D : Type 0} (f : Change T S) (g : B → D) (frames : List (List (Option (Value S)))) where
  pub tells_to : (deed : Deed B) (w : World T B)
      → tells (deed_to g deed) (world_to f g frames w) ≡ world_to f g frames (tells deed w)
  tells_to deed w = ap (λ deeds. record (world_to f g frames w) { deeds = deeds }) (kept w.keeps)
    where
      kept : (b : Bool)
          → (if b then map (deed_to g) w.deeds ++ deed_to g deed ∷ [] else map (deed_to g) w.deeds)
          ≡ map (deed_to g) (if b then w.deeds ++ deed ∷ [] else w.deeds)
      kept true = sym (map-append (deed_to g) w.deeds (deed ∷ []))
      kept false = refl

  pub bears_to : (of : B) (home : List ℕ) (held : Held T) (w : World T B)
      → bears (g of) home (held_to f held) (world_to f g frames w)
      ≡ world_to f g frames (bears of home held w)
  bears_to of home held w =
      ap₂ (λ id births. tells (effects.born id (g of) home) (record (world_to f g frames w) {
        births =
            births;
      }))
      (length-map w.births (held_to f)) (sym (map-append (held_to f) w.births (held ∷ [])))
      ∙ tells_to (effects.born (length w.births) of home) (record w { births = w.births ++ held ∷ [] })

  pub ends_to : (id : ℕ) (w : World T B) → ends id (world_to f g frames w) ≡ world_to f g frames (ends id w)
  ends_to id w =
      ap (λ births. tells (effects.consumed id) (record (world_to f g frames w) { births = births }))
      (sym (map-set (held_to f) w.births id nothing))
      ∙ tells_to (effects.consumed id) (record w { births = set w.births id nothing })

  pub spends_to : (birth : Option ℕ) (w : World T B)
      → spends birth (world_to f g frames w) ≡ world_to f g frames (spends birth w)
  spends_to None w = refl
  spends_to (Some id) w = tells_to (effects.consumed id) w

  -- one more borrow, and borrows that are closed
  pub opens_to : (w : World T B) → opens (world_to f g frames w) ≡ world_to f g frames (opens w)
  opens_to w = tells_to (effects.opened w.borrows) (record w { borrows = w.borrows + 1 })

  pub closes_to : (borrows : List ℕ) (w : World T B)
      → closes borrows (world_to f g frames w) ≡ world_to f g frames (closes borrows w)
  closes_to [] w = refl
  closes_to (borrow ∷ rest) w =
      ap (λ told. closes rest told) (tells_to (effects.closed borrow) w)
      ∙ closes_to rest (tells (effects.closed borrow) w)

  -- a buffer holds other elements
  pub with_elements_to : (id : ℕ) (values : List (Value T)) (w : World T B)
      → with_elements id (map (value_to f) values) (world_to f g frames w)
      ≡ world_to f g frames (with_elements id values w)
  with_elements_to id values w =
      ap (λ births. record (world_to f g frames w) { births = births })
      (sym (map-set (held_to f) w.births id (elements values)))

-- the content of a box, and the elements of a buffer
module _ {T S : Type 0} (f : Change T S) where
  in_to : (held : Held T) → content_in (held_to f held) ≡ option_map (value_to f) (content_in held)
  in_to nothing = refl
  in_to (content one) = refl
  in_to (elements values) = refl

  along_in : (o : Option (Held T))
      → along (option_map (held_to f) o) content_in ≡ option_map (value_to f) (along o content_in)
  along_in None = refl
  along_in (Some held) = in_to held

  pub content_to : (births : List (Held T)) (id : ℕ)
      → along (slice_get (map (held_to f) births) id) content_in
      ≡ option_map (value_to f) (along (slice_get births id) content_in)
  content_to births id = ap (λ o. along o content_in) (slice_get-map (held_to f) births id)
      ∙ along_in (slice_get births id)

  held_elements : (held : Held T) → elements_in (held_to f held) ≡ option_map (map (value_to f)) (elements_in held)
  held_elements nothing = refl
  held_elements (content one) = refl
  held_elements (elements values) = refl

  along_elements : (o : Option (Held T))
      → along (option_map (held_to f) o) elements_in ≡ option_map (map (value_to f)) (along o elements_in)
  along_elements None = refl
  along_elements (Some held) = held_elements held

  pub elements_to : (births : List (Held T)) (id : ℕ)
      → along (slice_get (map (held_to f) births) id) elements_in
      ≡ option_map (map (value_to f)) (along (slice_get births id) elements_in)
  elements_to births id = ap (λ o. along o elements_in) (slice_get-map (held_to f) births id)
      ∙ along_elements (slice_get births id)
