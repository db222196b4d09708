-- What is done to a store is done to its memory, and told.
use Rattle.std.specs.Prelude.{◌≡◌, ℕ, Bool, true, List, ◌∷◌, ◌++◌, length, Option, Some, None}
use Rattle.au_effects.specs.Calls.{with_elements}
use Rattle.au_effects.specs.Places.{exchanged, name_set}
use Rattle.au_effects.specs.Values.{Place, Value, content_of, name_of}
use Rattle.au_effects.specs.Worlds.{World, bears, closes, content, elements, ends, nothing, opens, spends}
use Rattle.au_effects.specs.Worlds.{tells, used}
use Rattle.au_places.specs.Memories.{held_at, with_base, with_items, written}
use Rattle.au_borrows.specs.Told.{Open, numbers, with_birth, with_closings, with_end, with_opening, with_use}
use Rattle.au_agreeing.specs.Stores.{HasName, memory_of, sizes_of, told_of}

module _ (T B : Type 0) where
  -- A name that its frame has is set.
  abbrev pub NamesAreSet : Type 0
  NamesAreSet =
      (w : World T B) (frame name : ℕ) (value : Option (Value T)) → HasName w frame name
      → (memory_of (name_set frame name value w) ≡ with_base (name_of frame name) value (memory_of w))
      × (sizes_of (name_set frame name value w) ≡ sizes_of w)

  -- What is exchanged at a place is written there.
  abbrev pub PlacesAreWritten : Type 0
  PlacesAreWritten =
      (w : World T B) (place : Place) (new old : Value T) → held_at (memory_of w) place ≡ Some old
      → (after : World T B) × (exchanged place new w ≡ Some (old, after))
      × (memory_of after ≡ written place new (memory_of w))
      × ((lying : List Open) → told_of lying after ≡ told_of lying w) × (after.keeps ≡ w.keeps)
      × (sizes_of after ≡ sizes_of w)

  -- The elements of a buffer are set.
  abbrev pub ItemsAreSet : Type 0
  ItemsAreSet =
      (w : World T B) (id : ℕ) (old values : List (Value T)) → (memory_of w).elements id ≡ Some old
      → (memory_of (with_elements id values w) ≡ with_items id (Some values) (memory_of w))
      × ((lying : List Open) → told_of lying (with_elements id values w) ≡ told_of lying w)

  -- A birth begins: there was no content and there were no elements of its number.
  abbrev pub BirthsBegin : Type 0
  BirthsBegin =
      (w : World T B) (of : B) (home : List ℕ)
      → ((memory_of w).at (content_of (length w.births)) ≡ None)
      × (memory_of (bears of home nothing w) ≡ memory_of w)
      × ((v : Value T) → memory_of (bears of home (content v) w)
      ≡ with_base (content_of (length w.births)) (Some v) (memory_of w))
      × ((vs : List (Value T)) → memory_of (bears of home (elements vs) w)
      ≡ with_items (length w.births) (Some vs) (memory_of w))

  -- It ends.
  abbrev pub BirthsEnd : Type 0
  BirthsEnd =
      (w : World T B) (id : ℕ)
      → ((v : Value T) → (memory_of w).at (content_of id) ≡ Some v
      → memory_of (ends id w) ≡ with_base (content_of id) None (memory_of w))
      × ((vs : List (Value T)) → (memory_of w).elements id ≡ Some vs
      → memory_of (ends id w) ≡ with_items id None (memory_of w))

  -- What is told of births and borrows, where deeds are kept.
  abbrev pub BirthsAreTold : Type 0
  BirthsAreTold =
      (w : World T B) → w.keeps ≡ true → (lying : List Open)
      → ((of : B) (home : List ℕ) → told_of lying (bears of home nothing w)
      ≡ with_birth of home (told_of lying w))
      × ((of : B) (home : List ℕ) (v : Value T)
      → told_of lying (bears of home (content v) w) ≡ with_birth of home (told_of lying w))
      × ((of : B) (home : List ℕ) (vs : List (Value T))
      → told_of lying (bears of home (elements vs) w) ≡ with_birth of home (told_of lying w))
      × ((id : ℕ) → told_of lying (ends id w) ≡ with_end id (told_of lying w))
      × ((id : ℕ) → told_of lying (spends (Some id) w) ≡ with_end id (told_of lying w))

  abbrev pub BorrowsAreTold : Type 0
  BorrowsAreTold =
      (w : World T B) → w.keeps ≡ true
      → ((lying : List Open) (writes : Bool) (place : Place)
      → told_of (record { number = w.borrows; writes = writes; place = place } ∷ lying) (opens w)
      ≡ with_opening writes place (told_of lying w))
      × ((lying : List Open) (b : ℕ) → told_of lying (tells (used b) w) ≡ with_use b (told_of lying w))
      × ((newer left : List Open)
      → told_of left (closes (numbers newer) w) ≡ with_closings newer left (told_of (newer ++ left) w))
