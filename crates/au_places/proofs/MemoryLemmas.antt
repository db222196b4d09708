-- What stands at places of a memory in which something is written.
use Rattle.std.proofs.Common.{◌≡◌, ℕ, Bool, true, false, List, [], if◌then◌else◌}
use Rattle.std.proofs.Common.{refl, sym, ap, subst, ◌∙◌}
use Rattle.std.specs.Prelude.{Option, Some, None, option_map}
use Rattle.au_effects.specs.Parts.{along, part, with_part}
use Rattle.au_effects.specs.Values.{Base, Fields, Place, Value, made}
use Rattle.au_effects.proofs.PartLemmas.{part_put}
use Rattle.au_places.specs.Places.{cell_of, covers, in_node, in_place, same_base}
use Rattle.au_places.specs.Memories.{Memory, held_at, later, with_base, written}
use Rattle.au_places.proofs.PlaceLemmas.{self_base, base_is}
use Rattle.au_places.proofs.PartLemmas.{part_above, part_apart}

same_cell : (to other : Place) → same_base other.base to.base ≡ true → in_place (cell_of to) other ≡ 0
    → covers 0 other.path to.path ≡ 0
same_cell to other same h = let e : in_place (cell_of to) other ≡ covers 0 other.path to.path = rw same in
    sym e ∙ h

module _ {T : Type 0} where
  -- ---- names and boxes

  pub base_self : (m : Memory T) (base : Base) (o : Option (Value T)) → (with_base base o m).at base ≡ o
  base_self m base o = rw (self_base base)

  pub base_other : (m : Memory T) (base other : Base) (o : Option (Value T)) → same_base base other ≡ false
      → (with_base base o m).at other ≡ m.at other
  base_other m base other o apart = rw apart

  -- all of a name, or of the content of a box
  pub all_held : (m : Memory T) (base : Base) → held_at m (record { base = base; path = [] }) ≡ m.at base
  all_held m base = by (m.at base)
    where
      by : (o : Option (Value T)) → along o (part []) ≡ o
      by None = refl
      by (Some v) = refl

  -- ---- writing

  put_in : (path : List ℕ) (old new : Value T) (o : Option (Value T)) → along o (part path) ≡ Some old
      → along (option_map (with_part path new) o) (part path) ≡ Some new
  put_in path old new None h = absurd cc
  put_in path old new (Some v) h = part_put path new v old h

  pub write_stands : (m : Memory T) (to : Place) (old new : Value T) → held_at m to ≡ Some old
      → held_at (written to new m) to ≡ Some new
  write_stands m to old new h =
      ap (λ o. along o (part to.path)) (base_self m to.base (option_map (with_part to.path new) (m.at to.base)))
      ∙ put_in to.path old new (m.at to.base) h

  apart_in : (p q : List ℕ) (new : Value T) (o : Option (Value T)) → covers 0 p q ≡ 0 → covers 0 q p ≡ 0
      → along (option_map (with_part p new) o) (part q) ≡ along o (part q)
  apart_in p q new None h k = refl
  apart_in p q new (Some v) h k = part_apart p q new v h k

  pub write_apart : (m : Memory T) (to other : Place) (new : Value T)
      → in_place (cell_of to) other ≡ 0 → in_place (cell_of other) to ≡ 0
      → held_at (written to new m) other ≡ held_at m other
  write_apart m to other new h k = by (same_base to.base other.base) refl
    where
      o : Option (Value T)
      o = option_map (with_part to.path new) (m.at to.base)

      by : (t : Bool) → same_base to.base other.base ≡ t
          → along (if same_base to.base other.base then option_map (with_part to.path new) (m.at to.base)
          else m.at other.base) (part other.path) ≡ along (m.at other.base) (part other.path)
      by true e =
          let is = base_is to.base other.base e in
          let back : same_base other.base to.base ≡ true =
          subst (λ b. same_base b to.base ≡ true) is (self_base to.base) in
          rw e
          (apart_in to.path other.path new (m.at to.base) (same_cell other to e k) (same_cell to other back h)
          ∙ ap (λ b. along (m.at b) (part other.path)) is)
      by false e = rw e

  -- A value stands at a place that is of the same case, and whose fields from a number on are the same.
  pub record StaysMadeAt (m : Memory T) (to : Place) (n tag : ℕ) (born : Option ℕ) (parts : Fields T) : Type 0 where
    pub others : Fields T
    pub there : held_at m to ≡ Some (made tag born others)
    pub same : later n others ≡ later n parts

  above_in : (n : ℕ) (p q : List ℕ) (new : Value T) (tag : ℕ) (born : Option ℕ) (parts : Fields T)
      (o : Option (Value T)) → covers n q p ≡ 0 → covers 0 p q ≡ 0 → along o (part q) ≡ Some (made tag born parts)
      → (others : Fields T) × (along (option_map (with_part p new) o) (part q) ≡ Some (made tag born others))
      × (later n others ≡ later n parts)
  above_in n p q new tag born parts None h k there = absurd cc
  above_in n p q new tag born parts (Some v) h k there =
      let above = part_above n p q new v tag born parts h k there in
      (above.others, above.there, above.same)

  -- a value of a case stays one where something is written in one of its first parts, or apart from it
  pub write_above : (m : Memory T) (to other : Place) (n : ℕ) (new : Value T) (tag : ℕ) (born : Option ℕ)
      (parts : Fields T) → in_node n (cell_of to) other ≡ 0 → in_place (cell_of other) to ≡ 0
      → held_at m other ≡ Some (made tag born parts) → StaysMadeAt (written to new m) other n tag born parts
  write_above m to other n new tag born parts h k there = by (same_base to.base other.base) refl
    where
      node : same_base other.base to.base ≡ true → covers n other.path to.path ≡ 0
      node same =
          let e : in_node n (cell_of to) other ≡ covers n other.path to.path = rw same in sym e ∙ h

      by : (t : Bool) → same_base to.base other.base ≡ t → StaysMadeAt (written to new m) other n tag born parts
      by true e =
          let is = base_is to.base other.base e in
          let back : same_base other.base to.base ≡ true =
          subst (λ b. same_base b to.base ≡ true) is (self_base to.base) in
          let there' : along (m.at to.base) (part other.path) ≡ Some (made tag born parts) =
          subst (λ b. along (m.at b) (part other.path) ≡ Some (made tag born parts)) (sym is) there in
          let above = above_in n to.path other.path new tag born parts (m.at to.base) (node back)
          (same_cell other to e k) there' in
          let at : (written to new m).at other.base ≡ option_map (with_part to.path new) (m.at to.base) = rw e in
          record {
            others = above.0;
            there = ap (λ o. along o (part other.path)) at ∙ above.1;
            same = above.2;
          }
      by false e =
          let at : (written to new m).at other.base ≡ m.at other.base = rw e in
          record { others = parts; there = ap (λ o. along o (part other.path)) at ∙ there; same = refl }
