-- Buffers are made and ended, and elements are put into them and taken out.
use Rattle.std.specs.Prelude.{◌≡◌, ℕ, ◌+◌, Bool, true, List, [], ◌∷◌, ◌++◌, Some, None}
use Rattle.au_effects.specs.Values.{Place, buffer, reference}
use Rattle.au_places.specs.Memories.{Memory, held_at, with_items}
use Rattle.au_places.specs.Places.{Id, birth}
use Rattle.au_running_types.specs.Running.{token}
use Rattle.au_types.specs.Types.{Meaning, reads, writes}
use Rattle.au_memory.specs.Forests.{Core, Holds, Made, in_forest, in_list}
use Rattle.au_memory.specs.Loans.{Types, Table}
use Rattle.au_memory.specs.Shown.{AreDeclared, AreLawful}
use Rattle.au_memory.specs.Trees.{Value, in_birth, in_writer}

-- A type of buffers is no other.
pub record BuffersAreAlone (types : Types) : Type 0 where
  pub fields : (t of : Meaning) (tag : ℕ) (parts : List Meaning) → types.buffered t ≡ Some of
      → types.fields t tag ≡ Some parts → ⊥
  pub boxes : (t of content : Meaning) → types.buffered t ≡ Some of → types.boxed t ≡ Some content → ⊥
  pub terminals : (t of : Meaning) → types.buffered t ≡ Some of → types.is_terminal t ≡ true → ⊥
  pub roots : (t of : Meaning) → types.buffered t ≡ Some of → types.is_root t ≡ true → ⊥

-- ---- under way

module _ (types : Types) (clock : ℕ) (scope act : ℕ → Bool) (hold : Holds) (type : ℕ → ℕ → Meaning)
    (under : Made) (s : Table) (m : Memory (List ℕ)) (core : Core types clock scope act hold type under s m)
    (t of : Meaning) (i : ℕ) where
  -- A buffer without elements is made, with this birth: everything counts as it did, but for that.
  pub record BufferMade : Type 0 where
    pub after : Core types clock scope act hold type ((buffer i, t) ∷ under) s (with_items i (Some []) m)
    pub counts : (id : Id)
        → in_forest id after.top after.forest + in_list id after.trees
        ≡ (in_forest id core.top core.forest + in_list id core.trees) + in_birth id (Some i)

  -- So it may be where there is no such birth yet.
  abbrev pub BuffersAreMade : Type 0
  BuffersAreMade =
      types.buffered t ≡ Some of
      → in_forest (birth i) core.top core.forest + in_list (birth i) core.trees ≡ 0 → BufferMade

module _ (types : Types) (clock : ℕ) (scope act : ℕ → Bool) (hold : Holds) (type : ℕ → ℕ → Meaning)
    (v : Value) (t of : Meaning) (under : Made) (s : Table) (m : Memory (List ℕ))
    (core : Core types clock scope act hold type ((v, t) ∷ under) s m) where
  -- The newest value is a buffer, which is no more: everything counts as it did, but for its birth.
  pub record BufferGone (born : ℕ) : Type 0 where
    pub after : Core types clock scope act hold type under s (with_items born None m)
    pub counts : (id : Id)
        → (in_forest id after.top after.forest + in_list id after.trees) + in_birth id (Some born)
        ≡ in_forest id core.top core.forest + in_list id core.trees

  -- The newest value is a buffer, which may go where it has no elements.
  pub record BufferEnds : Type 0 where
    pub born : ℕ
    pub items : List Value
    pub is_buffer : v ≡ buffer born
    pub there : m.elements born ≡ Some items
    pub gone : items ≡ [] → BufferGone born

  abbrev pub BuffersEnd : Type 0
  BuffersEnd = AreDeclared types → BuffersAreAlone types → types.buffered t ≡ Some of → BufferEnds

-- ---- behind write references

-- A reference leads to a buffer with these elements.
pub record LeadsToItems (m : Memory (List ℕ)) (r : Value) (born : ℕ) (items : List Value) : Type 0 where
  pub borrow : ℕ
  pub to : Place
  pub is : r ≡ reference borrow to
  pub there : held_at m to ≡ Some (buffer born)
  pub holds : m.elements born ≡ Some items

module _ (types : Types) (clock : ℕ) (scope act : ℕ → Bool) (hold : Holds) (type : ℕ → ℕ → Meaning)
    (new r : Value) (t of : Meaning) (z : ℕ) (under : Made) (s : Table) (m : Memory (List ℕ))
    (core : Core types clock scope act hold type ((new, of) ∷ (r, writes t (token z)) ∷ under) s m) where
  -- The buffer behind a write reference gets other elements, and other values are under way: everything
  -- counts as it did, but for the reference.
  pub record Refilled (born loan : ℕ) (items : List Value) (now : Made) : Type 0 where
    pub after : Core types clock scope act hold type now s (with_items born (Some items) m)
    pub counts : (id : Id)
        → (in_forest id after.top after.forest + in_list id after.trees) + in_writer id loan
        ≡ in_forest id core.top core.forest + in_list id core.trees

  -- The newest value becomes the last element, or is exchanged for one.
  pub record PutsItems : Type 0 where
    pub born : ℕ
    pub loan : ℕ
    pub items : List Value
    pub leads : LeadsToItems m r born items
    pub inserted : Refilled born loan (items ++ new ∷ []) under
    pub replaced : (front back : List Value) (old : Value) → items ≡ front ++ old ∷ back
        → Refilled born loan (front ++ new ∷ back) ((old, of) ∷ under)

  -- So it may be while the token of the reference is in scope.
  abbrev pub ItemsArePut : Type 0
  ItemsArePut =
      AreDeclared types → BuffersAreAlone types → types.buffered t ≡ Some of → scope z ≡ true → PutsItems

module _ (types : Types) (clock : ℕ) (scope act : ℕ → Bool) (hold : Holds) (type : ℕ → ℕ → Meaning)
    (r : Value) (t of : Meaning) (z : ℕ) (under : Made) (s : Table) (m : Memory (List ℕ))
    (core : Core types clock scope act hold type ((r, writes t (token z)) ∷ under) s m) where
  -- The last element is taken out and is under way instead of the reference: everything counts as it did,
  -- but for that.
  pub record Removed (born loan : ℕ) (front : List Value) (last : Value) : Type 0 where
    pub after : Core types clock scope act hold type ((last, of) ∷ under) s (with_items born (Some front) m)
    pub counts : (id : Id)
        → (in_forest id after.top after.forest + in_list id after.trees) + in_writer id loan
        ≡ in_forest id core.top core.forest + in_list id core.trees

  -- A write reference leads to a buffer, whose last element may be taken.
  pub record TakesItems : Type 0 where
    pub born : ℕ
    pub loan : ℕ
    pub items : List Value
    pub leads : LeadsToItems m r born items
    pub taken : (front : List Value) (last : Value) → items ≡ front ++ last ∷ []
        → Removed born loan front last

  -- So it may be while the token of the reference is in scope.
  abbrev pub ItemsAreTaken : Type 0
  ItemsAreTaken =
      AreDeclared types → BuffersAreAlone types → types.buffered t ≡ Some of → scope z ≡ true → TakesItems

-- ---- behind read references

module _ (types : Types) (clock : ℕ) (scope act : ℕ → Bool) (hold : Holds) (type : ℕ → ℕ → Meaning)
    (r : Value) (t : Meaning) (z : ℕ) (under : Made) (s : Table) (m : Memory (List ℕ))
    (core : Core types clock scope act hold type ((r, reads t (token z)) ∷ under) s m) where
  -- A copy of an element is under way in the place of the reference, and everything counts as it did.
  pub record ItemCopied (of : Meaning) (v : Value) : Type 0 where
    pub after : Core types clock scope act hold type ((v, of) ∷ under) s m
    pub counts : (id : Id)
        → in_forest id after.top after.forest + in_list id after.trees
        ≡ in_forest id core.top core.forest + in_list id core.trees

  -- The reference leads to a buffer, whose elements may be copied where they are Free.
  pub record SeesItems (of : Meaning) : Type 0 where
    pub born : ℕ
    pub items : List Value
    pub leads : LeadsToItems m r born items
    pub copied : AreLawful types → types.is_free of ≡ true → (front back : List Value) (v : Value)
        → items ≡ front ++ v ∷ back → ItemCopied of v

  -- So it is while its token is in scope.
  abbrev pub ItemsAreSeen : Type 0
  ItemsAreSeen =
      AreDeclared types → BuffersAreAlone types → (of : Meaning) → types.buffered t ≡ Some of → scope z ≡ true
      → SeesItems of
