-- Where references are held, and which places overlap: what it is that borrows are exclusive.
use Rattle.std.specs.Prelude.{◌≡◌, ◌≢◌, ◌⊎◌, ◌<◌, ℕ, Bool, true, List, [], ◌∷◌, ◌++◌, Option, Some, slice_get}
use Rattle.au_effects.specs.Parts.{nth_field}
use Rattle.au_effects.specs.References.{place_along}
use Rattle.au_effects.specs.Values.{Fields, Place, box, buffer, content_of, made, name_of, reference}
use Rattle.au_places.specs.Memories.{Memory, held_at}
use Rattle.au_places.specs.Places.{content_place}
use Rattle.au_types.specs.Types.{Meaning}
use Rattle.au_memory.specs.Forests.{Core, Holds, Made}
use Rattle.au_memory.specs.Loans.{Loan, Table, Types, Via, part_of, reading, IsLoan, IsWriter, parent_of}
use Rattle.au_memory.specs.Trees.{Tree, Value}

-- ---- where values are held

-- what holds a value: a name of a frame, a box, or a buffer, by the number of the element
pub data Holder : Type 0 where
  in_name : (frame name : ℕ) → Holder
  in_box : (birth : ℕ) → Holder
  in_buffer : (birth index : ℕ) → Holder

-- a spot: what holds the value there, and the numbers of the fields from there on
pub record Spot : Type 0 where
  pub holder : Holder
  pub path : List ℕ

-- all that is held, and the field of a number of what is held at a spot
abbrev pub all_of : Holder → Spot
all_of holder = record { holder = holder; path = [] }

abbrev pub field_spot : Spot → ℕ → Spot
field_spot at index = record { holder = at.holder; path = at.path ++ index ∷ [] }

module _ (m : Memory (List ℕ)) where
  -- A value is held at a spot: it is that of a name, a field of a value that is held, what lies in a box
  -- that is held, or an element of a buffer that is held.
  pub data IsHeldAt : Spot → Value → Type 0 where
    of_name : (frame name : ℕ) (v : Value) → m.at (name_of frame name) ≡ Some v
        → IsHeldAt (all_of (in_name frame name)) v
    of_field : (at : Spot) (tag : ℕ) (birth : Option ℕ) (fields : Fields (List ℕ)) (index : ℕ) (v : Value)
        → IsHeldAt at (made tag birth fields) → nth_field index fields ≡ Some v
        → IsHeldAt (field_spot at index) v
    of_box : (at : Spot) (birth : ℕ) (v : Value) → IsHeldAt at (box birth) → m.at (content_of birth) ≡ Some v
        → IsHeldAt (all_of (in_box birth)) v
    of_buffer : (at : Spot) (birth : ℕ) (all : List Value) (index : ℕ) (v : Value)
        → IsHeldAt at (buffer birth)
        → m.elements birth ≡ Some all → slice_get all index ≡ Some v
        → IsHeldAt (all_of (in_buffer birth index)) v

  -- ---- places

  -- A place lies under another: it is at the end of a path from there; or a box stands at a place that lies
  -- under the other, and it lies in the box's content.
  pub data LiesUnder (outer : Place) : Place → Type 0 where
    on_from : (path : List ℕ) → LiesUnder outer (place_along outer path)
    in_content : (to : Place) (birth : ℕ) (path : List ℕ) → LiesUnder outer to
        → held_at m to ≡ Some (box birth)
        → LiesUnder outer (place_along (content_place birth) path)

  -- two places overlap
  abbrev pub Overlap : Place → Place → Type 0
  Overlap one other = LiesUnder one other ⊎ LiesUnder other one

-- ---- the borrows of loans

-- a loan that was lent from another so is of its borrow, where it is a part of it, and else of a later one
abbrev pub IsLater : Via → ℕ → ℕ → Type 0
IsLater (part_of from) borrow other = borrow ≡ other
IsLater via borrow other = borrow < other

-- So it is with each loan of a table that was lent from a loan.
abbrev pub BorrowsAreOrdered : Table → Type 0
BorrowsAreOrdered s =
    (g : ℕ) (l : Loan) (k : ℕ) (n : Loan) → s g ≡ Some l → parent_of l.via ≡ Some k → s k ≡ Some n
    → IsLoan n.via
    → IsLater l.via n.borrow l.borrow

-- ---- exclusive borrows

module _ (types : Types) (clock : ℕ) (scope act : ℕ → Bool) (hold : Holds) (type : ℕ → ℕ → Meaning)
    (under : Made) (s : Table) (m : Memory (List ℕ)) (core : Core types clock scope act hold type under s m)
  where
    -- each loan of a borrow writes, and its token is in scope
    abbrev pub OnlyWrites : ℕ → Type 0
    OnlyWrites b =
        (g : ℕ) (l : Loan) → s g ≡ Some l → IsLoan l.via → l.borrow ≡ b
        → IsWriter l.via × (scope l.token ≡ true)

    -- Of the references that are held for such a borrow, no two have overlapping places.
    abbrev pub WritersAreApart : Type 0
    WritersAreApart =
        BorrowsAreOrdered s → (b : ℕ) → OnlyWrites b → (one other : Spot) (p q : Place) → one ≢ other
        → IsHeldAt m one (reference b p) → IsHeldAt m other (reference b q) → Overlap m p q → ⊥

    -- Nor does the place of one of them overlap that of a read borrow of a token that is in scope.
    abbrev pub WritersAreApartFromReads : Type 0
    WritersAreApartFromReads =
        (b : ℕ) → OnlyWrites b → (spot : Spot) (p : Place) → IsHeldAt m spot (reference b p)
        → (r : ℕ) (n : Loan) (from : ℕ) (tree : Tree) → s r ≡ Some n → n.via ≡ reading from tree
        → scope n.token ≡ true → Overlap m p n.to → ⊥
