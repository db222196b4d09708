-- What is counted, each at most once: births, places and write references. And how often a place counts where
-- another is asked for.
use Rattle.std.specs.Prelude.{ℕ, ◌==◌, Bool, true, false, ◌&&◌, List, [], ◌∷◌, if◌then◌else◌, nat_le}
use Rattle.au_effects.specs.Values.{Base, Place, name_of, content_of}
use Rattle.au_effects.specs.References.{place_along}

-- What is held by one alone: a birth, by its number; a place; and the reference of a write borrow, by the
-- number of what it was lent as.
pub data Id : Type 0 where
  birth : ℕ → Id
  cell : Base → List ℕ → Id
  writer : ℕ → Id

-- the id of a place
abbrev pub cell_of : Place → Id
cell_of to = cell to.base to.path

-- one for what is so, and none for what isn't
abbrev pub one_if : Bool → ℕ
one_if true = 1
one_if false = 0

-- whether two places begin at the same name or box
abbrev pub same_base : Base → Base → Bool
same_base (name_of frame x) (name_of other y) = (frame == other) && (x == y)
same_base (content_of i) (content_of j) = i == j
same_base a b = false

-- Whether a path leads to the end of another or on from there, but not into one of so many first parts of
-- what stands there: 1 or 0. So with none left out a place covers itself and all its parts.
abbrev pub covers : ℕ → List ℕ → List ℕ → ℕ
covers left_out [] [] = 1
covers left_out [] (j ∷ p) = one_if (nat_le left_out j)
covers left_out (i ∷ q) [] = 0
covers left_out (i ∷ q) (j ∷ p) = if i == j then covers left_out q p else 0

-- How often an id counts at a place, where so many first parts of this are left out: an id that is no place
-- doesn't.
abbrev pub in_node : ℕ → Id → Place → ℕ
in_node left_out (birth n) to = 0
in_node left_out (cell base path) to = if same_base to.base base then covers left_out to.path path else 0
in_node left_out (writer g) to = 0

-- how often an id counts at a place with all its parts
abbrev pub in_place : Id → Place → ℕ
in_place id to = in_node 0 id to

-- the part of a number of what stands at a place
abbrev pub part_at : ℕ → Place → Place
part_at index to = place_along to (index ∷ [])

-- the place that is all of a box's content
abbrev pub content_place : ℕ → Place
content_place i = record { base = content_of i; path = [] }
