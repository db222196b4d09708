-- What is lent, and what is known of types. A loan is a ghost with a number of its own: one for each borrow
-- that is opened, and one for each part that is lent on. Its row never changes, so what is said of it once
-- stays true.
use Rattle.std.specs.Prelude.{◌≡◌, ℕ, Bool, List, [], ◌∷◌, Option, Some, None, slice_get}
use Rattle.au_effects.specs.Parts.{along}
use Rattle.au_effects.specs.Values.{Place}
use Rattle.au_places.specs.Places.{content_place, part_at}
use Rattle.au_types.specs.Types.{Meaning}
use Rattle.au_memory.specs.Trees.{Step, field, inside, Tree, a_made, a_box}
use Rattle.au_memory.specs.Trees.{nth_tree}

-- ---- types

-- What is known of the types of a running program: the types of the fields of a case of a number, where
-- the type is well formed and has that case; the type of a box's content, and of a buffer's elements;
-- which types are those of the terminal and of the root; and which are Free.
pub record Types : Type 0 where
  pub fields : Meaning → ℕ → Option (List Meaning)
  pub boxed : Meaning → Option Meaning
  pub buffered : Meaning → Option Meaning
  pub is_terminal : Meaning → Bool
  pub is_root : Meaning → Bool
  pub is_free : Meaning → Bool

-- ---- loans

-- How a root came to be: it is that of a name; a name that is the root of this number was borrowed to
-- write, or the reference to a loan in such a name was borrowed again; it is a part of a loan; or a root
-- was borrowed to read, which held this tree.
pub data Via : Type 0 where
  named : Via
  lent_of : (from : ℕ) → Via
  lent_through : (holder from : ℕ) → Via
  part_of : (from : ℕ) → Via
  reading : (from : ℕ) → Tree → Via

-- A row: the borrow and the token, the place, and the type of what stands there; for a name the first two say
-- nothing.
pub record Loan : Type 0 where
  pub borrow : ℕ
  pub token : ℕ
  pub to : Place
  pub type : Meaning
  pub via : Via

-- the rows of roots, by number
abbrev pub Table : Type 0
Table = ℕ → Option Loan

-- rows stay
pub record Grows (s r : Table) : Type 0 where
  pub row : (g : ℕ) (l : Loan) → s g ≡ Some l → r g ≡ Some l

-- a root is a loan that writes; or any loan, and no name
abbrev pub IsWriter : Via → Type 0
IsWriter named = ⊥
IsWriter (lent_of from) = Unit {0}
IsWriter (lent_through holder from) = Unit {0}
IsWriter (part_of from) = Unit {0}
IsWriter (reading from tree) = ⊥

abbrev pub IsLoan : Via → Type 0
IsLoan named = ⊥
IsLoan (lent_of from) = Unit {0}
IsLoan (lent_through holder from) = Unit {0}
IsLoan (part_of from) = Unit {0}
IsLoan (reading from tree) = Unit {0}

-- what a root was lent from, if it is a loan
abbrev pub parent_of : Via → Option ℕ
parent_of named = None
parent_of (lent_of from) = Some from
parent_of (lent_through holder from) = Some from
parent_of (part_of from) = Some from
parent_of (reading from tree) = Some from

-- ---- what read borrows see

-- a point of a tree that was lent to read: what stands there, its type, and its place
pub record Point : Type 0 where
  pub tree : Tree
  pub type : Meaning
  pub to : Place

module _ (types : Types) where
  -- the field of a number, and the content of a box
  abbrev pub field_point : ℕ → Point → Tree → Option Point
  field_point index one (a_made tag born all) =
      along (types.fields one.type tag) (λ (of : List Meaning). along (slice_get of index) (λ (t : Meaning).
      along (nth_tree index all) (λ (part : Tree).
      Some (record { tree = part; type = t; to = part_at index one.to }))))
  field_point index one other = None

  abbrev pub inner_point : Point → Tree → Option Point
  inner_point one (a_box born content) =
      along (types.boxed one.type) (λ (t : Meaning).
      Some (record { tree = content; type = t; to = content_place born }))
  inner_point one other = None

  -- one step from a point, and steps
  abbrev pub step_point : Step → Point → Option Point
  step_point (field index) one = field_point index one one.tree
  step_point inside one = inner_point one one.tree

  abbrev pub point_at : List Step → Point → Option Point
  point_at [] one = Some one
  point_at (step ∷ steps) one = along (step_point step one) (point_at steps)

  -- where a read borrow of a tree begins
  abbrev pub start_of : Loan → Tree → Point
  start_of l tree = record { tree = tree; type = l.type; to = l.to }

  -- A reference of a read borrow leads to a point: its loan has this row, and is of a root that held a tree,
  -- in which the steps lead there.
  pub record LeadsTo (s : Table) (g : ℕ) (steps : List Step) (l : Loan) (one : Point) : Type 0 where
    pub row : s g ≡ Some l
    pub from : ℕ
    pub tree : Tree
    pub via : l.via ≡ reading from tree
    pub there : point_at steps (start_of l tree) ≡ Some one
