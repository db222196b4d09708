-- What read references see, and copies of what is Free.
use Rattle.std.specs.Prelude.{◌≡◌, ℕ, ◌+◌, Bool, true, List, [], ◌∷◌, Some, slice_get}
use Rattle.au_effects.specs.References.{name_along, place_along}
use Rattle.au_effects.specs.Values.{Place, box, name_of, reference}
use Rattle.au_places.specs.Memories.{Memory, held_at}
use Rattle.au_places.specs.Places.{Id, content_place}
use Rattle.au_running_types.specs.Running.{token}
use Rattle.au_types.specs.Types.{Meaning, reads, writes}
use Rattle.au_memory.specs.Forests.{Core, Holds, Made, in_forest, in_list}
use Rattle.au_memory.specs.Loans.{Types, Loan, Table, Point, LeadsTo, point_at}
use Rattle.au_memory.specs.Shown.{AreDeclared, AreLawful, Stands}
use Rattle.au_memory.specs.Trees.{Step, Value, field}
use Rattle.au_lending.specs.Laws.{BoxesAreAlone, IsReadable}
use Rattle.au_lending.specs.Parting.{CasesAreAlone}

-- ---- paths of fields

-- the steps of a path of fields
abbrev pub field_steps : List ℕ → List Step
field_steps [] = []
field_steps (i ∷ path) = field i ∷ field_steps path

-- A path of fields leads from a type to another: each type on the way is a record's, which has the one case
-- 0.
abbrev pub LeadsOn : Types → Meaning → List ℕ → Meaning → Type 0
LeadsOn types t [] u = t ≡ u
LeadsOn types t (i ∷ path) u =
    (of : List Meaning) × (next : Meaning) × (types.fields t 0 ≡ Some of)
    × ((tag : ℕ) (other : List Meaning) → types.fields t tag ≡ Some other → tag ≡ 0)
    × (slice_get of i ≡ Some next) × LeadsOn types next path u

-- ---- behind references

module _ (types : Types) (clock : ℕ) (scope act : ℕ → Bool) (hold : Holds) (type : ℕ → ℕ → Meaning)
    (r : Value) (t : Meaning) (z : ℕ) (under : Made) (s : Table) (m : Memory (List ℕ))
    (core : Core types clock scope act hold type ((r, reads t (token z)) ∷ under) s m) where
  -- The newest value is a reference of a read borrow: it leads to a point of what was lent, where a value
  -- of its type stands.
  pub record Sees : Type 0 where
    pub loan : ℕ
    pub steps : List Step
    pub row : Loan
    pub one : Point
    pub leads : LeadsTo types s loan steps row one
    pub of_token : z ≡ row.token
    pub typed : t ≡ one.type
    pub is : r ≡ reference row.borrow one.to
    pub stands : Stands types s m one

  -- So it is while its token is in scope.
  abbrev pub ReadersSee : Type 0
  ReadersSee = AreDeclared types → scope z ≡ true → Sees

  -- The reference gives way to one of the same borrow, to a point that steps lead to; and everything counts
  -- as it did.
  pub record Moved (borrow : ℕ) (to : Place) (u : Meaning) : Type 0 where
    pub after : Core types clock scope act hold type ((reference borrow to, reads u (token z)) ∷ under) s m
    pub counts : (id : Id)
        → in_forest id after.top after.forest + in_list id after.trees
        ≡ in_forest id core.top core.forest + in_list id core.trees

  -- It may be so to the end of each path of steps.
  abbrev pub ReadersMove : Type 0
  ReadersMove =
      AreDeclared types → (sees : Sees) (more : List Step) (two : Point)
      → point_at types more sees.one ≡ Some two → Moved sees.row.borrow two.to two.type

  -- It leads to a box, and gives way to a reference to the content: `boxGet`.
  pub record ContentSeen (of : Meaning) : Type 0 where
    pub borrow : ℕ
    pub to : Place
    pub born : ℕ
    pub is : r ≡ reference borrow to
    pub there : held_at m to ≡ Some (box born)
    pub moved : Moved borrow (content_place born) of

  abbrev pub ContentsAreSeen : Type 0
  ContentsAreSeen =
      AreDeclared types → BoxesAreAlone types → (of : Meaning) → types.boxed t ≡ Some of → scope z ≡ true
      → ContentSeen of

  -- What it leads to, or a part of that, is copied: the copy is under way in its place, and everything
  -- counts as it did.
  pub record Copied (path : List ℕ) (u : Meaning) : Type 0 where
    pub borrow : ℕ
    pub to : Place
    pub value : Value
    pub is : r ≡ reference borrow to
    pub there : held_at m (place_along to path) ≡ Some value
    pub after : Core types clock scope act hold type ((value, u) ∷ under) s m
    pub counts : (id : Id)
        → in_forest id after.top after.forest + in_list id after.trees
        ≡ in_forest id core.top core.forest + in_list id core.trees

  -- So it may be where the part is of a Free type, while the token of the reference is in scope.
  abbrev pub ReadersCopy : Type 0
  ReadersCopy =
      AreDeclared types → CasesAreAlone types → AreLawful types → (path : List ℕ) (u : Meaning)
      → LeadsOn types t path u → types.is_free u ≡ true → scope z ≡ true → Copied path u

-- ---- in names

module _ (types : Types) (clock : ℕ) (scope act : ℕ → Bool) (hold : Holds) (type : ℕ → ℕ → Meaning)
    (under : Made) (s : Table) (m : Memory (List ℕ)) (core : Core types clock scope act hold type under s m)
    (frame x : ℕ) where
  -- A copy of a part of what a name holds, or behind a reference in it, comes under way: it stands at this
  -- place, and everything counts as it did.
  pub record Looked (to : Place) (u : Meaning) : Type 0 where
    pub value : Value
    pub there : held_at m to ≡ Some value
    pub after : Core types clock scope act hold type ((value, u) ∷ under) s m
    pub counts : (id : Id)
        → in_forest id after.top after.forest + in_list id after.trees
        ≡ in_forest id core.top core.forest + in_list id core.trees

  -- So it may be where the name is ready, or lent to read, and the part is of a Free type.
  abbrev pub NamesAreLookedAt : Type 0
  NamesAreLookedAt =
      AreDeclared types → CasesAreAlone types → AreLawful types → IsReadable (hold frame x) → (path : List ℕ)
      (u : Meaning) → LeadsOn types (type frame x) path u → types.is_free u ≡ true
      → Looked (name_along frame x path) u

  -- The same behind a write reference in a name, while the region of its type is in scope.
  abbrev pub NamesLookBehind : Type 0
  NamesLookBehind =
      AreDeclared types → CasesAreAlone types → AreLawful types → IsReadable (hold frame x)
      → (t : Meaning) (z : ℕ)
      → type frame x ≡ writes t (token z) → scope z ≡ true → (path : List ℕ) (u : Meaning)
      → LeadsOn types t path u → types.is_free u ≡ true
      → (borrow : ℕ) × (to : Place) × (m.at (name_of frame x) ≡ Some (reference borrow to))
      × Looked (place_along to path) u
