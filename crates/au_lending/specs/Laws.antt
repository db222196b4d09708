-- What actions on names make of memory.
use Rattle.std.specs.Prelude.{◌≡◌, ℕ, suc, ◌+◌, ◌≤◌, Bool, true, false, List, [], ◌∷◌, Some, None}
use Rattle.au_effects.specs.References.{name_along}
use Rattle.au_effects.specs.Values.{Place, box, content_of, name_of, reference}
use Rattle.au_places.specs.Memories.{Memory, held_at, with_base, written}
use Rattle.au_places.specs.Places.{Id, birth, content_place, in_place}
use Rattle.au_running_types.specs.Running.{token}
use Rattle.au_types.specs.Types.{Meaning, reads, writes}
use Rattle.au_memory.specs.Forests.{Core, Hold, Holds, Made, whole, empty, ready, shut, watched}
use Rattle.au_memory.specs.Forests.{in_forest, in_list}
use Rattle.au_memory.specs.Forests.{IsHere, LendsAll}
use Rattle.au_memory.specs.Loans.{Types, IsWriter, Loan, Table, Via, lent_of, lent_through, part_of, reading}
use Rattle.au_memory.specs.Shown.{Shows, Has, AreDeclared, AreLawful}
use Rattle.au_memory.specs.Trees.{Value, Tree, in_birth, in_tree, in_writer}
use Rattle.au_lending.specs.Holding.{name_row, with_hold, with_name, with_row, with_token}

module _ (types : Types) (clock : ℕ) (scope act : ℕ → Bool) (hold : Holds) (type : ℕ → ℕ → Meaning)
    (under : Made) (s : Table) (m : Memory (List ℕ)) (core : Core types clock scope act hold type under s m)
    (frame x : ℕ) where
  -- A name is mentioned and its value moved out of it: it held one, which is under way now, with the type
  -- of the name; the name holds nothing; and everything counts as it did, but for the place of the name.
  pub record Mentioned : Type 0 where
    pub value : Value
    pub there : m.at (name_of frame x) ≡ Some value
    pub after : Core types clock scope act (with_hold frame x empty hold) type
        ((value, type frame x) ∷ under) s (with_base (name_of frame x) None m)
    pub counts : (id : Id)
        → (in_forest id after.top after.forest + in_list id after.trees) + in_place id (name_along frame x [])
        ≡ in_forest id core.top core.forest + in_list id core.trees

  -- A name that is ready may be mentioned so.
  abbrev pub MentionsEmpty : Type 0
  MentionsEmpty = hold frame x ≡ ready → Mentioned

module _ (types : Types) (clock : ℕ) (scope act : ℕ → Bool) (hold : Holds) (type : ℕ → ℕ → Meaning)
    (v : Value) (t : Meaning) (under : Made) (s : Table) (m : Memory (List ℕ))
    (core : Core types clock scope act hold type ((v, t) ∷ under) s m) (frame x : ℕ) where
  -- A name takes the newest value under way, of whatever type: it has a new root, with a row of its own,
  -- and may be used; and everything counts as it did, but for the place of the name.
  pub record Filled : Type 0 where
    pub after : Core types clock scope act (with_hold frame x ready hold) (with_name frame x t type) under
        (with_row core.top (name_row frame x t) s) (with_base (name_of frame x) (Some v) m)
    pub counts : (id : Id)
        → in_forest id after.top after.forest + in_list id after.trees
        ≡ (in_forest id core.top core.forest + in_list id core.trees) + in_place id (name_along frame x [])

  -- A name that is empty may be filled so.
  abbrev pub NamesFill : Type 0
  NamesFill = hold frame x ≡ empty → Filled

-- ---- lending

-- the row of a loan of all that a root holds: of this borrow and this token, at the root's place and of
-- its type
abbrev pub lent_row : ℕ → ℕ → Loan → Via → Loan
lent_row b z l via = record { borrow = b; token = z; to = l.to; type = l.type; via = via }

module _ (types : Types) (clock : ℕ) (scope act : ℕ → Bool) (hold : Holds) (type : ℕ → ℕ → Meaning)
    (under : Made) (s : Table) (m : Memory (List ℕ)) (core : Core types clock scope act hold type under s m)
    (frame x : ℕ) (b z : ℕ) where
  -- All that a root of this row holds is lent to write, as a borrow and for a token: its reference is
  -- under way, the name that it is lent from is shut until the token ends, and everything counts as it
  -- did, but for the reference.
  pub record Lent (l : Loan) (via : Via) : Type 0 where
    pub after : Core types clock scope act (with_hold frame x (shut z) hold) type
        ((reference b l.to, writes l.type (token z)) ∷ under) (with_row core.top (lent_row b z l via) s) m
    pub counts : (id : Id)
        → in_forest id after.top after.forest + in_list id after.trees
        ≡ (in_forest id core.top core.forest + in_list id core.trees) + in_writer id core.top

  -- A name that is ready may be lent to write for a token that is active: `&!x`, and a borrow statement.
  abbrev pub NamesLend : Type 0
  NamesLend =
      hold frame x ≡ ready → act z ≡ true
      → (l : Loan) × (s (core.root frame x) ≡ Some l) × (l.type ≡ type frame x)
      × (l.to ≡ name_along frame x [])
      × Lent l (lent_of (core.root frame x))

-- ---- values under way

module _ (types : Types) (clock : ℕ) (scope act : ℕ → Bool) (hold : Holds) (type : ℕ → ℕ → Meaning)
    (under : Made) (s : Table) (m : Memory (List ℕ)) (core : Core types clock scope act hold type under s m)
    (v : Value) (t : Meaning) where
  -- One more value is under way, which counts for nothing.
  pub record Pushed : Type 0 where
    pub after : Core types clock scope act hold type ((v, t) ∷ under) s m
    pub counts : (id : Id)
        → in_forest id after.top after.forest + in_list id after.trees
        ≡ in_forest id core.top core.forest + in_list id core.trees

  -- So it is of a value of a Free type that is shown.
  abbrev pub FreeValuesPush : Type 0
  FreeValuesPush =
      AreLawful types → types.is_free t ≡ true → (tree : Tree) → Shows types s m v tree → Has types s tree t
      → Pushed

module _ (types : Types) (clock : ℕ) (scope act : ℕ → Bool) (hold : Holds) (type : ℕ → ℕ → Meaning)
    (v : Value) (t : Meaning) (under : Made) (s : Table) (m : Memory (List ℕ))
    (core : Core types clock scope act hold type ((v, t) ∷ under) s m) where
  -- The newest value under way is there no more: what it holds counts for nothing from now on.
  pub record Dropped : Type 0 where
    pub tree : Tree
    pub shown : Shows types s m v tree
    pub typed : Has types s tree t
    pub after : Core types clock scope act hold type under s m
    pub counts : (id : Id)
        → (in_forest id after.top after.forest + in_list id after.trees) + in_tree id tree
        ≡ in_forest id core.top core.forest + in_list id core.trees

module _ (types : Types) (clock : ℕ) (scope act : ℕ → Bool) (hold : Holds) (type : ℕ → ℕ → Meaning)
    (under : Made) (s : Table) (m : Memory (List ℕ)) (core : Core types clock scope act hold type under s m)
    (frame x b z : ℕ) (t : Meaning) (y : ℕ) where
  -- The reference in a name, to something of this type and for this token, is lent again: the name holds the
  -- reference of a loan of this row, all of which is lent.
  pub record LendsAgain : Type 0 where
    pub loan : ℕ
    pub row : Loan
    pub has : s loan ≡ Some row
    pub typed : row.type ≡ t
    pub of_token : row.token ≡ y
    pub there : m.at (name_of frame x) ≡ Some (reference row.borrow row.to)
    pub lent : Lent types clock scope act hold type under s m core frame x b z row
        (lent_through (core.root frame x) loan)

  -- So it may be where the name is ready, the region of its type is in scope, and the new token isn't
  -- older: `&~r`.
  abbrev pub ReferencesLend : Type 0
  ReferencesLend =
      AreDeclared types → hold frame x ≡ ready → type frame x ≡ writes t (token y) → scope y ≡ true
      → act z ≡ true → y ≤ z → LendsAgain

-- ---- uses

module _ (types : Types) (clock : ℕ) (scope act : ℕ → Bool) (hold : Holds) (type : ℕ → ℕ → Meaning)
    (new : Value) (t : Meaning) (r : Value) (z : ℕ) (under : Made) (s : Table) (m : Memory (List ℕ))
    (core : Core types clock scope act hold type ((new, t) ∷ (r, writes t (token z)) ∷ under) s m) where
  -- A value is put behind a write reference, for what stood there: the reference leads to a place where
  -- something stands, which is under way now, with the type of the new value; and everything counts as it
  -- did, but for the reference.
  pub record Swapped : Type 0 where
    pub borrow : ℕ
    pub to : Place
    pub old : Value
    pub loan : ℕ
    pub leads : r ≡ reference borrow to
    pub there : held_at m to ≡ Some old
    pub after : Core types clock scope act hold type ((old, t) ∷ under) s (written to new m)
    pub counts : (id : Id)
        → (in_forest id after.top after.forest + in_list id after.trees) + in_writer id loan
        ≡ in_forest id core.top core.forest + in_list id core.trees

  -- So it may be while the token of the reference is in scope.
  abbrev pub ReferencesSwap : Type 0
  ReferencesSwap = AreDeclared types → scope z ≡ true → Swapped

-- ---- tokens

module _ (types : Types) (clock : ℕ) (scope act : ℕ → Bool) (hold : Holds) (type : ℕ → ℕ → Meaning)
    (under : Made) (s : Table) (m : Memory (List ℕ))
    (core : Core types clock scope act hold type under s m) where
  -- A token begins: it is newer than all others, in scope and active, and all else is as it was.
  pub record Begun : Type 0 where
    pub after : Core types (suc clock) (with_token (suc clock) scope) (with_token (suc clock) act) hold type
        under s m
    pub counts : (id : Id)
        → in_forest id after.top after.forest + in_list id after.trees
        ≡ in_forest id core.top core.forest + in_list id core.trees

module _ (types : Types) (clock : ℕ) (scope act : ℕ → Bool) (hold : Holds) (type : ℕ → ℕ → Meaning)
    (under : Made) (s : Table) (m : Memory (List ℕ))
    (core : Core types clock scope act hold type under s m) where
  -- A loan of a token has ended: the name that it was lent from, or through, was shut for that token, and
  -- may be used again; it is here no more, and the others that are here were so; memory is as it was, and
  -- everything counts as it did.
  pub record Ended (g z : ℕ) : Type 0 where
    pub frame : ℕ
    pub name : ℕ
    pub was : hold frame name ≡ shut z
    pub after : Core types clock scope act (with_hold frame name ready hold) type under s m
    pub were : (j : ℕ) → IsHere (after.forest j) → (g ≡ j → ⊥) × IsHere (core.forest j)
    pub counts : (id : Id)
        → in_forest id after.top after.forest + in_list id after.trees
        ≡ in_forest id core.top core.forest + in_list id core.trees

  -- A loan of all that a root held may end so when its own root is whole, so that what it lent on has
  -- ended, and its token isn't in scope.
  abbrev pub LoansEnd : Type 0
  LoansEnd =
      (g : ℕ) (l : Loan) (tree : Tree) (k : ℕ) → s g ≡ Some l → core.forest g ≡ Some (whole l.to tree)
      → LendsAll l.via k → scope l.token ≡ false → Ended g l.token

-- ---- read borrows

-- a name that is ready, or lent to read, may be lent to read
abbrev pub IsReadable : Hold → Type 0
IsReadable empty = ⊥
IsReadable ready = Unit {0}
IsReadable (shut z) = ⊥
IsReadable (watched tokens) = Unit {0}

-- it is watched for one token more
abbrev pub also_watched : ℕ → Hold → Hold
also_watched z empty = empty
also_watched z ready = watched (z ∷ [])
also_watched z (shut y) = shut y
also_watched z (watched tokens) = watched (z ∷ tokens)

-- the row of a read borrow of a name: the tree that the name held stays in it
abbrev pub read_row : ℕ → ℕ → ℕ → ℕ → Meaning → ℕ → Tree → Loan
read_row b z frame x t root tree =
    record { borrow = b; token = z; to = name_along frame x []; type = t; via = reading root tree }

module _ (types : Types) (clock : ℕ) (scope act : ℕ → Bool) (hold : Holds) (type : ℕ → ℕ → Meaning)
    (under : Made) (s : Table) (m : Memory (List ℕ)) (core : Core types clock scope act hold type under s m)
    (frame x b z : ℕ) where
  -- A name is lent to read: what it holds stays there, its reference is under way, the name is watched
  -- until the token ends, and everything counts as it did.
  pub record Read : Type 0 where
    pub tree : Tree
    pub value : Value
    pub there : m.at (name_of frame x) ≡ Some value
    pub shown : Shows types s m value tree
    pub typed : Has types s tree (type frame x)
    pub after : Core types clock scope act (with_hold frame x (also_watched z (hold frame x)) hold) type
        ((reference b (name_along frame x []), reads (type frame x) (token z)) ∷ under)
        (with_row core.top (read_row b z frame x (type frame x) (core.root frame x) tree) s) m
    pub counts : (id : Id)
        → in_forest id after.top after.forest + in_list id after.trees
        ≡ in_forest id core.top core.forest + in_list id core.trees

  -- So it may be for a token that is active: `&x`, and a borrow statement.
  abbrev pub NamesAreRead : Type 0
  NamesAreRead = IsReadable (hold frame x) → act z ≡ true → Read

-- ---- parts

-- the row of a part of what a loan holds: of its borrow and its token
abbrev pub part_row : ℕ → Loan → Place → Meaning → Loan
part_row g l to t = record { borrow = l.borrow; token = l.token; to = to; type = t; via = part_of g }

-- ---- boxes

-- A type of boxes is no other.
pub record BoxesAreAlone (types : Types) : Type 0 where
  pub fields : (t of : Meaning) (tag : ℕ) (parts : List Meaning) → types.boxed t ≡ Some of
      → types.fields t tag ≡ Some parts → ⊥
  pub buffers : (t of item : Meaning) → types.boxed t ≡ Some of → types.buffered t ≡ Some item → ⊥
  pub terminals : (t of : Meaning) → types.boxed t ≡ Some of → types.is_terminal t ≡ true → ⊥
  pub roots : (t of : Meaning) → types.boxed t ≡ Some of → types.is_root t ≡ true → ⊥

module _ (types : Types) (clock : ℕ) (scope act : ℕ → Bool) (hold : Holds) (type : ℕ → ℕ → Meaning)
    (v : Value) (t of : Meaning) (under : Made) (s : Table) (m : Memory (List ℕ))
    (core : Core types clock scope act hold type ((v, t) ∷ under) s m) where
  -- A box is opened: the newest value is one, and its content is under way in its place; the box is no
  -- more, and everything counts as it did, but for its birth and for the place that was its content.
  pub record Unboxed : Type 0 where
    pub born : ℕ
    pub value : Value
    pub is_box : v ≡ box born
    pub there : m.at (content_of born) ≡ Some value
    pub after : Core types clock scope act hold type ((value, of) ∷ under) s
        (with_base (content_of born) None m)
    pub counts : (id : Id)
        → (in_forest id after.top after.forest + in_list id after.trees)
        + (in_birth id (Some born) + in_place id (content_place born))
        ≡ in_forest id core.top core.forest + in_list id core.trees

  abbrev pub BoxesOpen : Type 0
  BoxesOpen = AreDeclared types → BoxesAreAlone types → types.boxed t ≡ Some of → Unboxed

module _ (types : Types) (clock : ℕ) (scope act : ℕ → Bool) (hold : Holds) (type : ℕ → ℕ → Meaning)
    (v : Value) (of : Meaning) (under : Made) (s : Table) (m : Memory (List ℕ))
    (core : Core types clock scope act hold type ((v, of) ∷ under) s m) (t : Meaning) (i : ℕ) where
  -- A box is made of the newest value, with this birth: everything counts as it did, but for that and for
  -- the place that is its content.
  pub record Boxed : Type 0 where
    pub after : Core types clock scope act hold type ((box i, t) ∷ under) s
        (with_base (content_of i) (Some v) m)
    pub counts : (id : Id)
        → in_forest id after.top after.forest + in_list id after.trees
        ≡ (in_forest id core.top core.forest + in_list id core.trees)
        + (in_birth id (Some i) + in_place id (content_place i))

  -- So it may be where there is no such birth yet.
  abbrev pub BoxesAreMade : Type 0
  BoxesAreMade =
      types.boxed t ≡ Some of → m.at (content_of i) ≡ None
      → in_forest (birth i) core.top core.forest + in_list (birth i) core.trees ≡ 0 → Boxed

module _ (types : Types) (clock : ℕ) (scope act : ℕ → Bool) (hold : Holds) (type : ℕ → ℕ → Meaning)
    (r : Value) (t of : Meaning) (z : ℕ) (under : Made) (s : Table) (m : Memory (List ℕ))
    (core : Core types clock scope act hold type ((r, writes t (token z)) ∷ under) s m) where
  -- The content of a box behind a write reference is lent: the reference leads to a box, and one of the
  -- same borrow to the box's content is under way instead; everything counts as it did, but for the two.
  pub record ContentLent : Type 0 where
    pub loan : ℕ
    pub row : Loan
    pub born : ℕ
    pub has : s loan ≡ Some row
    pub writer : IsWriter row.via
    pub typed : t ≡ row.type
    pub of_token : z ≡ row.token
    pub leads : r ≡ reference row.borrow row.to
    pub there : held_at m row.to ≡ Some (box born)
    pub after : Core types clock scope act hold type
        ((reference row.borrow (content_place born), writes of (token row.token)) ∷ under)
        (with_row core.top (part_row loan row (content_place born) of) s) m
    pub counts : (id : Id)
        → (in_forest id after.top after.forest + in_list id after.trees) + in_writer id loan
        ≡ (in_forest id core.top core.forest + in_list id core.trees) + in_writer id core.top

  -- So it may be while the token of the reference is in scope.
  abbrev pub ContentsAreLent : Type 0
  ContentsAreLent =
      AreDeclared types → BoxesAreAlone types → types.boxed t ≡ Some of → scope z ≡ true → ContentLent
