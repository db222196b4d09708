-- The memory of a running program as a forest: what each name holds, and what each open loan has of it. A
-- write borrow takes the tree that it lends with it, so of all that lead to a place the one that may use
-- it is the one root that has its tree.
use Rattle.std.specs.Prelude.{◌≡◌, ◌⊎◌, ℕ, zero, suc, ◌+◌, ◌<◌, ◌≤◌, ◌==◌, Bool, true, List, [], ◌∷◌, length}
use Rattle.std.specs.Prelude.{Option, Some, None, drop, slice_get, if◌then◌else◌, is_some, not}
use Rattle.au_effects.specs.Values.{Fields, Place, made, box, name_of}
use Rattle.au_effects.specs.References.{name_along}
use Rattle.au_places.specs.Memories.{Memory, held_at, later}
use Rattle.au_places.specs.Places.{Id, writer, in_node, in_place, content_place, part_at}
use Rattle.au_types.specs.Types.{Meaning}
use Rattle.au_memory.specs.Trees.{Value, Tree, Trees, a_writer, in_tree, in_trees, in_birth}
use Rattle.au_memory.specs.Loans.{Types, Via, named, lent_of, lent_through, part_of, reading, Loan, Table}
use Rattle.au_memory.specs.Loans.{IsLoan, parent_of}
use Rattle.au_memory.specs.Shown.{Shows, ShowsAll, Has, HasAll}

-- ---- roots

-- What a root holds: at a place a tree, whole; or all of it is lent, as this loan; or at a place lies a
-- box of which the content is lent; or at a place stands a value of a case whose first so many parts are
-- lent, one by one, as loans from this one on, and the other parts are here. A root of a read borrow holds
-- nothing: it sees what another holds.
pub data Held : Type 0 where
  whole : Place → Tree → Held
  all_lent : (loan : ℕ) → Held
  box_lent : Place → (born loan : ℕ) → Held
  parts_lent : Place → (tag : ℕ) (born : Option ℕ) (loan count : ℕ) → Trees → Held
  watching : Held

-- roots by number: those of names that hold something, and of open loans
abbrev pub Forest : Type 0
Forest = ℕ → Option Held

abbrev pub IsHere : Option Held → Type 0
IsHere None = ⊥
IsHere (Some h) = Unit {0}

-- ---- what is counted

-- how often an id counts in what a root holds: what is lent counts with the loan
abbrev pub in_held : Id → Held → ℕ
in_held id (whole to tree) = in_place id to + in_tree id tree
in_held id (all_lent loan) = 0
in_held id (box_lent to born loan) = in_place id to + in_birth id (Some born)
in_held id (parts_lent to tag born loan count rest) =
    in_node count id to + (in_birth id born + in_trees id rest)
in_held id watching = 0

abbrev pub in_root : Id → Option Held → ℕ
in_root id None = 0
in_root id (Some h) = in_held id h

-- in the first so many roots
abbrev pub in_forest : Id → ℕ → Forest → ℕ
in_forest id zero f = 0
in_forest id (suc n) f = in_root id (f n) + in_forest id n f

-- in trees of values that expressions under way have made
abbrev pub in_list : Id → List Tree → ℕ
in_list id [] = 0
in_list id (t ∷ ts) = in_tree id t + in_list id ts

-- a forest in which a root holds something else
abbrev pub with_root : ℕ → Option Held → Forest → Forest
with_root g held f = λ k. if g == k then held else f k

-- ---- names

-- How a name stands: it holds nothing; or it holds a value that may be used; or that is lent to write, until
-- this token ends; or that is lent to read, until these tokens end.
pub data Hold : Type 0 where
  empty : Hold
  ready : Hold
  shut : (token : ℕ) → Hold
  watched : (tokens : List ℕ) → Hold

abbrev pub Holds : Type 0
Holds = (frame name : ℕ) → Hold

-- a token is among those for which a name is watched
abbrev pub IsAmong : ℕ → List ℕ → Type 0
IsAmong z [] = ⊥
IsAmong z (y ∷ rest) = (z ≡ y) ⊎ IsAmong z rest

abbrev pub IsWatched : ℕ → Hold → Type 0
IsWatched z empty = ⊥
IsWatched z ready = ⊥
IsWatched z (shut y) = ⊥
IsWatched z (watched tokens) = IsAmong z tokens

-- the root of a name
abbrev pub Roots : Type 0
Roots = (frame name : ℕ) → ℕ

-- A name has a row: it is no loan, its place is all of the name, and its type is this one.
pub record IsNameRow (s : Table) (g frame name : ℕ) (t : Meaning) : Type 0 where
  pub row : Loan
  pub has : s g ≡ Some row
  pub is_named : row.via ≡ named
  pub at : row.to ≡ name_along frame name []
  pub typed : row.type ≡ t

abbrev pub IsWhole : Option Held → Type 0
IsWhole held = (to : Place) × (tree : Tree) × (held ≡ Some (whole to tree))

-- ---- what holds of each root

-- a loan lends all of a root
abbrev pub LendsAll : Via → ℕ → Type 0
LendsAll via k = (via ≡ lent_of k) ⊎ ((holder : ℕ) × (via ≡ lent_through holder k))

module _ (types : Types) (s : Table) (f : Forest) (m : Memory (List ℕ)) where
  -- a loan is a part of a root, lent there for this token, with this place and type, and open
  pub record IsPart (k z g : ℕ) (to : Place) (t : Meaning) : Type 0 where
    pub row : Loan
    pub has : s g ≡ Some row
    pub of_token : row.token ≡ z
    pub at : row.to ≡ to
    pub typed : row.type ≡ t
    pub from : row.via ≡ part_of k
    pub is_open : IsHere (f g)

  -- A root with this number and this row is what its row says. What it holds whole is a tree of its type,
  -- which stands at its place; what it has lent stands there too, and is of a loan that is open. A root of a
  -- read borrow has the place of what it sees.
  abbrev pub IsRooted : ℕ → Loan → Held → Type 0
  IsRooted k l (whole to tree) =
      (v : Value) × (to ≡ l.to) × Has types s tree l.type × (held_at m to ≡ Some v) × Shows types s m v tree
  IsRooted k l (all_lent g) =
      (n : Loan) × (s g ≡ Some n) × (n.to ≡ l.to) × (n.type ≡ l.type) × LendsAll n.via k × IsHere (f g)
  IsRooted k l (box_lent to born g) =
      (of : Meaning) × (to ≡ l.to) × (types.boxed l.type ≡ Some of) × (held_at m to ≡ Some (box born))
      × IsPart k l.token g (content_place born) of
  IsRooted k l (parts_lent to tag born g count rest) =
      (of : List Meaning) × (parts : Fields (List ℕ)) × (to ≡ l.to) × (types.fields l.type tag ≡ Some of)
      × (is_some born ≡ not (types.is_free l.type)) × (1 ≤ count) × (count ≤ length of)
      × HasAll types s rest (drop count of) × ShowsAll types s m (later count parts) rest
      × (held_at m to ≡ Some (made tag born parts))
      × ((j : ℕ) (t : Meaning) → j < count → slice_get of j ≡ Some t
      → IsPart k l.token (g + j) (part_at j to) t)
  IsRooted k l watching =
      (from : ℕ) × (tree : Tree) × (l.via ≡ reading from tree) × Has types s tree l.type
      × ((n : Loan) × (s from ≡ Some n) × (n.to ≡ l.to))

-- ---- what holds of each loan

-- what a root holds is lent in parts, of which a loan is one
abbrev pub IsPartLent : ℕ → Option Held → Type 0
IsPartLent g (Some (box_lent to born other)) = g ≡ other
IsPartLent g (Some (parts_lent to tag born first parts rest)) = (j : ℕ) × (j < parts) × (g ≡ first + j)
IsPartLent g other = ⊥

-- a name has this root, and stands so
pub record Names (hold : Holds) (root : Roots) (g : ℕ) (P : Hold → Type 0) : Type 0 where
  pub frame : ℕ
  pub name : ℕ
  pub is : root frame name ≡ g
  pub holds : P (hold frame name)

-- it holds something
abbrev pub IsFull : Hold → Type 0
IsFull empty = ⊥
IsFull other = Unit {0}

module _ (f : Forest) (hold : Holds) (root : Roots) (count : Id → ℕ) where
  -- A root that is here is held by the one from which it came. The root of a name is that of a name that
  -- holds something. What is lent of a name, or through a reference in a name, shuts that name until the
  -- token of the loan ends. A part is lent by a loan whose own reference is gone. What is read is whole,
  -- and its name is watched until the token ends.
  abbrev pub IsLent : ℕ → ℕ → Via → Type 0
  IsLent g z named = Names hold root g IsFull
  IsLent g z (lent_of k) = (f k ≡ Some (all_lent g)) × Names hold root k (λ h. h ≡ shut z)
  IsLent g z (lent_through holder k) =
      (to : Place) × (f holder ≡ Some (whole to (a_writer k))) × (f k ≡ Some (all_lent g))
      × Names hold root holder (λ h. h ≡ shut z)
  IsLent g z (part_of k) = IsPartLent g (f k) × (count (writer k) ≡ 0)
  IsLent g z (reading k tree) =
      (to : Place) × (f k ≡ Some (whole to tree)) × (f g ≡ Some watching) × Names hold root k (IsWatched z)

-- ---- what holds of each name

-- a loan lends from the root of a name, or through the reference in it
abbrev pub Shuts : Via → ℕ → Type 0
Shuts (lent_of k) r = k ≡ r
Shuts (lent_through holder k) r = holder ≡ r
Shuts other r = ⊥

module _ (types : Types) (s : Table) (f : Forest) (m : Memory (List ℕ)) (root : Roots) where
  -- A name that is empty holds no value. One that may be used has a root that is whole, and so has one
  -- that is read. One that is shut waits for a loan that is open, which lends from it.
  abbrev pub NameStands : ℕ → ℕ → Meaning → Hold → Type 0
  NameStands frame x t empty = m.at (name_of frame x) ≡ None
  NameStands frame x t ready = IsNameRow s (root frame x) frame x t × IsWhole (f (root frame x))
  NameStands frame x t (shut z) =
      IsNameRow s (root frame x) frame x t
      × ((g : ℕ) × (l : Loan) × (s g ≡ Some l) × (l.token ≡ z) × IsHere (f g) × Shuts l.via (root frame x))
  NameStands frame x t (watched tokens) =
      IsNameRow s (root frame x) frame x t × IsWhole (f (root frame x))

-- ---- the invariant of memory

-- values under way, the newest first, each with its type
abbrev pub Made : Type 0
Made = List (Value × Meaning)

-- trees show them and have their types
abbrev pub AreShown : Types → Table → Memory (List ℕ) → Made → List Tree → Type 0
AreShown types s m [] [] = Unit {0}
AreShown types s m [] (t ∷ ts) = ⊥
AreShown types s m (v ∷ vs) [] = ⊥
AreShown types s m (v ∷ vs) (t ∷ ts) =
    Shows types s m v.0 t × Has types s t v.1 × AreShown types s m vs ts

-- What every action keeps of memory. `clock` is the newest token; `scope` says which tokens have all their
-- loans open, and `act` which are open in some frame: they differ only while a token ends. `hold` and
-- `type` are how each name stands and the type that it has, and `under` are the values under way.
pub record Core (types : Types) (clock : ℕ) (scope act : ℕ → Bool) (hold : Holds)
    (type : ℕ → ℕ → Meaning) (under : Made) (s : Table) (m : Memory (List ℕ)) : Type 0 where
  pub forest : Forest
  pub top : ℕ
  pub root : Roots
  pub trees : List Tree
  pub shown : AreShown types s m under trees
  pub once : (id : Id) → in_forest id top forest + in_list id trees ≤ 1
  pub rooted : (k : ℕ) (h : Held) → forest k ≡ Some h
      → (l : Loan) × (s k ≡ Some l) × IsRooted types s forest m k l h
  pub names : (frame x : ℕ) → NameStands types s forest m root frame x (type frame x) (hold frame x)
  pub lent : (g : ℕ) (l : Loan) → s g ≡ Some l → IsHere (forest g)
      → IsLent forest hold root (λ id. in_forest id top forest + in_list id trees) g l.token l.via
  pub live : (g : ℕ) (l : Loan) → s g ≡ Some l → IsLoan l.via → scope l.token ≡ true → IsHere (forest g)
  pub active : (g : ℕ) (l : Loan) → s g ≡ Some l → IsLoan l.via → IsHere (forest g) → act l.token ≡ true
  pub known : (k : ℕ) → top ≤ k → s k ≡ None
  pub older : (g : ℕ) (l : Loan) (k : ℕ) → s g ≡ Some l → parent_of l.via ≡ Some k → k < g
  pub order : (g : ℕ) (l : Loan) (k : ℕ) (n : Loan) → s g ≡ Some l → parent_of l.via ≡ Some k → s k ≡ Some n
      → IsLoan n.via → n.token ≤ l.token
  pub ticked : (g : ℕ) (l : Loan) → s g ≡ Some l → l.token ≤ clock
  pub acted : (z : ℕ) → act z ≡ true → z ≤ clock
  pub scoped : (z : ℕ) → scope z ≡ true → act z ≡ true

-- A loan may be used: its root is whole, and its tree, which is of its type, is shown by what stands at
-- its place.
pub record Usable (types : Types) (s : Table) (f : Forest) (m : Memory (List ℕ)) (g : ℕ) (l : Loan) : Type 0
  where
    pub tree : Tree
    pub value : Value
    pub here : f g ≡ Some (whole l.to tree)
    pub typed : Has types s tree l.type
    pub there : held_at m l.to ≡ Some value
    pub shown : Shows types s m value tree
