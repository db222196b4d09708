-- Which value a tree shows in a memory, and which type a tree has.
use Rattle.std.specs.Prelude.{◌≡◌, ℕ, true, not, int_le, is_some, List, [], ◌∷◌, Some}
use Rattle.au_ints.specs.Ranges.{least_of}
use Rattle.au_effects.specs.Values.{Fields, content_of, no_fields, field_then, unit, truth, number, text}
use Rattle.au_effects.specs.Values.{made, reference, box, buffer, terminal, root}
use Rattle.au_places.specs.Memories.{Memory, held_at}
use Rattle.au_types.specs.Types as type
use Rattle.au_types.specs.Types.{Meaning}
use Rattle.au_running_types.specs.Running.{token}
use Rattle.au_memory.specs.Trees.{Value, Tree, Trees, a_plain, a_made, a_box, a_buffer, a_terminal}
use Rattle.au_memory.specs.Trees.{a_root, a_writer, a_reader, no_trees, tree_then}
use Rattle.au_memory.specs.Loans.{Types, Loan, Table, IsWriter, Point, LeadsTo}

-- ---- values

module _ (types : Types) (s : Table) (m : Memory (List ℕ)) where
  abbrev mutual
    -- a tree shows a value, with what lies in its boxes and buffers
    pub Shows : Value → Tree → Type 0
    Shows v (a_plain one) = v ≡ one
    Shows v (a_made tag born all) = (parts : Fields (List ℕ)) × (v ≡ made tag born parts) × ShowsAll parts all
    Shows v (a_box born content) =
        (held : Value) × (v ≡ box born) × (m.at (content_of born) ≡ Some held) × Shows held content
    Shows v (a_buffer born all) =
        (items : List Value) × (v ≡ buffer born) × (m.elements born ≡ Some items) × ShowsEach items all
    Shows v (a_terminal born) = v ≡ terminal born
    Shows v (a_root born) = v ≡ root born
    Shows v (a_writer loan) = (l : Loan) × (s loan ≡ Some l) × (v ≡ reference l.borrow l.to)
    Shows v (a_reader loan steps) =
        (l : Loan) × (one : Point) × LeadsTo types s loan steps l one × (v ≡ reference l.borrow one.to)

    -- trees show fields, and elements
    pub ShowsAll : Fields (List ℕ) → Trees → Type 0
    ShowsAll no_fields no_trees = Unit {0}
    ShowsAll no_fields (tree_then one rest) = ⊥
    ShowsAll (field_then v others) no_trees = ⊥
    ShowsAll (field_then v others) (tree_then one rest) = Shows v one × ShowsAll others rest

    pub ShowsEach : List Value → Trees → Type 0
    ShowsEach [] no_trees = Unit {0}
    ShowsEach [] (tree_then one rest) = ⊥
    ShowsEach (v ∷ others) no_trees = ⊥
    ShowsEach (v ∷ others) (tree_then one rest) = Shows v one × ShowsEach others rest

-- ---- types

-- A value that holds nothing has a type. A number isn't below the least of its kind; that it is at most the
-- greatest isn't said, since the length of a buffer has no bound.
abbrev pub IsPlain : Value → Meaning → Type 0
IsPlain unit type.unit = Unit {0}
IsPlain (truth b) type.truth = Unit {0}
IsPlain (number kind z) (type.integer other) = (kind ≡ other) × (int_le (least_of kind) z ≡ true)
IsPlain (text t) type.text = Unit {0}
IsPlain v t = ⊥

module _ (types : Types) (s : Table) where
  abbrev mutual
    -- A tree has a type. A value of a record or a union has a birth where its type isn't Free. A reference
    -- has the type of what its loan lends, and its region is the token of the loan.
    pub Has : Tree → Meaning → Type 0
    Has (a_plain v) t = IsPlain v t
    Has (a_made tag born all) t =
        (of : List Meaning) × (types.fields t tag ≡ Some of) × (is_some born ≡ not (types.is_free t))
        × HasAll all of
    Has (a_box born content) t = (of : Meaning) × (types.boxed t ≡ Some of) × Has content of
    Has (a_buffer born all) t = (of : Meaning) × (types.buffered t ≡ Some of) × HasEach all of
    Has (a_terminal born) t = types.is_terminal t ≡ true
    Has (a_root born) t = types.is_root t ≡ true
    Has (a_writer loan) t =
        (l : Loan) × (s loan ≡ Some l) × IsWriter l.via × (t ≡ type.writes l.type (token l.token))
    Has (a_reader loan steps) t =
        (l : Loan) × (one : Point) × LeadsTo types s loan steps l one
        × (t ≡ type.reads one.type (token l.token))

    -- trees have types in order
    pub HasAll : Trees → List Meaning → Type 0
    HasAll no_trees [] = Unit {0}
    HasAll no_trees (t ∷ others) = ⊥
    HasAll (tree_then one rest) [] = ⊥
    HasAll (tree_then one rest) (t ∷ others) = Has one t × HasAll rest others

    -- trees have one type
    pub HasEach : Trees → Meaning → Type 0
    HasEach no_trees t = Unit {0}
    HasEach (tree_then one rest) t = Has one t × HasEach rest t

-- types are Free
abbrev pub AreFree : Types → List Meaning → Type 0
AreFree types [] = Unit {0}
AreFree types (t ∷ others) = (types.is_free t ≡ true) × AreFree types others

-- What holds of types: the fields of a Free type are Free; boxes, buffers, the terminal, the root and
-- references that write aren't.
pub record AreLawful (types : Types) : Type 0 where
  pub fields : (t : Meaning) (tag : ℕ) (of : List Meaning) → types.is_free t ≡ true
      → types.fields t tag ≡ Some of → AreFree types of
  pub boxes : (t of : Meaning) → types.boxed t ≡ Some of → types.is_free t ≡ true → ⊥
  pub buffers : (t of : Meaning) → types.buffered t ≡ Some of → types.is_free t ≡ true → ⊥
  pub terminals : (t : Meaning) → types.is_terminal t ≡ true → types.is_free t ≡ true → ⊥
  pub roots : (t : Meaning) → types.is_root t ≡ true → types.is_free t ≡ true → ⊥
  pub writers : (t : Meaning) (z : ℕ) → types.is_free (type.writes t (token z)) ≡ true → ⊥

-- a type is one that is declared
abbrev pub IsDeclared : Meaning → Type 0
IsDeclared (type.named at args) = Unit {0}
IsDeclared other = ⊥

-- Only declared types have fields, or are those of boxes, buffers, the terminal and the root.
pub record AreDeclared (types : Types) : Type 0 where
  pub fields : (t : Meaning) (tag : ℕ) (of : List Meaning) → types.fields t tag ≡ Some of → IsDeclared t
  pub boxes : (t of : Meaning) → types.boxed t ≡ Some of → IsDeclared t
  pub buffers : (t of : Meaning) → types.buffered t ≡ Some of → IsDeclared t
  pub terminals : (t : Meaning) → types.is_terminal t ≡ true → IsDeclared t
  pub roots : (t : Meaning) → types.is_root t ≡ true → IsDeclared t

-- At a point stands a value, which its tree shows, and the tree has its type.
pub record Stands (types : Types) (s : Table) (m : Memory (List ℕ)) (one : Point) : Type 0 where
  pub value : Value
  pub there : held_at m one.to ≡ Some value
  pub shown : Shows types s m value one.tree
  pub typed : Has types s one.tree one.type
