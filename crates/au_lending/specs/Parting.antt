-- A value of a case behind a write reference is taken apart.
use Rattle.std.specs.Prelude.{◌≡◌, ℕ, suc, ◌+◌, ◌≤◌, Bool, true, false, List, [], ◌∷◌, Option, Some}
use Rattle.au_effects.specs.Values.{Fields, Place, made, reference}
use Rattle.au_places.specs.Memories.{Memory, held_at}
use Rattle.au_places.specs.Places.{Id, birth, part_at}
use Rattle.au_running_types.specs.Running.{token}
use Rattle.au_types.specs.Types.{Meaning, writes}
use Rattle.au_memory.specs.Forests.{Core, Holds, IsHere, Made, whole, in_forest, in_list}
use Rattle.au_memory.specs.Loans.{Types, IsWriter, Loan, Table, part_of}
use Rattle.au_memory.specs.Shown.{AreDeclared}
use Rattle.au_memory.specs.Trees.{Tree, Value}
use Rattle.au_lending.specs.Holding.{with_row}
use Rattle.au_lending.specs.Laws.{part_row}

-- references to parts, from a number on, come under way, the first one first
abbrev pub with_parts : ℕ → Place → ℕ → ℕ → List Meaning → Made → Made
with_parts b to z i [] under = under
with_parts b to z i (t ∷ ts) under =
    with_parts b to z (suc i) ts ((reference b (part_at i to), writes t (token z)) ∷ under)

-- and so do rows of loans of them, from this number on
abbrev pub with_part_rows : ℕ → ℕ → Loan → ℕ → List Meaning → Table → Table
with_part_rows top g l i [] s = s
with_part_rows top g l i (t ∷ ts) s =
    with_part_rows (suc top) g l (suc i) ts (with_row top (part_row g l (part_at i l.to) t) s)

-- A type of records or unions is no other.
pub record CasesAreAlone (types : Types) : Type 0 where
  pub boxes : (t of : Meaning) (tag : ℕ) (parts : List Meaning) → types.fields t tag ≡ Some parts
      → types.boxed t ≡ Some of → ⊥
  pub buffers : (t of : Meaning) (tag : ℕ) (parts : List Meaning) → types.fields t tag ≡ Some parts
      → types.buffered t ≡ Some of → ⊥
  pub terminals : (t : Meaning) (tag : ℕ) (parts : List Meaning) → types.fields t tag ≡ Some parts
      → types.is_terminal t ≡ true → ⊥
  pub roots : (t : Meaning) (tag : ℕ) (parts : List Meaning) → types.fields t tag ≡ Some parts
      → types.is_root t ≡ true → ⊥

module _ (types : Types) (clock : ℕ) (scope act : ℕ → Bool) (hold : Holds) (type : ℕ → ℕ → Meaning)
    (r : Value) (t : Meaning) (z : ℕ) (under : Made) (s : Table) (m : Memory (List ℕ))
    (core : Core types clock scope act hold type ((r, writes t (token z)) ∷ under) s m) where
  -- The parts of a value of a case behind a write reference are lent: the reference leads to such a value,
  -- and references of the same borrow to each of its parts are under way instead, the last one newest.
  -- Births count as they did.
  pub record PartsLent : Type 0 where
    pub loan : ℕ
    pub row : Loan
    pub has : s loan ≡ Some row
    pub writer : IsWriter row.via
    pub typed : t ≡ row.type
    pub of_token : z ≡ row.token
    pub leads : r ≡ reference row.borrow row.to
    pub tag : ℕ
    pub born : Option ℕ
    pub of : List Meaning
    pub parts : Fields (List ℕ)
    pub there : held_at m row.to ≡ Some (made tag born parts)
    pub fields : types.fields row.type tag ≡ Some of
    pub after : Core types clock scope act hold type (with_parts row.borrow row.to row.token 0 of under)
        (with_part_rows core.top loan row 0 of s) m
    pub births : (i : ℕ) → in_forest (birth i) after.top after.forest + in_list (birth i) after.trees
        ≡ in_forest (birth i) core.top core.forest + in_list (birth i) core.trees

  -- So they may be where the type has cases, while the token of the reference is in scope.
  abbrev pub PartsAreLent : Type 0
  PartsAreLent =
      AreDeclared types → CasesAreAlone types → (tag : ℕ) (of : List Meaning)
      → types.fields t tag ≡ Some of → scope z ≡ true → PartsLent

module _ (types : Types) (clock : ℕ) (scope act : ℕ → Bool) (hold : Holds) (type : ℕ → ℕ → Meaning)
    (under : Made) (s : Table) (m : Memory (List ℕ))
    (core : Core types clock scope act hold type under s m) where
  -- A part that was lent has gone back: it is no loan any more, the others that are open were so, and
  -- everything counts as it did.
  pub record Rejoined (g : ℕ) : Type 0 where
    pub after : Core types clock scope act hold type under s m
    pub were : (j : ℕ) → IsHere (after.forest j) → (g ≡ j → ⊥) × IsHere (core.forest j)
    pub counts : (id : Id)
        → in_forest id after.top after.forest + in_list id after.trees
        ≡ in_forest id core.top core.forest + in_list id core.trees

  -- So it may when it is whole, its token isn't in scope, and it is the newest part of its parent that is
  -- still lent.
  abbrev pub PartsRejoin : Type 0
  PartsRejoin =
      (g : ℕ) (l : Loan) (tree : Tree) (k : ℕ) → s g ≡ Some l → core.forest g ≡ Some (whole l.to tree)
      → l.via ≡ part_of k → scope l.token ≡ false
      → ((j : ℕ) (n : Loan) → s j ≡ Some n → n.via ≡ part_of k → IsHere (core.forest j) → j ≤ g)
      → Rejoined g
