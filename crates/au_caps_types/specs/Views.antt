-- What the code holds of the heads that declared types reach.
use Rattle.std.specs.Prelude.{◌≡◌, ◌↔◌, ℕ, List, [], ◌∷◌, Option, None, Some, Contains, length, slice_get}
use Rattle.std.specs.Prelude.{Bool, filter, is_some, map}
use Rattle.au_graphs.specs.Cycles.{successors}
use Rattle.au_syntax.specs.Plain.{Bytes}
use Rattle.au_types.specs.declared.types.DeclAt.{DeclAt}
use Rattle.au_modules.specs.Programs.{ModuleParts}
use Rattle.au_formed.specs.declared.namings.Naming.{Naming}
use Rattle.au_formed.specs.Graphs.{declarer, graph_by, index_at}
use Rattle.au_formed.specs.Infinite.{types_declared}
use Rattle.au_caps_text.specs.Spreading.{AreSpread}
use Rattle.au_caps_types.specs.declared.reached.Reaching.{Reaching}
use Rattle.au_caps_types.specs.Heads.{head_of}
use Rattle.au_caps_types.specs.Reaching.{DeclaredReaches}

-- a declared type that names itself alone
abbrev pub itself : DeclAt → Naming
itself at = record { of = at; names = at ∷ [] }

-- a declared type has a head
abbrev pub has_head : List ModuleParts → DeclAt → Bool
has_head program at = is_some (head_of program at)

-- those of some declared types that have one, each with itself
abbrev pub heads_among : List ModuleParts → List Naming → List Naming
heads_among program all = map itself (filter (has_head program) (types_declared all))

-- the places of the heads that the declared type of a number reaches, if there is a number
abbrev pub numbered_places : List (List ℕ) → Option ℕ → List ℕ
numbered_places reached None = []
numbered_places reached (Some number) = successors reached number

abbrev pub places : Reaching → DeclAt → List ℕ
places r at = numbered_places r.reached (index_at r.table at)

-- the place among the heads of that of a declared type, if it has one
abbrev pub place_of : Reaching → DeclAt → Option ℕ
place_of r at = index_at r.own at

-- how many heads there are
abbrev pub head_count : Reaching → ℕ
head_count r = length r.heads.items

-- a place is that of the declared type of a head
abbrev pub IsHeadAt : List ModuleParts → Reaching → ℕ → Bytes → Type 0
IsHeadAt program r place h =
    (one : Naming) × (slice_get r.heads.items place ≡ Some one) × (head_of program one.of ≡ Some h)

-- Each declared type has the places of the heads that it reaches.
abbrev pub AreReached : List ModuleParts → Reaching → Type 0
AreReached program r =
    (at : DeclAt) (h : Bytes) →
    ((place : ℕ) × Contains (places r at) place × IsHeadAt program r place h) ↔ DeclaredReaches program at h

-- What the code holds of the heads that declared types reach: each declared type has the places of the
-- heads that it reaches; that of what has a head is found, and what is found at a place stands there.
pub record IsReaching (program : List ModuleParts) (r : Reaching) : Type 0 where
  pub reached : AreReached program r
  pub found : (at : DeclAt) (h : Bytes) → head_of program at ≡ Some h → (l : ℕ) × (place_of r at ≡ Some l)
  pub placed : (at : DeclAt) (l : ℕ) → place_of r at ≡ Some l
      → (one : Naming) × (slice_get r.heads.items l ≡ Some one) × (one.of ≡ at)

-- The code's tables and labels for some declared types with what their fields name, of which some have a
-- head.
pub record IsHeld (ns hs : List Naming) (r : Reaching) : Type 0 where
  pub table : (a : DeclAt) → index_at r.table a ≡ declarer ns a
  pub heads : r.heads.items ≡ hs
  pub own : (a : DeclAt) → index_at r.own a ≡ declarer hs a
  pub reached : AreSpread (graph_by (index_at r.table) ns) (graph_by (index_at r.table) hs) r.reached
