-- Nothing is written where an open read borrow sees: what it sees counts in the root that it sees, which is another.
use Rattle.std.proofs.Common.{◌≡◌, ℕ, zero, suc, ◌+◌, ◌≤◌, Bool, List, [], ◌∷◌, Option, Some, refl, sym, ap}
use Rattle.std.proofs.Common.{subst, ◌∙◌, append_assoc, append-nil, arith}
use Rattle.std.specs.Prelude.{None, slice_get}
use Rattle.au_effects.specs.Parts.{along}
use Rattle.au_effects.specs.References.{name_along, place_along}
use Rattle.au_effects.specs.Values.{Place}
use Rattle.au_places.specs.Memories.{Memory}
use Rattle.au_places.specs.Places.{Id, cell_of, content_place, in_node, in_place, part_at}
use Rattle.au_places.proofs.PlaceLemmas.{node_self, split_place}
use Rattle.au_types.specs.Types.{Meaning}
use Rattle.au_memory.specs.Forests.{Core, Held, Hold, Holds, IsLent, IsNameRow, IsWatched, Made, NameStands, Names}
use Rattle.au_memory.specs.Forests.{empty, in_forest, in_list, in_root, ready, shut, watched, watching, whole}
use Rattle.au_memory.specs.Loans.{Loan, Point, Table, Types, Via, field_point, inner_point, point_at, reading}
use Rattle.au_memory.specs.Loans.{IsWriter, start_of, step_point}
use Rattle.au_memory.specs.Trees as trees
use Rattle.au_memory.specs.Trees.{Step, Tree, Trees, a_box, a_made, in_tree, in_trees, inside, no_trees, nth_tree, tree_then}
use Rattle.au_memory.proofs.TotalLemmas.{total_two}
use Rattle.au_memory.proofs.UsableLemmas.{root_below, usable}
use Rattle.au_readers.specs.Sparing.{AreApart, NamesSpareReads, Sees, WritersSpareReads}

-- ---- parts count no more than what they are of

fewer_left : (id : Id) (to : Place) (n : ℕ) → in_node n id to ≤ in_place id to
fewer_left id to zero = omega arith
fewer_left id to (suc n) = let split = split_place id to n in let rest = fewer_left id to n in omega arith

part_less : (id : Id) (to : Place) (i : ℕ) → in_place id (part_at i to) ≤ in_place id to
part_less id to i = let split = split_place id to i in let rest = fewer_left id to i in omega arith

pub path_less : (id : Id) (path : List ℕ) (to : Place) → in_place id (place_along to path) ≤ in_place id to
path_less id [] to =
    let same : in_place id (place_along to []) ≡ in_place id to =
    ap (λ (p : List ℕ). in_place id (record { base = to.base; path = p })) (append-nil to.path) in
    omega arith
path_less id (i ∷ path) to =
    let same : in_place id (place_along (part_at i to) path) ≡ in_place id (place_along to (i ∷ path)) =
    ap (λ (p : List ℕ). in_place id (record { base = to.base; path = p })) (append_assoc to.path (i ∷ []) path) in
    let one = path_less id path (part_at i to) in
    let two = part_less id to i in
    omega arith

-- ---- so do points

some_of : {A B : Type 0} (o : Option A) (go : A → Option B) (b : B) → along o go ≡ Some b
    → (a : A) × (o ≡ Some a) × (go a ≡ Some b)
some_of None go b h = absurd cc
some_of (Some a) go b h = (a, refl, h)

nth_less : (id : Id) (i : ℕ) (all : Trees) (one : Tree) → nth_tree i all ≡ Some one → in_tree id one ≤ in_trees id all
nth_less id i no_trees one h = absurd cc
nth_less id zero (tree_then t rest) one h =
    let same : t ≡ one = cc in
    let count = ap (λ (u : Tree). in_tree id u) same in
    omega arith
nth_less id (suc i) (tree_then t rest) one h = let more = nth_less id i rest one h in omega arith

-- how often an id counts at a point, and in what stands there
abbrev in_point : Id → Point → ℕ
in_point id one = in_place id one.to + in_tree id one.tree

module _ (types : Types) (id : Id) where
  field_less : (i : ℕ) (one two : Point) (t : Tree) → one.tree ≡ t → field_point types i one t ≡ Some two
      → in_point id two ≤ in_point id one
  field_less i one two (a_made tag born all) tree h =
      let of = some_of (types.fields one.type tag) _ two h in
      let u = some_of (slice_get of.0 i) _ two of.2 in
      let t = some_of (nth_tree i all) _ two u.2 in
      let is : record { tree = t.0; type = u.0; to = part_at i one.to } ≡ two = cc in
      let own = ap (λ (p : Point). in_point id p) is in
      let count = ap (λ (u : Tree). in_tree id u) tree in
      let place = part_less id one.to i in
      let part = nth_less id i all t.0 t.1 in
      omega arith
  field_less i one two other tree h = absurd cc

  inner_less : (one two : Point) (t : Tree) → one.tree ≡ t → inner_point types one t ≡ Some two
      → in_point id two ≤ in_point id one
  inner_less one two (a_box born content) tree h =
      let u = some_of (types.boxed one.type) _ two h in
      let is : record { tree = content; type = u.0; to = content_place born } ≡ two = cc in
      let own = ap (λ (p : Point). in_point id p) is in
      let count = ap (λ (u : Tree). in_tree id u) tree in
      omega arith
  inner_less one two other tree h = absurd cc

  step_less : (step : Step) (one two : Point) → step_point types step one ≡ Some two → in_point id two ≤ in_point id one
  step_less (trees.field i) one two h = field_less i one two one.tree refl h
  step_less inside one two h = inner_less one two one.tree refl h

  point_less : (steps : List Step) (one two : Point) → point_at types steps one ≡ Some two
      → in_point id two ≤ in_point id one
  point_less [] one two h =
      let is : one ≡ two = cc in
      let own = ap (λ (p : Point). in_point id p) is in
      omega arith
  point_less (step ∷ steps) one two h =
      let next = some_of (step_point types step one) (point_at types steps) two h in
      let first = step_less step one next.0 next.1 in
      let rest = point_less steps next.0 two next.2 in
      omega arith

-- ---- what is seen

module _ (types : Types) (clock : ℕ) (scope act : ℕ → Bool) (hold : Holds) (type : ℕ → ℕ → Meaning)
    (under : Made) (s : Table) (m : Memory (List ℕ)) (core : Core types clock scope act hold type under s m)
    (r : ℕ) (n : Loan) (steps : List Step) (one : Point)
    (sees : Sees types clock scope act hold type under s m core r steps n one) where
  abbrev pub from : ℕ
  from = sees.leads.from

  pub lent : IsLent core.forest hold core.root (λ id. in_forest id core.top core.forest + in_list id core.trees) r n.token
      (reading from sees.leads.tree)
  lent =
      subst (λ (via : Via). IsLent core.forest hold core.root
      (λ id. in_forest id core.top core.forest + in_list id core.trees) r n.token via) sees.leads.via
      (core.lent r n sees.leads.row sees.is_open)

  -- the root that is seen has the place of the loan
  pub at_start : lent.0 ≡ n.to
  at_start =
      let seen = core.rooted from (whole lent.0 sees.leads.tree) lent.1 in
      let own = core.rooted r watching lent.2 in
      let mine : s r ≡ Some n = sees.leads.row in
      let its : s r ≡ Some own.0 = own.1 in
      let same : own.0 ≡ n = cc in
      let one_via : own.0.via ≡ reading own.2.0 own.2.1 = own.2.2 in
      let two_via : own.0.via ≡ reading from sees.leads.tree =
      subst (λ (l : Loan). l.via ≡ reading from sees.leads.tree) (sym same) sees.leads.via in
      let root : own.2.0 ≡ from = cc in
      let back = own.2.4 in
      let first : s from ≡ Some back.0 = subst (λ (k : ℕ). s k ≡ Some back.0) root back.1 in
      let second : s from ≡ Some seen.0 = seen.1 in
      let rows : seen.0 ≡ back.0 = cc in
      seen.2.1 ∙ ap (λ (l : Loan). l.to) rows ∙ back.2 ∙ ap (λ (l : Loan). l.to) same

  -- A place within a root that is whole, and isn't the one that is seen, is apart from the point.
  spared : (k : ℕ) (to p : Place) (tree : Tree) → core.forest k ≡ Some (whole to tree) → (k ≡ from → ⊥)
      → ((id : Id) → in_place id p ≤ in_place id to) → AreApart p one.to
  spared k to p tree here differ within = (none, other)
    where
      both : (id : Id) → in_root id (core.forest from) + in_root id (core.forest k) ≤ 1
      both id =
          let two = total_two id core.top from k core.forest differ
          (root_below types clock scope act hold type under s m core from (whole lent.0 sees.leads.tree) lent.1)
          (root_below types clock scope act hold type under s m core k (whole to tree) here) in
          let once = core.once id in
          omega arith

      seen : (id : Id) → in_point id one ≤ in_root id (core.forest from)
      seen id =
          let less = point_less types id steps (start_of types n sees.leads.tree) one sees.leads.there in
          let own = ap (λ (o : Option Held). in_root id o) lent.1 in
          let place = ap (λ (q : Place). in_place id q) at_start in
          omega arith

      held : (id : Id) → in_place id p ≤ in_root id (core.forest k)
      held id =
          let less = within id in
          let own = ap (λ (o : Option Held). in_root id o) here in
          omega arith

      none : in_place (cell_of p) one.to ≡ 0
      none =
          let own = node_self p 0 in
          let a = both (cell_of p) in
          let b = seen (cell_of p) in
          let c = held (cell_of p) in
          omega arith

      other : in_place (cell_of one.to) p ≡ 0
      other =
          let own = node_self one.to 0 in
          let a = both (cell_of one.to) in
          let b = seen (cell_of one.to) in
          let c = held (cell_of one.to) in
          omega arith

  -- ---- the root that is seen is that of a name, which is watched

  watched_row : (frame x : ℕ) (t : Meaning) (h : Hold) → IsWatched n.token h
      → NameStands types s core.forest m core.root frame x t h → IsNameRow s (core.root frame x) frame x t
  watched_row frame x t empty is stands = absurd is
  watched_row frame x t ready is stands = absurd is
  watched_row frame x t (shut y) is stands = absurd is
  watched_row frame x t (watched tokens) is stands = stands.0

  pub whose : Names hold core.root from (IsWatched n.token)
  whose = lent.3

  pub row : IsNameRow s from whose.frame whose.name (type whose.frame whose.name)
  row =
      subst (λ (k : ℕ). IsNameRow s k whose.frame whose.name (type whose.frame whose.name)) whose.is
      (watched_row whose.frame whose.name (type whose.frame whose.name) (hold whose.frame whose.name) whose.holds
      (core.names whose.frame whose.name))

  -- no loan that writes is that root
  pub not_writer : (g : ℕ) (l : Loan) → s g ≡ Some l → IsWriter l.via → g ≡ from → ⊥
  not_writer g l has writes same =
      let its : s g ≡ Some row.row = subst (λ (k : ℕ). s k ≡ Some row.row) (sym same) row.has in
      let rows : l ≡ row.row = cc in
      subst IsWriter (ap (λ (o : Loan). o.via) rows ∙ row.is_named) writes

  -- nor is one of a name that is ready
  not_ready : (frame x : ℕ) → hold frame x ≡ ready → IsNameRow s (core.root frame x) frame x (type frame x)
      → core.root frame x ≡ from → ⊥
  not_ready frame x is own same =
      let its : s (core.root frame x) ≡ Some row.row = subst (λ (k : ℕ). s k ≡ Some row.row) (sym same) row.has in
      let mine : s (core.root frame x) ≡ Some own.row = own.has in
      let rows : own.row ≡ row.row = cc in
      let places : name_along frame x [] ≡ name_along whose.frame whose.name [] =
      sym own.at ∙ ap (λ (o : Loan). o.to) rows ∙ row.at in
      let bases = ap (λ (p : Place). p.base) places in
      let frames : frame ≡ whose.frame = cc in
      let names : x ≡ whose.name = cc in
      let stands : hold whose.frame whose.name ≡ ready =
      subst (λ (k : ℕ). hold k whose.name ≡ ready) frames (subst (λ (y : ℕ). hold frame y ≡ ready) names is) in
      subst (IsWatched n.token) stands whose.holds

module _ (types : Types) (clock : ℕ) (scope act : ℕ → Bool) (hold : Holds) (type : ℕ → ℕ → Meaning)
    (under : Made) (s : Table) (m : Memory (List ℕ)) (core : Core types clock scope act hold type under s m) where
  pub writers_spare_reads : WritersSpareReads types clock scope act hold type under s m core
  writers_spare_reads g r l n steps one held sees =
      let may = usable types clock scope act hold type under s m core g l held.row held.writes held.held held.scoped in
      spared types clock scope act hold type under s m core r n steps one sees g l.to l.to may.tree may.here
      (not_writer types clock scope act hold type under s m core r n steps one sees g l held.row held.writes)
      (λ id. omega arith)

  pub names_spare_reads : NamesSpareReads types clock scope act hold type under s m core
  names_spare_reads frame x r path n steps one is sees =
      let stands = subst (λ (h : Hold). NameStands types s core.forest m core.root frame x (type frame x) h) is
      (core.names frame x) in
      let own = stands.0 in
      let all = stands.1 in
      let root = core.rooted (core.root frame x) (whole all.0 all.1) all.2 in
      let mine : s (core.root frame x) ≡ Some own.row = own.has in
      let its : s (core.root frame x) ≡ Some root.0 = root.1 in
      let rows : root.0 ≡ own.row = cc in
      let place : all.0 ≡ name_along frame x [] = root.2.1 ∙ ap (λ (l : Loan). l.to) rows ∙ own.at in
      spared types clock scope act hold type under s m core r n steps one sees (core.root frame x) all.0
      (name_along frame x path) all.1 all.2
      (not_ready types clock scope act hold type under s m core r n steps one sees frame x is own)
      (λ id.
      let less = path_less id path (name_along frame x []) in
      let same = ap (λ (p : Place). in_place id p) place in
      omega arith)
