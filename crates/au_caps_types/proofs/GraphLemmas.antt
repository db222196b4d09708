-- The graph of declared types: it has the paths by which they lead to one another.
use Rattle.std.proofs.Common.{◌≡◌, ℕ, zero, suc, ◌+◌, ◌≤◌, inl, inr, Bool, true, false, cond, List}
use Rattle.std.proofs.Common.{[], ◌∷◌, length, Option, Some, None, refl, sym, ap, subst}
use Rattle.std.proofs.Common.{◌∙◌, arith, zero-add}
use Rattle.std.specs.List.{cons_option, filter_map}
use Rattle.std.specs.Prelude.{slice_get}
use Rattle.std.proofs.lemmas.Option.{none-some, same_Some, slice_get-map}
use Rattle.std.proofs.lemmas.Option.{get_or_from_slice_get}
use Rattle.au_graphs.specs.Cycles as graph
use Rattle.au_graphs.specs.Cycles.{successors}
use Rattle.au_types.specs.declared.types.DeclAt.{DeclAt}
use Rattle.au_types.specs.Rows.{same_place}
use Rattle.au_types.proofs.SameLemmas.{place_is, place_self}
use Rattle.au_names.proofs.AmongLemmas.{Among, among, contains}
use Rattle.au_formed.specs.declared.namings.Naming.{Naming}
use Rattle.au_formed.specs.Graphs.{declarer, declarer_from, graph_of}
use Rattle.au_formed.specs.Infinite.{Leads, directly, onward, names_of, types_declared}
use Rattle.au_formed.proofs.LeadLemmas.{named_declared}

-- ---- lists

pub among_kept : {A B : Type 0} (f : A → Option B) (xs : List A) (y : B) → Among y (filter_map f xs)
    → (x : A) × Among x xs × (f x ≡ Some y)
among_kept f [] y m = absurd m
among_kept {A} {B} f (x ∷ xs) y m = by (f x) refl m (λ n. let r = among_kept f xs y n in (r.0, inr r.1, r.2))
  where
    by : (o : Option B) → f x ≡ o → Among y (cons_option o (filter_map f xs))
        → (Among y (filter_map f xs) → (z : A) × Among z (x ∷ xs) × (f z ≡ Some y))
        → (z : A) × Among z (x ∷ xs) × (f z ≡ Some y)
    by None e n rest = rest n
    by (Some z) e (inl here) rest = (x, inl refl, e ∙ ap Some here)
    by (Some z) e (inr later) rest = rest later

pub kept_among : {A B : Type 0} (f : A → Option B) (xs : List A) (x : A) (y : B) → Among x xs → f x ≡ Some y
    → Among y (filter_map f xs)
kept_among f [] x y m e = absurd m
kept_among f (z ∷ zs) x y (inl here) e =
    subst (λ o. Among y (cons_option o (filter_map f zs))) (sym (ap f here ∙ e)) (inl refl)
kept_among {A} {B} f (z ∷ zs) x y (inr later) e = by (f z) (kept_among f zs x y later e)
  where
    by : (o : Option B) → Among y (filter_map f zs) → Among y (cons_option o (filter_map f zs))
    by None m = m
    by (Some w) m = inr m

-- ---- the first that declares a type

-- an index is that of what declares the type
pub record Declares (first : ℕ) (all : List Naming) (a : DeclAt) (k : ℕ) : Type 0 where
  pub place : ℕ
  pub naming : Naming
  pub counted : k ≡ first + place
  pub there : slice_get all place ≡ Some naming
  pub of : naming.of ≡ a
  pub names : names_of all a ≡ naming.names

pub declares : (first : ℕ) (all : List Naming) (a : DeclAt) (k : ℕ) → declarer_from first all a ≡ Some k
    → Declares first all a k
declares first [] a k h = absurd (none-some k h)
declares first (n ∷ ns) a k h = by (same_place a n.of) refl h (declares (first + 1) ns a k)
  where
    later : same_place a n.of ≡ false → Declares (first + 1) ns a k → Declares first (n ∷ ns) a k
    later e d = record {
      place = suc d.place;
      naming = d.naming;
      counted = (let c = d.counted in omega arith);
      there = d.there;
      of = d.of;
      names = ap (λ b. cond b n.names (names_of ns a)) e ∙ d.names;
    }

    by : (b : Bool) → same_place a n.of ≡ b → cond b (Some first) (declarer_from (first + 1) ns a) ≡ Some k
        → (declarer_from (first + 1) ns a ≡ Some k → Declares (first + 1) ns a k)
        → Declares first (n ∷ ns) a k
    by true e k' on = record {
      place = 0;
      naming = n;
      counted = (let same = same_Some first k k' in omega arith);
      there = refl;
      of = sym (place_is a n.of e);
      names = ap (λ b. cond b n.names (names_of ns a)) e;
    }
    by false e k' on = later e (on k')

-- what is declared has an index, that of a place or one before it
pub declared_by : (first : ℕ) (all : List Naming) (i : ℕ) (n : Naming) → slice_get all i ≡ Some n
    → (k : ℕ) × (declarer_from first all n.of ≡ Some k) × (k ≤ first + i)
declared_by first [] i n h = absurd (none-some n h)
declared_by first (m ∷ ms) zero n h =
    let same : m ≡ n = same_Some m n h in (
      first,
      ap (λ b. cond b (Some first) (declarer_from (first + 1) ms n.of))
          (ap (λ (x : Naming). same_place n.of x.of) same ∙ place_self n.of),
      omega arith,
    )
declared_by first (m ∷ ms) (suc i) n h = by (same_place n.of m.of) refl (declared_by (first + 1) ms i n h)
  where
    by : (b : Bool) → same_place n.of m.of ≡ b
        → (k : ℕ) × (declarer_from (first + 1) ms n.of ≡ Some k) × (k ≤ first + 1 + i)
        → (k : ℕ) × (cond (same_place n.of m.of) (Some first) (declarer_from (first + 1) ms n.of) ≡ Some k)
        × (k ≤ first + suc i)
    by true e rest = (first, ap (λ b. cond b (Some first) (declarer_from (first + 1) ms n.of)) e, omega arith)
    by false e rest = (
      rest.0,
      ap (λ b. cond b (Some first) (declarer_from (first + 1) ms n.of)) e
          ∙ rest.1,
      (let less = rest.2 in omega arith),
    )

pub mapped_at : (all : List Naming) (a : DeclAt) → Among a (types_declared all)
    → (i : ℕ) × (n : Naming) × (slice_get all i ≡ Some n) × (n.of ≡ a)
mapped_at [] a m = absurd m
mapped_at (n ∷ ns) a (inl here) = (0, n, refl, here)
mapped_at (n ∷ ns) a (inr later) = let rest = mapped_at ns a later in (suc rest.0, rest.1, rest.2, rest.3)

module _ (all : List Naming) where
  -- a type that names another has an index
  pub has_index : (a b : DeclAt) → Among b (names_of all a) → (k : ℕ) × (declarer all a ≡ Some k)
  has_index a b m =
      let at = mapped_at all a (named_declared all a b m) in
      let found = declared_by 0 all at.0 at.1 at.2 in
      (found.0, ap (declarer all) (sym at.3) ∙ found.1)

  -- the successors of the first that declares a type
  nexts : (k : ℕ) (n : Naming) → slice_get all k ≡ Some n
      → successors (graph_of all) k ≡ filter_map (declarer all) n.names
  nexts k n h = get_or_from_slice_get (graph_of all) k (filter_map (declarer all) n.names) []
      (slice_get-map (λ (x : Naming). filter_map (declarer all) x.names) all k ∙ ap f h)
    where
      f : Option Naming → Option (List ℕ)
      f None = None
      f (Some x) = Some (filter_map (declarer all) x.names)

  index_nexts : (a : DeclAt) (k : ℕ) → declarer all a ≡ Some k
      → successors (graph_of all) k ≡ filter_map (declarer all) (names_of all a)
  index_nexts a k h =
      let d = declares 0 all a k h in
      let same : k ≡ d.place = d.counted ∙ zero-add d.place in
      ap (successors (graph_of all)) same ∙ nexts d.place d.naming d.there
      ∙ ap (filter_map (declarer all)) (sym d.names)

  -- ---- from the graph to types

  edge_from : (a : DeclAt) (k j : ℕ) → declarer all a ≡ Some k → graph.Names (graph_of all) k j
      → (c : DeclAt) × Among c (names_of all a) × (declarer all c ≡ Some j)
  edge_from a k j h names =
      among_kept (declarer all) (names_of all a) j
      (subst (λ l. Among j l) (index_nexts a k h) (among (successors (graph_of all) k) j names))

  pub path_leads : (a : DeclAt) (k j : ℕ) → declarer all a ≡ Some k → graph.Leads (graph_of all) k j
      → (c : DeclAt) × (declarer all c ≡ Some j) × Leads all a c
  path_leads a k j h (graph.directly x y names) =
      let e = edge_from a x y h names in (e.0, e.2, directly a e.0 (contains (names_of all a) e.0 e.1))
  path_leads a k j h (graph.onward x m y names rest) =
      let e = edge_from a x m h names in
      let on = path_leads e.0 m y e.2 rest in
      (on.0, on.1, onward a e.0 on.0 (contains (names_of all a) e.0 e.1) on.2)

  -- what has one index is one type
  pub one_type : (a c : DeclAt) (k : ℕ) → declarer all a ≡ Some k → declarer all c ≡ Some k → a ≡ c
  one_type a c k h g =
      let d = declares 0 all a k h in
      let e = declares 0 all c k g in
      let same : d.place ≡ e.place = sym (d.counted ∙ zero-add d.place) ∙ (e.counted ∙ zero-add e.place) in
      let naming : d.naming
      ≡ e.naming = same_Some d.naming e.naming (sym d.there ∙ ap (slice_get all) same ∙ e.there) in
      sym d.of ∙ ap (λ (n : Naming). n.of) naming ∙ e.of

  -- ---- from types to the graph

  edge_there : (a b : DeclAt) (k j : ℕ) → declarer all a ≡ Some k → declarer all b ≡ Some j
      → Among b (names_of all a) → graph.Names (graph_of all) k j
  edge_there a b k j h g m =
      contains (successors (graph_of all) k) j
      (subst (λ l. Among j l) (sym (index_nexts a k h)) (kept_among (declarer all) (names_of all a) b j m g))

  pub leads_path : (a c : DeclAt) (k j : ℕ) → Leads all a c → declarer all a ≡ Some k → declarer all c ≡ Some j
      → graph.Leads (graph_of all) k j
  leads_path a c k j (directly x y names) h g = graph.directly k j
      (edge_there x y k j h g (among (names_of all x) y names))
  leads_path a c k j (onward x b y names rest) h g =
      let m = next_index b y rest in
      graph.onward k m.0 j (edge_there x b k m.0 h m.1 (among (names_of all x) b names))
      (leads_path b y m.0 j rest m.1 g)
    where
      next_index : (u v : DeclAt) → Leads all u v → (i : ℕ) × (declarer all u ≡ Some i)
      next_index u v (directly p q n) = has_index p q (among (names_of all p) q n)
      next_index u v (onward p q r n rest) = has_index p q (among (names_of all p) q n)
