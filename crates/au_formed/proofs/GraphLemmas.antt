-- The graph of records and unions: its cycles are the types that lead back to themselves.
use Rattle.std.proofs.Common.{◌≡◌, ℕ, zero, suc, ◌+◌, ◌<◌, ◌≤◌, ◌⊎◌, inl, inr, Bool, true, false, cond, List}
use Rattle.std.proofs.Common.{[], ◌∷◌, find, length, map, get_or, Option, Some, None, refl, sym, ap, subst}
use Rattle.std.proofs.Common.{◌∙◌, Contains, arith, true≢false, zero-add}
use Rattle.std.specs.List.{cons_option, filter_map}
use Rattle.std.specs.Prelude.{slice_get, ◌↔◌}
use Rattle.std.proofs.lemmas.Bool.{cases_Bool}
use Rattle.std.proofs.lemmas.List.{length-map}
use Rattle.std.proofs.lemmas.Option.{none-some, same_Some, slice_get-map, slice_get_within, slice_get-get_or}
use Rattle.std.proofs.lemmas.Option.{get_or_from_slice_get}
use Rattle.au_graphs.specs.Cycles as graph
use Rattle.au_graphs.specs.Cycles.{successors, IsOnCycle, IsFirstOnCycle, HasNoCycle}
use Rattle.au_graphs.proofs.CycleLemmas.{past_names}
use Rattle.au_types.specs.declared.types.DeclAt.{DeclAt}
use Rattle.au_types.specs.Rows.{same_place}
use Rattle.au_types.proofs.SameLemmas.{place_is, place_self}
use Rattle.au_names.proofs.AmongLemmas.{Among, among, contains}
use Rattle.au_formed.specs.declared.namings.Naming.{Naming}
use Rattle.au_formed.specs.Graphs.{declarer, declarer_from, graph_of}
use Rattle.au_formed.specs.Infinite.{Leads, directly, onward, first_infinite, is_infinite, names_of}
use Rattle.au_formed.specs.Infinite.{types_declared}
use Rattle.au_formed.proofs.LeadLemmas.{infinite_from, infinite_to, named_declared}

-- ---- lists

among_kept : {A B : Type 0} (f : A → Option B) (xs : List A) (y : B) → Among y (filter_map f xs)
    → (x : A) × Among x xs × (f x ≡ Some y)
among_kept f [] y m = absurd m
among_kept {A} {B} f (x ∷ xs) y m = by (f x) refl m (λ n. let r = among_kept f xs y n in (r.0, inr r.1, r.2))
  where
    by : (o : Option B) → f x ≡ o → Among y (cons_option o (filter_map f xs))
        → (Among y (filter_map f xs) → (z : A) × Among z (x ∷ xs) × (f z ≡ Some y))
        → (z : A) × Among z (x ∷ xs) × (f z ≡ Some y)
    by None e n rest = rest n
    by (Some z) e (inl here) rest = (x, inl refl, e ∙ ap Some here)
    by (Some z) e (inr later) rest = rest later

kept_among : {A B : Type 0} (f : A → Option B) (xs : List A) (x : A) (y : B) → Among x xs → f x ≡ Some y
    → Among y (filter_map f xs)
kept_among f [] x y m e = absurd m
kept_among f (z ∷ zs) x y (inl here) e =
    subst (λ o. Among y (cons_option o (filter_map f zs))) (sym (ap f here ∙ e)) (inl refl)
kept_among {A} {B} f (z ∷ zs) x y (inr later) e = by (f z) (kept_among f zs x y later e)
  where
    by : (o : Option B) → Among y (filter_map f zs) → Among y (cons_option o (filter_map f zs))
    by None m = m
    by (Some w) m = inr m

-- what passes first is found
found_first : {A : Type 0} (p : A → Bool) (xs : List A) (k : ℕ) (x : A) → slice_get xs k ≡ Some x → p x ≡ true
    → ((i : ℕ) (y : A) → i < k → slice_get xs i ≡ Some y → p y ≡ false) → find p xs ≡ Some x
found_first p [] k x here passes none = absurd (none-some x here)
found_first p (y ∷ ys) zero x here passes none =
    let same : y ≡ x = same_Some y x here in
    ap (λ b. cond b (Some y) (find p ys)) (ap p same ∙ passes) ∙ ap Some same
found_first p (y ∷ ys) (suc k) x here passes none =
    ap (λ b. cond b (Some y) (find p ys)) (none 0 y (omega arith) refl)
    ∙ found_first p ys k x here passes (λ i z below there. none (suc i) z (omega arith) there)

found_none : {A : Type 0} (p : A → Bool) (xs : List A) → ((x : A) → Among x xs → p x ≡ false)
    → find p xs ≡ None
found_none p [] none = refl
found_none p (x ∷ xs) none = ap (λ b. cond b (Some x) (find p xs)) (none x (inl refl))
    ∙ found_none p xs (λ y m. none y (inr m))

-- ---- the first that declares a type

-- an index is that of what declares the type
pub record Declares (first : ℕ) (all : List Naming) (a : DeclAt) (k : ℕ) : Type 0 where
  pub place : ℕ
  pub naming : Naming
  pub counted : k ≡ first + place
  pub there : slice_get all place ≡ Some naming
  pub of : naming.of ≡ a
  pub names : names_of all a ≡ naming.names

declares : (first : ℕ) (all : List Naming) (a : DeclAt) (k : ℕ) → declarer_from first all a ≡ Some k
    → Declares first all a k
declares first [] a k h = absurd (none-some k h)
declares first (n ∷ ns) a k h = by (same_place a n.of) refl h (declares (first + 1) ns a k)
  where
    later : same_place a n.of ≡ false → Declares (first + 1) ns a k → Declares first (n ∷ ns) a k
    later e d = record {
      place = suc d.place;
      naming = d.naming;
      counted = (let c = d.counted in omega arith);
      there = d.there;
      of = d.of;
      names = ap (λ b. cond b n.names (names_of ns a)) e ∙ d.names;
    }

    by : (b : Bool) → same_place a n.of ≡ b → cond b (Some first) (declarer_from (first + 1) ns a) ≡ Some k
        → (declarer_from (first + 1) ns a ≡ Some k → Declares (first + 1) ns a k)
        → Declares first (n ∷ ns) a k
    by true e k' on = record {
      place = 0;
      naming = n;
      counted = (let same = same_Some first k k' in omega arith);
      there = refl;
      of = sym (place_is a n.of e);
      names = ap (λ b. cond b n.names (names_of ns a)) e;
    }
    by false e k' on = later e (on k')

-- what is declared has an index, that of a place or one before it
declared_by : (first : ℕ) (all : List Naming) (i : ℕ) (n : Naming) → slice_get all i ≡ Some n
    → (k : ℕ) × (declarer_from first all n.of ≡ Some k) × (k ≤ first + i)
declared_by first [] i n h = absurd (none-some n h)
declared_by first (m ∷ ms) zero n h =
    let same : m ≡ n = same_Some m n h in (
      first,
      ap (λ b. cond b (Some first) (declarer_from (first + 1) ms n.of))
          (ap (λ (x : Naming). same_place n.of x.of) same ∙ place_self n.of),
      omega arith,
    )
declared_by first (m ∷ ms) (suc i) n h = by (same_place n.of m.of) refl (declared_by (first + 1) ms i n h)
  where
    by : (b : Bool) → same_place n.of m.of ≡ b
        → (k : ℕ) × (declarer_from (first + 1) ms n.of ≡ Some k) × (k ≤ first + 1 + i)
        → (k : ℕ) × (cond (same_place n.of m.of) (Some first) (declarer_from (first + 1) ms n.of) ≡ Some k)
        × (k ≤ first + suc i)
    by true e rest = (first, ap (λ b. cond b (Some first) (declarer_from (first + 1) ms n.of)) e, omega arith)
    by false e rest = (
      rest.0,
      ap (λ b. cond b (Some first) (declarer_from (first + 1) ms n.of)) e
          ∙ rest.1,
      (let less = rest.2 in omega arith),
    )

-- nothing is past the end
beyond : (xs : List Naming) (i : ℕ) → slice_get xs i ≡ None → length xs ≤ i
beyond [] i e = omega arith
beyond (x ∷ xs) zero e = absurd (none-some x (sym e))
beyond (x ∷ xs) (suc i) e = let rest = beyond xs i e in omega arith

pub among_at : {A : Type 0} (xs : List A) (x : A) → Among x xs → (i : ℕ) × (slice_get xs i ≡ Some x)
among_at [] x m = absurd m
among_at (y ∷ ys) x (inl here) = (0, ap Some here)
among_at (y ∷ ys) x (inr later) = let rest = among_at ys x later in (suc rest.0, rest.1)

mapped_at : (all : List Naming) (a : DeclAt) → Among a (types_declared all)
    → (i : ℕ) × (n : Naming) × (slice_get all i ≡ Some n) × (n.of ≡ a)
mapped_at [] a m = absurd m
mapped_at (n ∷ ns) a (inl here) = (0, n, refl, here)
mapped_at (n ∷ ns) a (inr later) = let rest = mapped_at ns a later in (suc rest.0, rest.1, rest.2, rest.3)

module _ (all : List Naming) where
  -- a type that names another has an index
  has_index : (a b : DeclAt) → Among b (names_of all a) → (k : ℕ) × (declarer all a ≡ Some k)
  has_index a b m =
      let at = mapped_at all a (named_declared all a b m) in
      let found = declared_by 0 all at.0 at.1 at.2 in
      (found.0, ap (declarer all) (sym at.3) ∙ found.1)

  -- the successors of the first that declares a type
  nexts : (k : ℕ) (n : Naming) → slice_get all k ≡ Some n
      → successors (graph_of all) k ≡ filter_map (declarer all) n.names
  nexts k n h = get_or_from_slice_get (graph_of all) k (filter_map (declarer all) n.names) []
      (slice_get-map (λ (x : Naming). filter_map (declarer all) x.names) all k ∙ ap f h)
    where
      f : Option Naming → Option (List ℕ)
      f None = None
      f (Some x) = Some (filter_map (declarer all) x.names)

  index_nexts : (a : DeclAt) (k : ℕ) → declarer all a ≡ Some k
      → successors (graph_of all) k ≡ filter_map (declarer all) (names_of all a)
  index_nexts a k h =
      let d = declares 0 all a k h in
      let same : k ≡ d.place = d.counted ∙ zero-add d.place in
      ap (successors (graph_of all)) same ∙ nexts d.place d.naming d.there
      ∙ ap (filter_map (declarer all)) (sym d.names)

  -- ---- from the graph to types

  -- an edge leads to the first that declares a type
  edge_to : (k j : ℕ) → graph.Names (graph_of all) k j → (c : DeclAt) × (declarer all c ≡ Some j)
  edge_to k j names = by (slice_get all k) refl
    where
      by : (o : Option Naming) → slice_get all k ≡ o → (c : DeclAt) × (declarer all c ≡ Some j)
      by None e =
          absurd (past_names (graph_of all) k j
          (subst (λ l. l ≤ k) (sym (length-map all (λ (x : Naming). filter_map (declarer all) x.names)))
          (beyond all k e)) names)
      by (Some n) e =
          let kept = among_kept (declarer all) n.names j
          (subst (λ l. Among j l) (nexts k n e) (among (successors (graph_of all) k) j names)) in
          (kept.0, kept.2)

  path_to : (k j : ℕ) → graph.Leads (graph_of all) k j → (c : DeclAt) × (declarer all c ≡ Some j)
  path_to k j (graph.directly x y names) = edge_to x y names
  path_to k j (graph.onward x m y names rest) = path_to m y rest

  edge_from : (a : DeclAt) (k j : ℕ) → declarer all a ≡ Some k → graph.Names (graph_of all) k j
      → (c : DeclAt) × Among c (names_of all a) × (declarer all c ≡ Some j)
  edge_from a k j h names =
      among_kept (declarer all) (names_of all a) j
      (subst (λ l. Among j l) (index_nexts a k h) (among (successors (graph_of all) k) j names))

  path_leads : (a : DeclAt) (k j : ℕ) → declarer all a ≡ Some k → graph.Leads (graph_of all) k j
      → (c : DeclAt) × (declarer all c ≡ Some j) × Leads all a c
  path_leads a k j h (graph.directly x y names) =
      let e = edge_from a x y h names in (e.0, e.2, directly a e.0 (contains (names_of all a) e.0 e.1))
  path_leads a k j h (graph.onward x m y names rest) =
      let e = edge_from a x m h names in
      let on = path_leads e.0 m y e.2 rest in
      (on.0, on.1, onward a e.0 on.0 (contains (names_of all a) e.0 e.1) on.2)

  -- what has one index is one type
  one_type : (a c : DeclAt) (k : ℕ) → declarer all a ≡ Some k → declarer all c ≡ Some k → a ≡ c
  one_type a c k h g =
      let d = declares 0 all a k h in
      let e = declares 0 all c k g in
      let same : d.place ≡ e.place = sym (d.counted ∙ zero-add d.place) ∙ (e.counted ∙ zero-add e.place) in
      let naming : d.naming
      ≡ e.naming = same_Some d.naming e.naming (sym d.there ∙ ap (slice_get all) same ∙ e.there) in
      sym d.of ∙ ap (λ (n : Naming). n.of) naming ∙ e.of

  -- what is on a cycle is infinite
  cycle_infinite : (k : ℕ) → IsOnCycle (graph_of all) k
      → (n : Naming) × (slice_get all k ≡ Some n) × (is_infinite all n.of ≡ true)
  cycle_infinite k on =
      let target = path_to k k on in
      let path = path_leads target.0 k k target.1 on in
      let d = declares 0 all target.0 k target.1 in
      let same : d.place ≡ k = sym (d.counted ∙ zero-add d.place) in
      let back : Leads all target.0 target.0 = subst (λ c. Leads all target.0 c)
      (one_type path.0 target.0 k path.1 target.1) path.2 in (
        d.naming,
        ap (slice_get all) (sym same) ∙ d.there,
        ap (is_infinite all) d.of
            ∙ infinite_to all target.0 back,
      )

  -- ---- from types to the graph

  edge_there : (a b : DeclAt) (k j : ℕ) → declarer all a ≡ Some k → declarer all b ≡ Some j
      → Among b (names_of all a) → graph.Names (graph_of all) k j
  edge_there a b k j h g m =
      contains (successors (graph_of all) k) j
      (subst (λ l. Among j l) (sym (index_nexts a k h)) (kept_among (declarer all) (names_of all a) b j m g))

  leads_path : (a c : DeclAt) (k j : ℕ) → Leads all a c → declarer all a ≡ Some k → declarer all c ≡ Some j
      → graph.Leads (graph_of all) k j
  leads_path a c k j (directly x y names) h g = graph.directly k j
      (edge_there x y k j h g (among (names_of all x) y names))
  leads_path a c k j (onward x b y names rest) h g =
      let m = next_index b y rest in
      graph.onward k m.0 j (edge_there x b k m.0 h m.1 (among (names_of all x) b names))
      (leads_path b y m.0 j rest m.1 g)
    where
      next_index : (u v : DeclAt) → Leads all u v → (i : ℕ) × (declarer all u ≡ Some i)
      next_index u v (directly p q n) = has_index p q (among (names_of all p) q n)
      next_index u v (onward p q r n rest) = has_index p q (among (names_of all p) q n)

  -- what is infinite is on a cycle
  infinite_cycle : (i : ℕ) (n : Naming) → slice_get all i ≡ Some n → is_infinite all n.of ≡ true
      → (k : ℕ) × (k ≤ i) × IsOnCycle (graph_of all) k
  infinite_cycle i n h infinite =
      let found = declared_by 0 all i n h in
      let less = found.2 in (
        found.0,
        omega arith,
        leads_path n.of n.of found.0 found.0
            (infinite_from all n.of infinite) found.1 found.1,
      )

  -- ---- the first

  not_infinite : (i : ℕ) (n : Naming) → slice_get all i ≡ Some n
      → ((k : ℕ) → k ≤ i → ¬ IsOnCycle (graph_of all) k) → is_infinite all n.of ≡ false
  not_infinite i n h free = by (is_infinite all n.of) refl
    where
      by : (b : Bool) → is_infinite all n.of ≡ b → b ≡ false
      by true e = let on = infinite_cycle i n h e in absurd (free on.0 on.1 on.2)
      by false e = refl

  -- the first on a cycle is there
  pub first_within : (k : ℕ) → IsFirstOnCycle (graph_of all) k → k < length all
  first_within k first = let on = cycle_infinite k first.0 in slice_get_within all k on.0 on.1

  -- and declares the first type that is infinite
  pub first_is : (k : ℕ) (d : Naming) → d ≡ get_or all k d → IsFirstOnCycle (graph_of all) k
      → Some d.of ≡ first_infinite all
  first_is k d is first =
      let on = cycle_infinite k first.0 in
      let same : d ≡ on.0 = is ∙ get_or_from_slice_get all k on.0 d on.1 in
      ap (λ (n : Naming). Some n.of) same
      ∙ sym (found_first (is_infinite all) (types_declared all) k on.0.of (types_at k on.0 on.1) on.2 before)
    where
      types_at : (i : ℕ) (n : Naming) → slice_get all i ≡ Some n
          → slice_get (types_declared all) i ≡ Some n.of
      types_at i n h = slice_get-map (λ (x : Naming). x.of) all i ∙ ap f h
        where
          f : Option Naming → Option DeclAt
          f None = None
          f (Some x) = Some x.of

      at_types : (xs : List Naming) (i : ℕ) (a : DeclAt) → slice_get (types_declared xs) i ≡ Some a
          → (n : Naming) × (slice_get xs i ≡ Some n) × (n.of ≡ a)
      at_types [] i a h = absurd (none-some a h)
      at_types (x ∷ xs) zero a h = (x, refl, same_Some x.of a h)
      at_types (x ∷ xs) (suc i) a h = at_types xs i a h

      before : (i : ℕ) (a : DeclAt) → i < k → slice_get (types_declared all) i ≡ Some a
          → is_infinite all a ≡ false
      before i a below h =
          let n = at_types all i a h in
          ap (is_infinite all) (sym n.2) ∙ not_infinite i n.0 n.1 (λ j less on. first.1 j (omega arith) on)

  -- where none is on a cycle, no type is infinite
  pub none_is : HasNoCycle (graph_of all) → None ≡ first_infinite all
  none_is free =
      sym (found_none (is_infinite all) (types_declared all)
      (λ a m. let n = mapped_at all a m in ap (is_infinite all) (sym n.3)
      ∙ not_infinite n.0 n.1 n.2 (λ k less on. free k on)))
