-- The heads that come to declared types over the graph are those that they reach.
use Rattle.std.proofs.Common.{◌≡◌, ℕ, zero, suc, ◌<◌, ◌⊎◌, inl, inr, Bool, true, false, cond, List}
use Rattle.std.proofs.Common.{[], ◌∷◌, filter, length, map, Option, Some, None, is_some, refl, sym, ap, subst}
use Rattle.std.proofs.Common.{◌∙◌, Contains, arith, zero-add}
use Rattle.std.specs.List.{filter_map}
use Rattle.std.specs.Map.{lookup}
use Rattle.std.specs.Option.{option_map}
use Rattle.std.specs.Prelude.{◌↔◌, slice_get}
use Rattle.std.proofs.lemmas.List.{length-map}
use Rattle.std.proofs.lemmas.Option.{none-some, same_Some, slice_get-map, slice_get_within}
use Rattle.std.proofs.lemmas.Option.{get_or_from_slice_get}
use Rattle.au_base.proofs.ListLemmas.{nothing_there}
use Rattle.au_graphs.specs.Cycles.{successors}
use Rattle.au_graphs.specs.Cycles as graph
use Rattle.au_syntax.specs.Plain.{Bytes}
use Rattle.au_types.specs.declared.headings.Head.{Head}
use Rattle.au_types.specs.declared.types.DeclAt.{DeclAt}
use Rattle.au_types.specs.Rows as rows
use Rattle.au_types.specs.Rows.{same_place}
use Rattle.au_types.proofs.SameLemmas.{place_is}
use Rattle.au_modules.specs.Programs.{ModuleParts}
use Rattle.au_names.specs.HeadsOf.{heads_of}
use Rattle.au_names.specs.Standing.{standing_at}
use Rattle.au_names.proofs.AmongLemmas.{Among, among, contains}
use Rattle.au_formed.specs.declared.namings.Naming.{Naming}
use Rattle.au_formed.specs.Graphs.{declarer, graph_by, graph_of, index_at}
use Rattle.au_formed.proofs.DeclarerLemmas.{graph_same}
use Rattle.au_formed.specs.Infinite.{Leads, directly, onward, names_of, types_declared}
use Rattle.au_formed.proofs.GraphLemmas.{among_at}
use Rattle.au_caps_text.specs.Spreading.{AreSpread}
use Rattle.au_caps_types.specs.Heads.{head_by, head_of, is_opaque}
use Rattle.au_caps_types.specs.Naming.{naming_of, namings}
use Rattle.au_caps_types.specs.Reaching.{DeclaredReaches}
use Rattle.au_caps_types.specs.declared.reached.Reaching.{Reaching}
use Rattle.au_caps_types.specs.Views.{IsHeld, IsReaching, has_head, heads_among, itself, numbered_places}
use Rattle.au_caps_types.proofs.GraphLemmas.{among_kept, declared_by, declares, has_index, kept_among, leads_path}
use Rattle.au_caps_types.proofs.GraphLemmas.{mapped_at, one_type, path_leads}

-- ---- lists

-- what passes is kept
passes_kept : {A : Type 0} (test : A → Bool) (xs : List A) (x : A) → Among x xs → test x ≡ true
    → Among x (filter test xs)
passes_kept test [] x m e = absurd m
passes_kept {A} test (y ∷ ys) x (inl here) e =
    subst (λ b. Among x (cond b (y ∷ filter test ys) (filter test ys))) (sym (ap test here ∙ e)) (inl here)
passes_kept {A} test (y ∷ ys) x (inr later) e = by (test y) (passes_kept test ys x later e)
  where
    by : (b : Bool) → Among x (filter test ys) → Among x (cond b (y ∷ filter test ys) (filter test ys))
    by true m = inr m
    by false m = m

-- a type that names itself is the one that is listed
is_itself : (xs : List DeclAt) (p : ℕ) (one : Naming) → slice_get (map itself xs) p ≡ Some one → one ≡ itself one.of
is_itself [] p one h = absurd (none-some one h)
is_itself (x ∷ xs) zero one h =
    let same = same_Some (itself x) one h in sym same ∙ ap (λ (n : Naming). itself n.of) same
is_itself (x ∷ xs) (suc p) one h = is_itself xs p one h

-- what is declared has a number
has_number : (all : List Naming) (b : DeclAt) → Among b (types_declared all) → (k : ℕ) × (declarer all b ≡ Some k)
has_number all b m =
    let at = mapped_at all b m in
    let found = declared_by 0 all at.0 at.1 at.2 in
    (found.0, ap (declarer all) (sym at.3) ∙ found.1)

-- which is that of a node
number_below : (all : List Naming) (a : DeclAt) (k : ℕ) → declarer all a ≡ Some k → k < length (graph_of all)
number_below all a k h =
    let d = declares 0 all a k h in
    let same : k ≡ d.place = d.counted ∙ zero-add d.place in
    let less = slice_get_within all d.place d.naming d.there in
    let long = length-map all (λ (x : Naming). filter_map (declarer all) x.names) in
    omega (arith, same, less, long)

-- the successors of a node of such a graph
nexts_by : (f : DeclAt → Option ℕ) (xs : List Naming) (p : ℕ) (one : Naming) → slice_get xs p ≡ Some one
    → successors (graph_by f xs) p ≡ filter_map f one.names
nexts_by f xs p one h =
    get_or_from_slice_get (graph_by f xs) p (filter_map f one.names) []
    (slice_get-map (λ (x : Naming). filter_map f x.names) xs p ∙ ap on h)
  where
    on : Option Naming → Option (List ℕ)
    on None = None
    on (Some x) = Some (filter_map f x.names)

module _ (program : List ModuleParts) where
  -- what a row is of is declared
  row_among : (all : List (DeclAt × Head)) (b : DeclAt) (head : Head) → lookup (same_place b) all ≡ Some head
      → Among b (types_declared (map (naming_of program) all))
  row_among [] b head h = absurd (none-some head h)
  row_among (r ∷ rs) b head h = by (same_place b r.0) refl h (λ k. row_among rs b head k)
    where
      by : (c : Bool) → same_place b r.0 ≡ c → cond c (Some r.1) (lookup (same_place b) rs) ≡ Some head
          → (lookup (same_place b) rs ≡ Some head → Among b (types_declared (map (naming_of program) rs)))
          → Among b (types_declared (map (naming_of program) (r ∷ rs)))
      by true e k on = inl (sym (place_is b r.0 e))
      by false e k on = inr (on k)

  -- what has a head is declared
  has_row : (b : DeclAt) (h : Bytes) → head_of program b ≡ Some h → Among b (types_declared (namings program))
  has_row b h e = by (rows.head_of (heads_of program) b) refl e
    where
      by : (o : Option Head) → rows.head_of (heads_of program) b ≡ o
          → head_by (is_opaque (standing_at program b)) o ≡ Some h → Among b (types_declared (namings program))
      by None is k = absurd (none-some h k)
      by (Some head) is k = row_among (heads_of program) b head is

  abbrev all : List Naming
  all = namings program

  abbrev heads : List Naming
  heads = heads_among program all

  -- a declared type is found at a place of the heads
  place_of : (b : DeclAt) (h : Bytes) → head_of program b ≡ Some h → (p : ℕ) × (slice_get heads p ≡ Some (itself b))
  place_of b h e =
      let kept = passes_kept (has_head program) (types_declared all) b (has_row b h e)
      (ap (λ (o : Option Bytes). is_some o) e) in
      let at = among_at (filter (has_head program) (types_declared all)) b kept in
      (at.0, slice_get-map itself (filter (has_head program) (types_declared all)) at.0 ∙ ap (option_map itself) at.1)

  -- the node of a label is that of the declared type
  label_number : (place : ℕ) (one : Naming) (s : ℕ) → slice_get heads place ≡ Some one
      → Contains (successors (graph_by (declarer all) heads) place) s → declarer all one.of ≡ Some s
  label_number place one s there is =
      let self = is_itself (filter (has_head program) (types_declared all)) place one there in
      let nexts : successors (graph_by (declarer all) heads) place ≡ filter_map (declarer all) (one.of ∷ []) =
      nexts_by (declarer all) heads place one there
      ∙ ap (λ (n : Naming). filter_map (declarer all) n.names) self in
      let found = among_kept (declarer all) (one.of ∷ []) s
      (among (filter_map (declarer all) (one.of ∷ [])) s (subst (λ (l : List ℕ). Contains l s) nexts is)) in
      by found.0 found.1 found.2
    where
      by : (x : DeclAt) → Among x (one.of ∷ []) → declarer all x ≡ Some s → declarer all one.of ≡ Some s
      by x (inl same) e = ap (declarer all) same ∙ e
      by x (inr none) e = absurd none

  module _ (made : List (List ℕ)) (spread : AreSpread (graph_of all) (graph_by (declarer all) heads) made) where
    to : (at : DeclAt) (h : Bytes) (o : Option ℕ) → declarer all at ≡ o → (place : ℕ)
        → Contains (numbered_places made o) place → (one : Naming) → slice_get heads place ≡ Some one
        → head_of program one.of ≡ Some h → DeclaredReaches program at h
    to at h None is place has one there e = absurd (nothing_there place has)
    to at h (Some k) is place has one there e =
        let leads = (spread k place (number_below all at k is)).0 has in
        let number = label_number place one leads.0 there leads.2 in (
          one.of,
          by leads.0 number leads.3,
          e,
        )
      where
        by : (s : ℕ) → declarer all one.of ≡ Some s → (k ≡ s) ⊎ graph.Leads (graph_of all) k s
            → (at ≡ one.of) ⊎ Leads all at one.of
        by s number (inl same) = inl (one_type all at one.of s (is ∙ ap Some same) number)
        by s number (inr path) =
            let on = path_leads all at k s is path in
            inr (subst (λ (c : DeclAt). Leads all at c) (one_type all on.0 one.of s on.1 number) on.2)

    begins : (at b : DeclAt) (h : Bytes) → head_of program b ≡ Some h → (at ≡ b) ⊎ Leads all at b
        → (k : ℕ) × (declarer all at ≡ Some k)
    begins at b h e (inl same) =
        let number = has_number all b (has_row b h e) in (number.0, ap (declarer all) same ∙ number.1)
    begins at b h e (inr (directly x y names)) = has_index all x y (among (names_of all x) y names)
    begins at b h e (inr (onward x y z names rest)) = has_index all x y (among (names_of all x) y names)

    ways : (at b : DeclAt) (k s : ℕ) → declarer all at ≡ Some k → declarer all b ≡ Some s
        → (at ≡ b) ⊎ Leads all at b → (k ≡ s) ⊎ graph.Leads (graph_of all) k s
    ways at b k s is number (inl same) = inl (same_Some k s (sym is ∙ ap (declarer all) same ∙ number))
    ways at b k s is number (inr leads) = inr (leads_path all at b k s leads is number)

    pub reached : (at : DeclAt) (h : Bytes) →
        ((place : ℕ) × Contains (numbered_places made (declarer all at)) place
        × ((one : Naming) × (slice_get heads place ≡ Some one) × (head_of program one.of ≡ Some h)))
        ↔ DeclaredReaches program at h
    reached at h = (
      λ found. to at h (declarer all at) refl found.0 found.1 found.2.0 found.2.1 found.2.2,
      λ reaches. back reaches.0 reaches.1 reaches.2,
    )
      where
        back : (b : DeclAt) → (at ≡ b) ⊎ Leads all at b → head_of program b ≡ Some h
            → (place : ℕ) × Contains (numbered_places made (declarer all at)) place
            × ((one : Naming) × (slice_get heads place ≡ Some one) × (head_of program one.of ≡ Some h))
        back b leads e =
            let number = has_number all b (has_row b h e) in
            let start = begins at b h e leads in
            let place = place_of b h e in
            let nexts = nexts_by (declarer all) heads place.0 (itself b) place.1 in
            let label : Contains (successors (graph_by (declarer all) heads) place.0) number.0 =
            subst (λ (l : List ℕ). Contains l number.0) (sym nexts)
            (contains (filter_map (declarer all) (b ∷ [])) number.0
            (kept_among (declarer all) (b ∷ []) b number.0 (inl refl) number.1)) in
            let comes = (spread start.0 place.0 (number_below all at start.0 start.1)).1
            (number.0, number_below all b number.0 number.1, label, ways at b start.0 number.0 start.1 number.1 leads) in (
              place.0,
              subst (λ (o : Option ℕ). Contains (numbered_places made o) place.0) (sym start.1) comes,
              (itself b, place.1, e),
            )

-- ---- what the code holds

-- labels that spread over the same graph
pub spread_same : (g h labels others made : List (List ℕ)) → g ≡ h → labels ≡ others → AreSpread g labels made
    → AreSpread h others made
spread_same g h labels others made e f spread =
    subst (λ (x : List (List ℕ)). AreSpread x others made) e
    (subst (λ (x : List (List ℕ)). AreSpread g x made) f spread)

-- a head is reached, where these heads and places are held
abbrev pub Found : List ModuleParts → List (List ℕ) → List Naming → Option ℕ → Bytes → Type 0
Found program made hs o h =
    (place : ℕ) × Contains (numbered_places made o) place
    × ((one : Naming) × (slice_get hs place ≡ Some one) × (head_of program one.of ≡ Some h))

module _ (program : List ModuleParts) (ns hs : List Naming) (of : ns ≡ namings program)
    (of_heads : hs ≡ heads_among program ns) (r : Reaching) (held : IsHeld ns hs r) where
  same_index : (a : DeclAt) → index_at r.table a ≡ declarer (namings program) a
  same_index a = held.table a ∙ ap (λ (xs : List Naming). declarer xs a) of

  same_heads : hs ≡ heads_among program (namings program)
  same_heads = of_heads ∙ ap (λ (xs : List Naming). heads_among program xs) of

  same_graph : graph_by (index_at r.table) ns ≡ graph_of (namings program)
  same_graph =
      graph_same (index_at r.table) ns (namings program) same_index
      ∙ ap (λ (xs : List Naming). graph_by (declarer (namings program)) xs) of

  same_labels : graph_by (index_at r.table) hs ≡ graph_by (declarer (namings program)) (heads_among program (namings program))
  same_labels =
      graph_same (index_at r.table) hs (namings program) same_index
      ∙ ap (λ (xs : List Naming). graph_by (declarer (namings program)) xs) same_heads

  all_spread : AreSpread (graph_of (namings program))
      (graph_by (declarer (namings program)) (heads_among program (namings program))) r.reached
  all_spread =
      spread_same (graph_by (index_at r.table) ns) (graph_of (namings program)) (graph_by (index_at r.table) hs)
      (graph_by (declarer (namings program)) (heads_among program (namings program))) r.reached same_graph
      same_labels held.reached

  told : (at : DeclAt) (h : Bytes) → Found program r.reached r.heads.items (index_at r.table at) h
      ↔ DeclaredReaches program at h
  told at h =
      subst (λ (xs : List Naming). Found program r.reached xs (index_at r.table at) h ↔ DeclaredReaches program at h)
      (sym (held.heads ∙ same_heads))
      (subst
      (λ (o : Option ℕ). Found program r.reached (heads_among program (namings program)) o h
      ↔ DeclaredReaches program at h)
      (sym (same_index at)) (reached program r.reached all_spread at h))

  -- what has a head has a place among the heads
  head_found : (at : DeclAt) (h : Bytes) → head_of program at ≡ Some h → (l : ℕ) × (index_at r.own at ≡ Some l)
  head_found at h e =
      let there = place_of program at h e in
      let number = declared_by 0 hs there.0 (itself at)
      (ap (λ (xs : List Naming). slice_get xs there.0) same_heads ∙ there.1) in
      (number.0, held.own at ∙ number.1)

  -- and what has a place stands there
  head_placed : (at : DeclAt) (l : ℕ) → index_at r.own at ≡ Some l
      → (one : Naming) × (slice_get r.heads.items l ≡ Some one) × (one.of ≡ at)
  head_placed at l e =
      let d = declares 0 hs at l (sym (held.own at) ∙ e) in
      let same : l ≡ d.place = d.counted ∙ zero-add d.place in (
        d.naming,
        ap (λ (xs : List Naming). slice_get xs l) held.heads ∙ ap (slice_get hs) same ∙ d.there,
        d.of,
      )

  pub is_reaching : IsReaching program r
  is_reaching = record { reached = told; found = head_found; placed = head_placed }
