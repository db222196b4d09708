-- Tables of what declares types, and the graph that is made by them.
use Rattle.std.proofs.Common.{◌≡◌, ℕ, zero, suc, ◌+◌, ◌-◌, ◌<◌, Bool, true, false, cond, List, [], ◌∷◌, ◌++◌}
use Rattle.std.proofs.Common.{length, map, take, get_or, set, replicate, Option, None, Some, is_some, refl}
use Rattle.std.proofs.Common.{sym, ap, ◌∙◌, append_assoc, arith, true≢false, zero-add}
use Rattle.std.specs.Prelude.{option_to_list}
use Rattle.std.specs.List.{cons_option, filter_map}
use Rattle.std.specs.Option.{option_or}
use Rattle.std.proofs.lemmas.List.{append-nil, get_or-set_same, get_or_at, length-append, length-map}
use Rattle.std.proofs.lemmas.List.{length-replicate, length-take-le, map_push, set-set, set-get_or, set_at}
use Rattle.std.proofs.lemmas.List.{take_all, take_more}
use Rattle.std.proofs.lemmas.List.Elements.{filter_map-append}
use Rattle.au_graphs.specs.Cycles.{successors}
use Rattle.au_types.specs.declared.types.DeclAt.{DeclAt}
use Rattle.au_types.specs.Rows.{same_place}
use Rattle.au_types.proofs.SameLemmas.{place_is}
use Rattle.au_imports.specs.Choices.{where_so}
use Rattle.au_formed.specs.declared.namings.Naming.{Naming}
use Rattle.au_formed.specs.Graphs.{declarer, declarer_from, graph_by, graph_of, index_at}

-- ---- tables

-- one more at the end
pub index_push : (t : List (DeclAt × ℕ)) (at : DeclAt) (i : ℕ) (a : DeclAt)
    → index_at (t ++ (at, i) ∷ []) a ≡ option_or (index_at t a) (where_so (same_place a at) i)
index_push [] at i a = refl
index_push (p ∷ ps) at i a = by (same_place a p.0) (index_push ps at i a)
  where
    by : (b : Bool) → index_at (ps ++ (at, i) ∷ []) a
        ≡ option_or (index_at ps a) (where_so (same_place a at) i)
        → cond b (Some p.1) (index_at (ps ++ (at, i) ∷ []) a)
        ≡ option_or (cond b (Some p.1) (index_at ps a)) (where_so (same_place a at) i)
    by true rest = refl
    by false rest = rest

-- one that is there stays
pub index_stays : (t : List (DeclAt × ℕ)) (at : DeclAt) (i : ℕ) (a : DeclAt) → is_some (index_at t at) ≡ true
    → index_at t a ≡ option_or (index_at t a) (where_so (same_place a at) i)
index_stays t at i a has = by (same_place a at) refl (index_at t a) refl
  where
    by : (b : Bool) → same_place a at ≡ b → (o : Option ℕ) → index_at t a ≡ o
        → index_at t a ≡ option_or (index_at t a) (where_so (same_place a at) i)
    by b e (Some x) is = is ∙ sym (ap (λ o. option_or o (where_so (same_place a at) i)) is)
    by false e None is = is
        ∙ sym (ap (λ o. option_or o (where_so (same_place a at) i)) is ∙ ap (λ c. where_so c i) e)
    by true e None is = absurd
        (true≢false (sym has ∙ ap (λ p. is_some (index_at t p)) (sym (place_is a at e)) ∙ ap is_some is))

declarer_push : (first : ℕ) (ns : List Naming) (n : Naming) (a : DeclAt)
    → declarer_from first (ns ++ n ∷ []) a
    ≡ option_or (declarer_from first ns a) (where_so (same_place a n.of) (first + length ns))
declarer_push first [] n a = let same : first
    ≡ first + 0 = omega arith in ap (λ i. where_so (same_place a n.of) i) same
declarer_push first (m ∷ ms) n a = by (same_place a m.of) (declarer_push (first + 1) ms n a)
  where
    by : (b : Bool) → declarer_from (first + 1) (ms ++ n ∷ []) a
        ≡ option_or (declarer_from (first + 1) ms a) (where_so (same_place a n.of) (first + 1 + length ms))
        → cond b (Some first) (declarer_from (first + 1) (ms ++ n ∷ []) a)
        ≡ option_or (cond b (Some first) (declarer_from (first + 1) ms a))
        (where_so (same_place a n.of) (first + suc (length ms)))
    by true rest = refl
    by false rest =
        let same : first + 1 + length ms ≡ first + suc (length ms) = omega arith in
        rest ∙ ap (λ i. option_or (declarer_from (first + 1) ms a) (where_so (same_place a n.of) i)) same

pub declarer_more : (ns : List Naming) (i : ℕ) (n : Naming) (a : DeclAt) → i < length ns → n ≡ get_or ns i n
    → declarer (take (i + 1) ns) a ≡ option_or (declarer (take i ns) a) (where_so (same_place a n.of) i)
declarer_more ns i n a within is =
    let same : 0 + length (take i ns) ≡ i = zero-add (length (take i ns))
    ∙ length-take-le i ns (omega arith) in
    ap (λ xs. declarer xs a) (take_more ns i n within ∙ ap (λ x. take i ns ++ x ∷ []) (sym is))
    ∙ declarer_push 0 (take i ns) n a
    ∙ ap (λ k. option_or (declarer (take i ns) a) (where_so (same_place a n.of) k)) same

-- ---- edges

kept_same : {A B : Type 0} (f g : A → Option B) → ((x : A) → f x ≡ g x) → (xs : List A)
    → filter_map f xs ≡ filter_map g xs
kept_same f g same [] = refl
kept_same f g same (x ∷ xs) = ap (λ o. cons_option o (filter_map f xs)) (same x)
    ∙ ap (cons_option (g x)) (kept_same f g same xs)

-- the graph by a table in which each type has the first that declares it
pub graph_same : (f : DeclAt → Option ℕ) (ns all : List Naming) → ((a : DeclAt) → f a ≡ declarer all a)
    → graph_by f ns ≡ graph_by (declarer all) ns
graph_same f [] all same = refl
graph_same f (n ∷ ns) all same = ap (λ l. l ∷ graph_by f ns) (kept_same f (declarer all) same n.names)
    ∙ ap (λ g. filter_map (declarer all) n.names ∷ g) (graph_same f ns all same)

-- one or none, as a list
pub one_listed : {A : Type 0} (o : Option A) → option_to_list o ≡ cons_option o []
one_listed None = refl
one_listed (Some x) = refl

-- edges of one node, none and one more
pub edges_none : (graph : List (List ℕ)) (from : ℕ) → graph ≡ set graph from (successors graph from ++ [])
edges_none graph from = sym
    (ap (set graph from) (append-nil (successors graph from)) ∙ set-get_or graph from [])

pub edges_more : (graph : List (List ℕ)) (from : ℕ) (f : DeclAt → Option ℕ) (names : List DeclAt) (i : ℕ)
    (a : DeclAt) → from < length graph → i < length names → a ≡ get_or names i a
    → set (set graph from (successors graph from ++ filter_map f (take i names))) from
    (successors (set graph from (successors graph from ++ filter_map f (take i names))) from
    ++ option_to_list (f a))
    ≡ set graph from (successors graph from ++ filter_map f (take (i + 1) names))
edges_more graph from f names i a within below is =
    let old = successors graph from in
    let so_far = filter_map f (take i names) in
    ap (λ l. set (set graph from (old ++ so_far)) from
    (successors (set graph from (old ++ so_far)) from ++ l)) (one_listed (f a))
    ∙ set-set graph from (old ++ so_far)
    (successors (set graph from (old ++ so_far)) from ++ cons_option (f a) [])
    ∙ ap (λ l. set graph from (l ++ cons_option (f a) []))
    (get_or-set_same graph from (old ++ so_far) [] within)
    ∙ ap (set graph from) (append_assoc old so_far (cons_option (f a) []))
    ∙ ap (λ l. set graph from (old ++ l))
    (sym (ap (filter_map f) (take_more names i a below ∙ ap (λ x. take i names ++ x ∷ []) (sym is))
    ∙ filter_map-append f (take i names) (a ∷ [])))

-- the graph of the first nodes, and the others without edges
abbrev pub partly : (DeclAt → Option ℕ) → List Naming → ℕ → List (List ℕ)
partly f ns i = graph_by f (take i ns) ++ replicate (length ns - i) []

pub graph_start : (f : DeclAt → Option ℕ) (ns : List Naming) → replicate (length ns) [] ≡ partly f ns 0
graph_start f ns = let same : length ns ≡ length ns - 0 = omega arith in ap (λ n. replicate n []) same

pub graph_more : (f : DeclAt → Option ℕ) (ns : List Naming) (i : ℕ) (n : Naming) → i < length ns
    → n ≡ get_or ns i n
    → set (partly f ns i) i (successors (partly f ns i) i ++ filter_map f n.names) ≡ partly f ns (i + 1)
graph_more f ns i n within is =
    let front = graph_by f (take i ns) in
    let count : length front ≡ i = length-map (take i ns) (λ (x : Naming). filter_map f x.names)
    ∙ length-take-le i ns (omega arith) in
    let left : length ns - i ≡ suc (length ns - (i + 1)) = omega arith in
    let split : partly f ns i
    ≡ front ++ [] ∷ replicate (length ns - (i + 1)) [] = ap (λ k. front ++ replicate k []) left in
    ap (λ g. set g i (successors g i ++ filter_map f n.names)) split
    ∙ ap (λ l. set (front ++ [] ∷ replicate (length ns - (i + 1)) []) i (l ++ filter_map f n.names))
    (get_or_at front [] (replicate (length ns - (i + 1)) []) [] i count)
    ∙ set_at front [] (replicate (length ns - (i + 1)) []) (filter_map f n.names) i count
    ∙ sym (append_assoc front (filter_map f n.names ∷ []) (replicate (length ns - (i + 1)) []))
    ∙ ap (λ g. g ++ replicate (length ns - (i + 1)) [])
    (sym (ap (graph_by f) (take_more ns i n within ∙ ap (λ x. take i ns ++ x ∷ []) (sym is))
    ∙ map_push (λ (x : Naming). filter_map f x.names) (take i ns) n))

pub graph_length : (f : DeclAt → Option ℕ) (ns : List Naming) (i : ℕ) → i < length ns
    → i < length (partly f ns i)
graph_length f ns i within =
    let count : length (graph_by f (take i ns))
    ≡ i = length-map (take i ns) (λ (x : Naming). filter_map f x.names)
    ∙ length-take-le i ns (omega arith) in
    let all = length-append (graph_by f (take i ns)) (replicate (length ns - i) []) in
    let rest = length-replicate {A = List ℕ} (length ns - i) [] in
    omega arith

pub graph_end : (f : DeclAt → Option ℕ) (ns : List Naming) (i : ℕ) → length ns ≡ i
    → partly f ns i ≡ graph_by f ns
graph_end f ns i done =
    let none : length ns - i ≡ 0 = omega arith in
    ap (λ k. graph_by f (take i ns) ++ replicate k []) none
    ∙ append-nil (graph_by f (take i ns))
    ∙ ap (graph_by f) (take_all i ns (omega arith))
