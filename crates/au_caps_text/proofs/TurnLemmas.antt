-- Edges that are turned, and what leads where then.
use Rattle.std.proofs.Common.{◌≡◌, ℕ, ◌+◌, ◌<◌, ◌≤◌, List, [], ◌∷◌, ◌++◌, length, get_or, replicate, take, refl}
use Rattle.std.proofs.Common.{sym, ap, ◌∙◌, subst, inl, inr, ⊎_elim, arith, length-set}
use Rattle.std.specs.Prelude.{◌⊎◌, ◌↔◌, Contains}
use Rattle.std.proofs.lemmas.Bool.{cases_eq, cases_lt}
use Rattle.std.proofs.lemmas.List.{get_or-replicate, length-replicate, set_past, take_more}
use Rattle.std.proofs.lemmas.List.Elements.{Contains-append_left, Contains-push, Contains-push_cases}
use Rattle.au_base.proofs.ListLemmas.{nothing_there}
use Rattle.au_graphs.specs.Cycles.{successors, Names, Leads, directly, onward, with_edge}
use Rattle.au_graphs.proofs.CycleLemmas.{one_more, past_names}
use Rattle.au_caps_text.specs.Spreading.{LeadsTo}
use Rattle.au_caps_text.specs.Turning.{AreAdded, IsFrom, IsTurned}
use Rattle.au_caps_text.proofs.PutLemmas.{edge_new, edge_only, edge_stays}

-- ---- edges that are added

pub added_none : (to : ℕ) (graph : List (List ℕ)) → AreAdded [] to graph graph
added_none to graph = record {
  size = refl;
  stays = λ a b names. names;
  added = λ a lt is. absurd (nothing_there a is);
  only = λ a b names. inl names;
}

module _ (nodes : List ℕ) (k : ℕ) (at to : ℕ) (graph made : List (List ℕ)) (is_next : get_or nodes k 0 ≡ at)
    (below : k < length nodes) (before : AreAdded (take k nodes) to graph made) where
  -- the nodes so far and the next one
  front : take (k + 1) nodes ≡ take k nodes ++ at ∷ []
  front = take_more nodes k 0 below ∙ (let P : ℕ → Type 0 = λ x. take k nodes ++ get_or nodes k 0 ∷ [] ≡ take k nodes ++ x ∷ [] in subst P is_next refl)

  old_or_next : (a : ℕ) → Contains (take (k + 1) nodes) a → Contains (take k nodes) a ⊎ (at ≡ a)
  old_or_next a is = Contains-push_cases (take k nodes) at a (subst (λ xs. Contains xs a) front is)

  still : (a : ℕ) → Contains (take k nodes) a → Contains (take (k + 1) nodes) a
  still a is = subst (λ xs. Contains xs a) (sym front) (Contains-append_left (take k nodes) (at ∷ []) a is)

  next_in : Contains (take (k + 1) nodes) at
  next_in = subst (λ xs. Contains xs at) (sym front) (Contains-push (take k nodes) at)

  added_below : at < length graph → AreAdded (take (k + 1) nodes) to graph (with_edge made at to)
  added_below lt =
      let within : at < length made = let size = before.size in omega arith in
      record {
        size = length-set made at (successors made at ++ to ∷ []) ∙ before.size;
        stays = λ a b names. edge_stays made at to within a b (before.stays a b names);
        added = λ a below is.
            ⊎_elim (λ old. edge_stays made at to within a to (before.added a below old))
            (λ same. subst (λ x. Names (with_edge made at to) x to) same (edge_new made at to within)) (old_or_next a is);
        only = λ a b names.
            ⊎_elim
            (λ old. ⊎_elim (λ was. inl was) (λ is. inr (is.0, still a is.1)) (before.only a b old))
            (λ new. inr (new.0, subst (λ x. Contains (take (k + 1) nodes) x) (sym new.1) next_in))
            (edge_only made at to within a b names);
      }

  -- an edge from a number that no node has isn't added
  added_past : length graph ≤ at → AreAdded (take (k + 1) nodes) to graph made
  added_past past = record {
    size = before.size;
    stays = before.stays;
    added = λ a below is.
        ⊎_elim (λ old. before.added a below old) (λ (same : at ≡ a). absurd (omega arith)) (old_or_next a is);
    only = λ a b names. ⊎_elim (λ was. inl was) (λ is. inr (is.0, still a is.1)) (before.only a b names);
  }

  pub added_more : AreAdded (take (k + 1) nodes) to graph (with_edge made at to)
  added_more =
      ⊎_elim added_below
      (λ past. subst (λ (g : List (List ℕ)). AreAdded (take (k + 1) nodes) to graph g)
      (sym (set_past made at (successors made at ++ to ∷ []) (let size = before.size in omega arith))) (added_past past))
      (cases_lt at (length graph))

-- ---- turned edges

-- the edges of the nodes below a number are turned
pub record TurnedTo (graph made : List (List ℕ)) (k : ℕ) : Type 0 where
  pub size : length made ≡ length graph
  pub edges : (a b : ℕ) → a < length graph → Names made a b ↔ ((b < k) × Names graph b a)

pub turned_none : (graph : List (List ℕ)) (n : ℕ) → n ≡ length graph → (made : List (List ℕ)) → made ≡ replicate n []
    → TurnedTo graph made 0
turned_none graph n size made is =
    let sized : length made ≡ length graph = ap (λ (g : List (List ℕ)). length g) is ∙ length-replicate n [] ∙ size in
    record {
      size = sized;
      edges = λ a b lt. (
        λ names. absurd (nothing_there b (subst (λ (xs : List ℕ). Contains xs b) (get_or-replicate n a [] [] (omega arith))
            (subst (λ (g : List (List ℕ)). Names g a b) is names))),
        λ p. let no : b < 0 = p.0 in absurd (omega arith),
      );
    }

module _ (graph made next : List (List ℕ)) (k : ℕ) (before : TurnedTo graph made k)
    (added : AreAdded (successors graph k) k made next) where
  pub turned_more : TurnedTo graph next (k + 1)
  turned_more = record {
    size = added.size ∙ before.size;
    edges = λ a b lt. (
      λ names. ⊎_elim
          (λ old. let was = (before.edges a b lt).0 old in (omega (arith, was.0), was.1))
          (λ new. let same : b ≡ k = new.0 in (omega arith, subst (λ x. Names graph x a) (sym same) new.1))
          (added.only a b names),
      λ is. ⊎_elim
          (λ same. subst (λ x. Names next a x) (sym same)
          (added.added a (let size = before.size in omega arith) (subst (λ x. Names graph x a) same is.1)))
          (λ apart. let low : b < k + 1 = is.0 in added.stays a b ((before.edges a b lt).1 (omega arith, is.1)))
          (cases_eq b k),
    );
  }

pub turned_all : (graph made : List (List ℕ)) (k : ℕ) → length graph ≤ k → TurnedTo graph made k → IsTurned graph made
turned_all graph made k past before = record {
  size = before.size;
  edges = λ a b lt. (
    λ names. ((before.edges a b lt).0 names).1,
    λ names. (before.edges a b lt).1
        (⊎_elim (λ below. below) (λ above. absurd (past_names graph b a (let p = past in omega arith) names)) (cases_lt b k), names),
  );
}

-- ---- what leads where

module _ (graph back : List (List ℕ)) (turned : IsTurned graph back) where
  -- an edge there begins at a node
  begins : (a b : ℕ) → Names back a b → a < length graph
  begins a b names =
      ⊎_elim (λ below. below) (λ past. absurd (past_names back a b (let size = turned.size in omega arith) names))
      (cases_lt a (length graph))

  from_back : (s a : ℕ) → Leads back s a → Leads graph a s
  from_back s a (directly x y names) = directly y x ((turned.edges x y (begins x y names)).0 names)
  from_back s a (onward x y z names rest) =
      one_more graph z y x (from_back y z rest) ((turned.edges x y (begins x y names)).0 names)

  -- the node that a path there begins at
  begins_path : (s a : ℕ) → Leads back s a → s < length graph
  begins_path s a (directly x y names) = begins x y names
  begins_path s a (onward x y z names rest) = begins x y names

  into_back : (a s : ℕ) → s < length graph → Leads graph a s → Leads back s a
  into_back a s lt (directly x y names) = directly y x ((turned.edges y x lt).1 names)
  into_back a s lt (onward x y z names rest) =
      one_more back z y x (into_back y z lt rest) ((turned.edges y x (inner y z rest)).1 names)
    where
      inner : (x y : ℕ) → Leads graph x y → x < length graph
      inner x y (directly u v edge) =
          ⊎_elim (λ below. below) (λ past. absurd (past_names graph u v past edge)) (cases_lt u (length graph))
      inner x y (onward u v w edge more) =
          ⊎_elim (λ below. below) (λ past. absurd (past_names graph u v past edge)) (cases_lt u (length graph))

  -- what is reached there leads to one of the starts
  pub reached_back : (starts : List ℕ) (a : ℕ) → a < length graph → IsFrom back starts a ↔ LeadsTo graph starts a
  reached_back starts a lt = (
    λ from. ⊎_elim
        (λ same. (from.0, let P : ℕ → Type 0 = λ x. x < length graph in subst P (sym same) lt, from.1, inl (sym same)))
        (λ leads. (from.0, begins_path from.0 a leads, from.1, inr (from_back from.0 a leads)))
        from.2,
    λ to. ⊎_elim
        (λ same. (to.0, to.2, inl (sym same)))
        (λ leads. (to.0, to.2, inr (into_back a to.0 to.1 leads)))
        to.3,
  )
