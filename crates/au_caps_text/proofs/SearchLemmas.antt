-- The steps of a search from some nodes.
use Rattle.std.proofs.Common.{◌≡◌, ℕ, ◌<◌, ◌≤◌, Bool, true, false, List, [], ◌∷◌, ◌++◌, length, get_or, replicate}
use Rattle.std.proofs.Common.{refl, sym, subst, inl, inr, ⊎_elim, arith}
use Rattle.std.specs.Prelude.{◌⊎◌, ◌↔◌, Contains}
use Rattle.std.proofs.lemmas.Bool.{both_ways, cases_lt}
use Rattle.std.proofs.lemmas.List.{get_or-replicate}
use Rattle.std.proofs.lemmas.List.Elements.{Contains-append_left, Contains-push, Contains-push_cases}
use Rattle.au_base.proofs.ListLemmas.{nothing_there}
use Rattle.au_graphs.specs.Cycles.{successors, Names, directly}
use Rattle.au_graphs.specs.Marks.{IsMarked, IsClosed, Entered}
use Rattle.au_graphs.proofs.CycleLemmas.{closed_leads, one_more, past_names}
use Rattle.au_caps_text.specs.Turning.{IsFrom}

-- A search from some starts: what it has marked is reached from them, and so is what waits; they are marked;
-- and each node that is marked waits, or all its successors are marked.
pub record Searched (graph : List (List ℕ)) (starts : List ℕ) (seen : List Bool) (work : List ℕ) : Type 0 where
  pub led : (a : ℕ) → a < length graph → IsMarked seen a → IsFrom graph starts a
  pub waits : (a : ℕ) → Contains work a → IsFrom graph starts a
  pub begun : (a : ℕ) → Contains starts a → IsMarked seen a
  pub closed : (a : ℕ) → IsMarked seen a → Contains work a ⊎ ((b : ℕ) → Names graph a b → IsMarked seen b)

-- a start is reached
itself : (graph : List (List ℕ)) (starts : List ℕ) (a : ℕ) → Contains starts a → IsFrom graph starts a
itself graph starts a is = (a, is, inl refl)

pub searched_start : (graph : List (List ℕ)) (starts : List ℕ) (n : ℕ) (seen : List Bool) (work : List ℕ) →
    n ≡ length graph → Entered starts (replicate n false) [] seen work → Searched graph starts seen work
searched_start graph starts n seen work size step =
    let past : (a : ℕ) → IsMarked (replicate n false) a → length graph ≤ a =
    λ a marked. ⊎_elim (λ below. absurd
    (both_ways (get_or (replicate n false) a true) (get_or-replicate n a false true below) marked))
    (λ above. omega arith) (cases_lt a n) in
    record {
      led = λ a lt marked.
          ⊎_elim (λ old. let above = past a old in absurd (omega arith)) (λ is. itself graph starts a is)
          (step.only a marked);
      waits = λ a is.
          ⊎_elim (λ none. absurd (nothing_there a none)) (λ is. itself graph starts a is) (step.added a is);
      begun = λ a is. step.enters a is;
      closed = λ a marked.
          ⊎_elim (λ old. inr (λ b names. absurd (past_names graph a b (past a old) names))) (λ waits. inl waits)
          (step.waits a marked);
    }

module _ (graph : List (List ℕ)) (starts : List ℕ) (seen : List Bool) (rest : List ℕ) (node : ℕ)
    (now : List Bool) (list : List ℕ) where
  -- an edge from a node that waited
  edge : Searched graph starts seen (rest ++ node ∷ []) → (a : ℕ) → Names graph node a → IsFrom graph starts a
  edge before a names =
      let from = before.waits node (Contains-push rest node) in (
        from.0,
        from.1,
        inr
            (⊎_elim
            (λ same. directly from.0 a (subst (λ x. Names graph x a) (sym same) names))
            (λ leads. one_more graph from.0 node a leads names)
            from.2),
      )

  pub searched_more : Searched graph starts seen (rest ++ node ∷ []) → Entered (successors graph node) seen
      rest now list → Searched graph starts now list
  searched_more before step = record {
    led = λ a lt marked. ⊎_elim (λ old. before.led a lt old) (λ names. edge before a names) (step.only a marked);
    waits = λ a is.
        ⊎_elim (λ old. before.waits a (Contains-append_left rest (node ∷ []) a old))
        (λ names. edge before a names) (step.added a is);
    begun = λ a is. step.stay a (before.begun a is);
    closed = λ a marked.
        ⊎_elim
        (λ was. ⊎_elim
        (λ waited. ⊎_elim
        (λ waits. inl (step.kept a waits))
        (λ same. inr (λ b names. step.enters b (subst (λ x. Names graph x b) (sym same) names)))
        (Contains-push_cases rest node a waited))
        (λ all. inr (λ b names. step.stay b (all b names)))
        (before.closed a was))
        (λ waits. inl waits)
        (step.waits a marked);
  }

-- where nothing waits, what is marked is what is reached
pub searched_end : (graph : List (List ℕ)) (starts : List ℕ) (seen : List Bool) (work : List ℕ) →
    Searched graph starts seen work → work ≡ [] → (a : ℕ) → a < length graph → IsMarked seen a
    ↔ IsFrom graph starts a
searched_end graph starts seen work searched none a lt =
    let done = subst (Searched graph starts seen) none searched in
    let closed : IsClosed graph seen =
    λ x y marked names. ⊎_elim (λ waits. absurd (nothing_there x waits)) (λ all. all y names) (done.closed x marked) in (
      λ marked. done.led a lt marked,
      λ from. ⊎_elim
          (λ same. subst (IsMarked seen) same (done.begun from.0 from.1))
          (λ leads. closed_leads graph seen from.0 a closed leads (done.begun from.0 from.1))
          from.2,
    )
