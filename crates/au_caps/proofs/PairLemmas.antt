-- Graphs that are made of pairs.
use Rattle.std.proofs.Common.{◌≡◌, ℕ, ◌+◌, ◌<◌, ◌≤◌, ◌⊎◌, ⊎_elim, List, [], ◌∷◌, ◌++◌, length, get_or}
use Rattle.std.proofs.Common.{replicate}
use Rattle.std.proofs.Common.{take, sym, ap, ◌∙◌, subst, Contains, arith, length-set}
use Rattle.std.proofs.lemmas.Bool.{cases_lt}
use Rattle.std.proofs.lemmas.List.{get_or-replicate, length-replicate, set_past, take_more}
use Rattle.std.proofs.lemmas.List.Elements.{Contains-append_left, Contains-push, Contains-push_cases}
use Rattle.au_base.proofs.ListLemmas.{nothing_there}
use Rattle.au_graphs.specs.Cycles.{Names, successors, with_edge}
use Rattle.au_graphs.proofs.CycleLemmas.{past_names}
use Rattle.au_caps_text.proofs.PutLemmas.{edge_new, edge_only, edge_stays}
use Rattle.au_caps.specs.Webs.{IsGraphOf}

pub made_none : (n : ℕ) (graph : List (List ℕ)) → graph ≡ replicate n [] → IsGraphOf n [] graph
made_none n graph is = record {
  size = long;
  names = λ a b. (
    λ names. absurd (nothing_there b (empty a b names)),
    λ p. absurd (nothing_there (a, b) p.1),
  );
}
  where
    long : length graph ≡ n
    long = ap (λ (g : List (List ℕ)). length g) is ∙ length-replicate n []

    empty : (a b : ℕ) → Names graph a b → Contains [] b
    empty a b names =
        ⊎_elim
        (λ (low : a < n). subst (λ (xs : List ℕ). Contains xs b) (get_or-replicate n a [] [] low)
        (subst (λ (g : List (List ℕ)). Names g a b) is names))
        (λ (past : n ≤ a). absurd (past_names graph a b (let size = long in omega arith) names))
        (cases_lt a n)

module _ (nodes : ℕ) (es : List (ℕ × ℕ)) (e : ℕ × ℕ) (graph : List (List ℕ))
    (before : IsGraphOf nodes es graph) where
  abbrev next : List (List ℕ)
  next = with_edge graph e.0 e.1

  old : (a b : ℕ) → (a < nodes) × Contains es (a, b) → (a < nodes) × Contains (es ++ e ∷ []) (a, b)
  old a b p = (p.0, Contains-append_left es (e ∷ []) (a, b) p.1)

  below : e.0 < nodes → IsGraphOf nodes (es ++ e ∷ []) next
  below low =
      let within : e.0 < length graph = (let size = before.size in omega arith) in
      record {
        size = length-set graph e.0 (successors graph e.0 ++ e.1 ∷ []) ∙ before.size;
        names = λ a b. (
          λ names. ⊎_elim (λ was. old a b ((before.names a b).0 was))
              (λ new. (
                subst (λ (x : ℕ). x < nodes) (sym new.1) low,
                subst (λ (p : ℕ × ℕ). Contains (es ++ e ∷ []) p) (λ i. (sym new.1 i, sym new.0 i))
                    (Contains-push es e),
              ))
              (edge_only graph e.0 e.1 within a b names),
          λ p. ⊎_elim (λ there. edge_stays graph e.0 e.1 within a b ((before.names a b).1 (p.0, there)))
              (λ same. subst (λ (q : ℕ × ℕ). Names next q.0 q.1) same (edge_new graph e.0 e.1 within))
              (Contains-push_cases es e (a, b) p.1),
        );
      }

  past : nodes ≤ e.0 → IsGraphOf nodes (es ++ e ∷ []) graph
  past high = record {
    size = before.size;
    names = λ a b. (
      λ names. old a b ((before.names a b).0 names),
      λ p. ⊎_elim (λ there. (before.names a b).1 (p.0, there))
          (λ same. let at : e.0 ≡ a = ap (λ (q : ℕ × ℕ). q.0) same in let low : a < nodes = p.0 in absurd
          (omega arith))
          (Contains-push_cases es e (a, b) p.1),
    );
  }

  one_more : IsGraphOf nodes (es ++ e ∷ []) next
  one_more =
      ⊎_elim below
      (λ high. subst (IsGraphOf nodes (es ++ e ∷ []))
      (sym (set_past graph e.0 (successors graph e.0 ++ e.1 ∷ []) (let size = before.size in omega arith)))
      (past high))
      (cases_lt e.0 nodes)

pub made_more : (nodes : ℕ) (pairs : List (ℕ × ℕ)) (i : ℕ) (none : ℕ × ℕ) (graph : List (List ℕ))
    → i < length pairs
    → IsGraphOf nodes (take i pairs) graph
    → IsGraphOf nodes (take (i + 1) pairs) (with_edge graph (get_or pairs i none).0 (get_or pairs i none).1)
made_more nodes pairs i none graph within before =
    subst (λ (l : List (ℕ × ℕ)). IsGraphOf nodes l (with_edge graph (get_or pairs i none).0
    (get_or pairs i none).1))
    (sym (take_more pairs i none within)) (one_more nodes (take i pairs) (get_or pairs i none) graph before)
