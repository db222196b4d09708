-- Graphs by their vectors.
use Rattle.std.proofs.Common.{◌≡◌, ℕ, ◌+◌, ◌<◌, List, [], ◌∷◌, ◌++◌, length, get_or, set, replicate, sym, ap, ◌∙◌}
use Rattle.std.specs.Prelude.{Vec}
use Rattle.std.specs.Global.{Global}
use Rattle.std.proofs.lemmas.List.{map-set, get_or-map, map_push, replicate_more}
use Rattle.au_graphs.specs.Cycles.{with_edge}
use Rattle.au_graphs.specs.Lists.{numbers_in, lists_in}

-- a number that is added to a list
pub edge_view : (lists : List (Vec ℕ Global)) (graph : List (List ℕ)) (from to : ℕ) (old new : Vec ℕ Global) →
    lists_in lists ≡ graph → from < length lists → old ≡ get_or lists from old
    → new.items ≡ old.items ++ to ∷ [] → lists_in (set lists from new) ≡ with_edge graph from to
edge_view lists graph from to old new view below was more =
    let had = get_or-map numbers_in lists from old [] below in
    map-set numbers_in lists from new
    ∙ ap (λ (xs : List ℕ). set (lists_in lists) from xs)
    (more ∙ ap (λ (xs : List ℕ). xs ++ to ∷ []) (ap numbers_in was ∙ sym had))
    ∙ ap (λ (g : List (List ℕ)). with_edge g from to) view

-- one more node without an edge
pub node_view : (lists : List (Vec ℕ Global)) (n : ℕ) (new : Vec ℕ Global) → lists_in lists ≡ replicate n [] →
    new.items ≡ [] → lists_in (lists ++ new ∷ []) ≡ replicate (n + 1) []
node_view lists n new view none =
    map_push numbers_in lists new
    ∙ ap (λ (xs : List ℕ). lists_in lists ++ xs ∷ []) none
    ∙ ap (λ (g : List (List ℕ)). g ++ [] ∷ []) view
    ∙ replicate_more n []
