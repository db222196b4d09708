-- The depth and the nodes of closed types in order, and what one more of them adds.
use Rattle.std.proofs.Common.{◌≡◌, ℕ, ◌+◌, ◌<◌, List, [], ◌∷◌, ◌++◌, length, take, get_or, max, ap, ◌∙◌, sym}
use Rattle.std.proofs.lemmas.List.{take_more}
use Rattle.au_base.proofs.NumberLemmas.{max_last, max_none, plus_last, plus_none}
use Rattle.au_type_texts.specs.declared.types.Closed.{Closed}
use Rattle.au_type_texts.specs.ClosedSizes.{depth_of, list_depth, nodes_of, list_nodes}
use Rattle.au_type_texts.specs.Views.{closed_meaning, closed_meanings}

depth_push : (xs : List Closed) (x : Closed) → list_depth (closed_meanings (xs ++ x ∷ []))
    ≡ max (list_depth (closed_meanings xs)) (depth_of (closed_meaning x))
depth_push [] x = max_none (depth_of (closed_meaning x))
depth_push (y ∷ ys) x =
    ap (max (depth_of (closed_meaning y))) (depth_push ys x) ∙ max_last (depth_of (closed_meaning y))
    (list_depth (closed_meanings ys)) (depth_of (closed_meaning x))

pub depth_more : (xs : List Closed) (i : ℕ) (x : Closed) → i < length xs → x ≡ get_or xs i x →
    list_depth (closed_meanings (take (i + 1) xs)) ≡ max (list_depth (closed_meanings (take i xs)))
    (depth_of (closed_meaning x))
depth_more xs i x within is =
    ap (λ r. list_depth (closed_meanings r)) (take_more xs i x within)
    ∙ depth_push (take i xs) (get_or xs i x)
    ∙ ap (λ y. max (list_depth (closed_meanings (take i xs))) (depth_of (closed_meaning y))) (sym is)

nodes_push : (xs : List Closed) (x : Closed) → list_nodes (closed_meanings (xs ++ x ∷ []))
    ≡ list_nodes (closed_meanings xs) + nodes_of (closed_meaning x)
nodes_push [] x = plus_none (nodes_of (closed_meaning x))
nodes_push (y ∷ ys) x =
    ap (λ n. nodes_of (closed_meaning y) + n) (nodes_push ys x) ∙ plus_last (nodes_of (closed_meaning y))
    (list_nodes (closed_meanings ys)) (nodes_of (closed_meaning x))

pub nodes_more : (xs : List Closed) (i : ℕ) (x : Closed) → i < length xs → x ≡ get_or xs i x →
    list_nodes (closed_meanings (take (i + 1) xs)) ≡ list_nodes (closed_meanings (take i xs)) + nodes_of
    (closed_meaning x)
nodes_more xs i x within is =
    ap (λ r. list_nodes (closed_meanings r)) (take_more xs i x within)
    ∙ nodes_push (take i xs) (get_or xs i x)
    ∙ ap (λ y. list_nodes (closed_meanings (take i xs)) + nodes_of (closed_meaning y)) (sym is)
