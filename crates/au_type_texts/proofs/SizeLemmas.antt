-- The depth and the nodes of arguments, and what one more of them adds.
use Rattle.std.proofs.Common.{◌≡◌, ℕ, ◌+◌, ◌<◌, List, [], ◌∷◌, ◌++◌, length, take, get_or, max, ap, ◌∙◌, sym, arith}
use Rattle.std.proofs.lemmas.List.{take_more}
use Rattle.au_base.proofs.NumberLemmas.{max_last, max_none, plus_last, plus_none}
use Rattle.au_types.specs.declared.types.Arg.{Arg}
use Rattle.au_types.specs.Views.{argument, argument_all}
use Rattle.au_type_texts.specs.Sizes.{argument_depth, arguments_depth, argument_nodes, arguments_nodes, counted}

-- one more part of what is counted: a before, m the part, w with it
pub raised : (d e f a m w : ℕ) → d ≡ counted a → e ≡ counted m → f ≡ max d e → w ≡ max a m → f ≡ counted w
raised d e f a m w before part both all = omega (arith, before, part, both, all)

pub summed : (d e f a m w : ℕ) → d ≡ counted a → e ≡ counted m → f ≡ counted (d + e) → w ≡ a + m → f ≡ counted w
summed d e f a m w before part both all = omega (arith, before, part, both, all)

depth_push : (xs : List Arg) (x : Arg) → arguments_depth (argument_all (xs ++ x ∷ []))
    ≡ max (arguments_depth (argument_all xs)) (argument_depth (argument x))
depth_push [] x = max_none (argument_depth (argument x))
depth_push (y ∷ ys) x =
    ap (max (argument_depth (argument y))) (depth_push ys x) ∙ max_last (argument_depth (argument y))
    (arguments_depth (argument_all ys)) (argument_depth (argument x))

pub depth_more : (xs : List Arg) (i : ℕ) (x : Arg) → i < length xs → x ≡ get_or xs i x →
    arguments_depth (argument_all (take (i + 1) xs)) ≡ max (arguments_depth (argument_all (take i xs)))
    (argument_depth (argument x))
depth_more xs i x within is =
    ap (λ r. arguments_depth (argument_all r)) (take_more xs i x within)
    ∙ depth_push (take i xs) (get_or xs i x)
    ∙ ap (λ y. max (arguments_depth (argument_all (take i xs))) (argument_depth (argument y))) (sym is)

nodes_push : (xs : List Arg) (x : Arg) → arguments_nodes (argument_all (xs ++ x ∷ []))
    ≡ arguments_nodes (argument_all xs) + argument_nodes (argument x)
nodes_push [] x = plus_none (argument_nodes (argument x))
nodes_push (y ∷ ys) x =
    ap (λ n. argument_nodes (argument y) + n) (nodes_push ys x) ∙ plus_last (argument_nodes (argument y))
    (arguments_nodes (argument_all ys)) (argument_nodes (argument x))

pub nodes_more : (xs : List Arg) (i : ℕ) (x : Arg) → i < length xs → x ≡ get_or xs i x →
    arguments_nodes (argument_all (take (i + 1) xs)) ≡ arguments_nodes (argument_all (take i xs)) +
    argument_nodes (argument x)
nodes_more xs i x within is =
    ap (λ r. arguments_nodes (argument_all r)) (take_more xs i x within)
    ∙ nodes_push (take i xs) (get_or xs i x)
    ∙ ap (λ y. arguments_nodes (argument_all (take i xs)) + argument_nodes (argument y)) (sym is)
