-- The functions and methods of a program that have bodies, one module more at a time.
use Rattle.std.proofs.Common.{◌≡◌, ℕ, suc, ◌+◌, ◌<◌, List, [], ◌∷◌, ◌++◌, length, take, get_or, refl}
use Rattle.std.proofs.Common.{sym, ap, ◌∙◌, append_assoc, arith, zero-add}
use Rattle.std.proofs.lemmas.List.{append-nil, length-take-le, take_more}
use Rattle.au_noting_programs.specs.declared.modules.NotedModule.{NotedModule}
use Rattle.au_noting_programs.specs.Said.{modules_said, part_said}
use Rattle.au_caps_lists.specs.Bodies.{all_bodied_from, bodied_of_file}

pub none_bodied : (place : ℕ) → all_bodied_from place [] ≡ []
unfolding all_bodied_from
none_bodied place = refl

bodied_push : (place : ℕ) (ms : List NotedModule) (m : NotedModule)
    → all_bodied_from place (modules_said (ms ++ m ∷ []))
    ≡ all_bodied_from place (modules_said ms) ++ bodied_of_file (place + length ms) (part_said m.body)
unfolding all_bodied_from
bodied_push place [] m =
    let same : place ≡ place + 0 = omega arith in
    append-nil (bodied_of_file place (part_said m.body)) ∙ ap (λ n. bodied_of_file n (part_said m.body)) same
bodied_push place (x ∷ xs) m =
    let same : place + 1 + length xs ≡ place + suc (length xs) = omega arith in
    ap (λ rest. bodied_of_file place (part_said x.body) ++ rest)
    (bodied_push (place + 1) xs m
    ∙ ap (λ n. all_bodied_from (place + 1) (modules_said xs) ++ bodied_of_file n (part_said m.body)) same)
    ∙ sym (append_assoc (bodied_of_file place (part_said x.body))
    (all_bodied_from (place + 1) (modules_said xs))
    (bodied_of_file (place + suc (length xs)) (part_said m.body)))

-- what one more module adds
pub bodied_more : (ms : List NotedModule) (i : ℕ) (m : NotedModule) → i < length ms → m ≡ get_or ms i m
    → all_bodied_from 0 (modules_said (take (i + 1) ms))
    ≡ all_bodied_from 0 (modules_said (take i ms)) ++ bodied_of_file i (part_said m.body)
bodied_more ms i m within is =
    let at = get_or ms i m in
    let before = all_bodied_from 0 (modules_said (take i ms)) in
    let same : 0 + length (take i ms) ≡ i = zero-add (length (take i ms)) ∙ length-take-le i ms
    (omega arith) in
    ap (λ l. all_bodied_from 0 (modules_said l)) (take_more ms i m within)
    ∙ bodied_push 0 (take i ms) at
    ∙ ap (λ n. before ++ bodied_of_file n (part_said at.body)) same
    ∙ ap (λ (x : NotedModule). before ++ bodied_of_file i (part_said x.body)) (sym is)
