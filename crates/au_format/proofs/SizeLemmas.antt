-- How long texts are written.
use Rattle.std.proofs.Common.{◌≡◌, ℕ, suc, ◌+◌, ◌<◌, List, length, drop, get_or, ap, ◌∙◌, arith, length-append}
use Rattle.std.proofs.Common.{drop-cons}
use Rattle.std.specs.List.{flat_map}
use Rattle.au_lexer.specs.Pieces.{byte_spelling}

-- one byte more of a text
pub one_more : (text : List ℕ) (i : ℕ) → i < length text → length (flat_map byte_spelling (drop i text))
    ≡ length (byte_spelling (get_or text i 0)) + length (flat_map byte_spelling (drop (i + 1) text))
one_more text i h =
    let byte : ℕ = get_or text i 0 in
    ap (λ t. length (flat_map byte_spelling t)) (drop-cons text i 0 h)
    ∙ length-append (byte_spelling byte) (flat_map byte_spelling (drop (suc i) text))
    ∙ ap (λ n. length (byte_spelling byte) + length (flat_map byte_spelling (drop n text)))
    (let e : suc i ≡ i + 1 = omega arith in e)
