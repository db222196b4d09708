-- When a block holds no byte.
use Rattle.std.proofs.Common.{◌≡◌, ◌≤◌, ◌-◌, ℕ, List, [], length, take, drop, ap, sym, ◌∙◌, arith}
use Rattle.std.proofs.lemmas.List.{length-drop, length-take-le, nil_from_length}

-- a block holds as many bytes as lie between its place and its end
held_length : (place filled : ℕ) (bytes held : List ℕ) → drop place (take filled bytes) ≡ held →
    filled ≤ length bytes → length held ≡ filled - place
held_length place filled bytes held view within =
    sym (ap length view) ∙ length-drop place (take filled bytes)
    ∙ ap (λ n. n - place) (length-take-le filled bytes within)

-- a block whose place isn't behind its last byte holds none exactly where its place is there
pub none_held : (place filled : ℕ) (bytes held : List ℕ) → drop place (take filled bytes) ≡ held →
    filled ≤ length bytes → place ≤ filled → (place ≡ filled → held ≡ []) × (held ≡ [] → place ≡ filled)
none_held place filled bytes held view within before =
    let size = held_length place filled bytes held view within in
    ((λ same. nil_from_length held (omega arith)), (λ none. let nothing = ap length none in omega arith))
