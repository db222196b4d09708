-- What a pattern tells.
use Rattle.std.proofs.Common.{◌≡◌, ℕ, ◌∙◌, ap, sym, Bool, true, false, nat_eq, List, [], ◌∷◌, take, drop, if◌then◌else◌}
use Rattle.std.specs.Str.{bytes_eq}
use Rattle.austral_cases.specs.Patterns.{begins_with_star, is_told}

-- Where no `[*]` begins, a byte tells itself.
pub tells_itself : (pattern left bytes : List ℕ) (byte : ℕ)
    → begins_with_star pattern ≡ false → bytes_eq (take 1 pattern) (byte ∷ []) ≡ true → left ≡ drop 1 pattern
    → is_told false pattern (byte ∷ bytes) ≡ is_told false left bytes
tells_itself pattern left bytes byte plain same left_is =
    let behind : Bool = is_told false (drop 1 pattern) bytes in
    ap (λ star. if star then (if nat_eq byte 91 then is_told true (drop 3 pattern) bytes else false)
    else (if bytes_eq (take 1 pattern) (byte ∷ []) then behind else false)) plain
    ∙ ap (λ told. if told then behind else false) same
    ∙ ap (λ rest. is_told false rest bytes) (sym left_is)
