-- What bytes tell in which the three bytes `[*]` stand for any list of numbers in brackets.
use Rattle.std.specs.Prelude.{ℕ, ◌==◌, ◌&&◌, ◌||◌, nat_le, Bool, true, false, List, [], ◌∷◌, length, take}
use Rattle.std.specs.Prelude.{drop, if◌then◌else◌}
use Rattle.std.specs.Str.{bytes_eq}

-- a byte of a list of numbers: a digit, a comma or a blank
abbrev pub is_of_numbers : ℕ → Bool
is_of_numbers byte = (nat_le 48 byte && nat_le byte 57) || (byte == 44) || (byte == 32)

-- whether a pattern begins with `[*]`
abbrev pub begins_with_star : List ℕ → Bool
begins_with_star pattern = bytes_eq (take 3 pattern) (91 ∷ 42 ∷ 93 ∷ [])

-- Whether what is left of a pattern tells just these bytes. The first word says whether they stand behind
-- the bracket that opens a list of numbers: then the list goes on to the bracket that closes it. Else `[*]`
-- tells a bracket that opens one, and any other byte tells itself.
abbrev pub is_told : Bool → List ℕ → List ℕ → Bool
is_told true pattern [] = false
is_told false pattern [] = length pattern == 0
is_told true pattern (byte ∷ bytes) =
    if byte == 93 then is_told false pattern bytes
    else (if is_of_numbers byte then is_told true pattern bytes else false)
is_told false pattern (byte ∷ bytes) =
    if begins_with_star pattern then (if byte == 91 then is_told true (drop 3 pattern) bytes else false)
    else (if bytes_eq (take 1 pattern) (byte ∷ []) then is_told false (drop 1 pattern) bytes else false)
