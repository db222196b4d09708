-- Where the row of a type is looked for among the rows.
use Rattle.std.specs.Prelude.{◌≡◌, ℕ, false, nat_eq, List, take, Option, None, Some, if◌then◌else◌}
use Rattle.std.specs.List.{list_any}
use Rattle.std.specs.Option.{option_or, unwrap_or}
use Rattle.au_type_texts.specs.Same.{same}
use Rattle.au_type_texts.specs.Types.{ClosedType}
use Rattle.au_closed_meanings.specs.Programs.{Row}
use Rattle.au_lowering.specs.Mixing.{type_mixed}

-- places by numbers, once a number has this place unless it had one
abbrev pub placed_with : ℕ → ℕ → (ℕ → Option ℕ) → ℕ → Option ℕ
placed_with number place places other =
    option_or (places other) (if nat_eq number other then Some place else None)

-- the place of the number of a type, and this one where it has none
abbrev pub place_for : (ℕ → Option ℕ) → ℕ → ClosedType → ℕ
place_for places left of = unwrap_or (places (type_mixed of)) left

-- no row of a type stands before its place
abbrev pub ArePlaced : List Row → (ℕ → Option ℕ) → ℕ → Type 0
ArePlaced rows places left =
    (of : ClosedType)
    → list_any (λ (row : Row). same row.of of) (take (place_for places left of) rows) ≡ false
