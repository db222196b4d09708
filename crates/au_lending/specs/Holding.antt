-- How names stand where one of them changes.
use Rattle.std.specs.Prelude.{ℕ, ◌==◌, Bool, true, [], Some, if◌then◌else◌}
use Rattle.au_effects.specs.References.{name_along}
use Rattle.au_effects.specs.Values.{name_of}
use Rattle.au_places.specs.Places.{same_base}
use Rattle.au_types.specs.Types.{Meaning}
use Rattle.au_memory.specs.Forests.{Hold, Holds}
use Rattle.au_memory.specs.Loans.{Loan, Table, named}

-- one name stands so, and each other as it did
abbrev pub with_hold : ℕ → ℕ → Hold → Holds → Holds
with_hold frame x h hold =
    λ other y. if same_base (name_of frame x) (name_of other y) then h else hold other y

-- one name has this root, or this type, and each other what it had
abbrev pub with_name : {A : Type 0} → ℕ → ℕ → A → (ℕ → ℕ → A) → ℕ → ℕ → A
with_name frame x one all =
    λ other y. if same_base (name_of frame x) (name_of other y) then one else all other y

-- one more row, at this number
abbrev pub with_row : ℕ → Loan → Table → Table
with_row g l s = λ k. if g == k then Some l else s k

-- the row of a name: a name is no loan, and of no borrow and no token
abbrev pub name_row : ℕ → ℕ → Meaning → Loan
name_row frame x t = record { borrow = 0; token = 0; to = name_along frame x []; type = t; via = named }

-- one token more is on
abbrev pub with_token : ℕ → (ℕ → Bool) → ℕ → Bool
with_token z flags y = if z == y then true else flags y
