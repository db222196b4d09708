-- A number for each closed type, by which its row is looked for.
use Rattle.std.specs.Prelude.{ℕ, ◌+◌, ◌*◌, ◌%◌, ◌^◌, fold}
use Rattle.au_type_texts.specs.Keys.{key_of}
use Rattle.au_type_texts.specs.Types.{ClosedType}

-- what a state of 64 bits becomes once a number is mixed in
abbrev pub mix : ℕ → ℕ → ℕ
mix state number = ((state * 11400714819323198485) % 2 ^ 64 + number) % 2 ^ 64

-- the number of a type: its key, mixed from nothing
abbrev pub type_mixed : ClosedType → ℕ
type_mixed of = fold mix 0 (key_of of)
