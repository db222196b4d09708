-- Values that are indices, and values that are bytes.
use Rattle.std.proofs.Common.{◌≡◌, ℕ, Some, None, refl}
use Rattle.au_base.specs.declared.kinds.IntKind.TheVariants.{Nat8}
use Rattle.au_effects.specs.Numbers.{number_of}
use Rattle.au_effects.specs.Calls.{natural_in, index_in}
use Rattle.au_cells.specs.declared.cells.Cell.{Cell}
use Rattle.au_cells.specs.declared.cells.Cell as cell
use Rattle.au_cells.specs.Cells.{low}

pub index_is : (n : ℕ) → index_in (low (cell.Index n)) ≡ Some n
unfolding low
index_is n = refl

pub not_index : (c : Cell) → ((x : ℕ) → c ≡ cell.Index x → ⊥) → index_in (low c) ≡ None
unfolding low
not_index (cell.Index x) differs = absurd (differs x refl)
not_index c differs = refl

pub byte_is : (n : ℕ) → natural_in (number_of Nat8 (low (cell.Nat8 n))) ≡ Some n
unfolding low
byte_is n = refl

pub not_byte : (c : Cell) → ((x : ℕ) → c ≡ cell.Nat8 x → ⊥) → natural_in (number_of Nat8 (low c)) ≡ None
unfolding low
not_byte (cell.Nat8 x) differs = absurd (differs x refl)
not_byte c differs = refl
