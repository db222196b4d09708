-- What is done on the two newest operands.
use Rattle.std.specs.Prelude.{◌≡◌, ℕ, List, [], ◌∷◌}
use Rattle.au_effects.specs.Answers.{Result, no_rule}
use Rattle.au_low.specs.Machines.{Low, Machine, pushed}

-- an operation on the two newest operands, of which the second was pushed last; none where there are fewer
abbrev pub of_newest : (Low → Low → Result ℕ) → List Low → Result ℕ
of_newest go [] = no_rule
of_newest go (b ∷ []) = no_rule
of_newest go (b ∷ a ∷ rest) = go a b

-- two operands stood upon those of a machine, of which the second was pushed last
abbrev pub HasTwo : Low → Low → Machine → Machine → Type 0
HasTwo a b old new = old ≡ pushed b (pushed a new)
