-- Paths without zeros at the end.
use Rattle.std.specs.Prelude.{ℕ, zero, suc, List, [], ◌∷◌}

-- one more number before others; a zero before none is dropped
abbrev pub before : ℕ → List ℕ → List ℕ
before zero [] = []
before (suc n) [] = suc n ∷ []
before n (m ∷ ms) = n ∷ m ∷ ms

-- the numbers up to the last that isn't 0
abbrev pub without_zeros : List ℕ → List ℕ
without_zeros [] = []
without_zeros (n ∷ ns) = before n (without_zeros ns)
