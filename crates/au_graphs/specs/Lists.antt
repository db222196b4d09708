-- Lists of numbers in vectors.
use Rattle.std.specs.Prelude.{ℕ, List, Vec, map}
use Rattle.std.specs.Global.{Global}

-- the numbers in a vector
abbrev pub numbers_in : Vec ℕ Global → List ℕ
numbers_in numbers = numbers.items

-- those in each of these
abbrev pub lists_in : List (Vec ℕ Global) → List (List ℕ)
lists_in lists = map numbers_in lists
