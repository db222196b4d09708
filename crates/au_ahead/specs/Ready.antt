-- Inside of one whole expression: how a variable stands, and what may still come of it in this step.
use Rattle.std.specs.Prelude.{◌≡◌, ◌⊎◌, Bool, true, false}
use Rattle.au_lives.specs.Lives.{Hold, unlent, read_lent, write_lent, hidden}
use Rattle.au_lives.specs.Mentions.{Counts}

-- A variable holds nothing; or it may be used; or it is lent to write; or to read.
pub data Stand : Type 0 where
  away : Stand
  ready : Stand
  shut : Stand
  watched : Stand

-- how it stands before a step, by how borrow statements hold it and whether it is consumed
abbrev pub stand_of : Hold → Bool → Stand
stand_of h true = away
stand_of unlent false = ready
stand_of read_lent false = watched
stand_of write_lent false = shut
stand_of hidden false = ready

-- ---- counts

abbrev pub IsUnmet : Counts → Type 0
IsUnmet k = (k.consumed ≡ 0) × (k.written ≡ 0) × (k.read ≡ 0) × (k.looked ≡ 0)

abbrev pub IsQuiet : Counts → Type 0
IsQuiet k = (k.consumed ≡ 0) × (k.written ≡ 0)

abbrev pub IsOneWrite : Counts → Type 0
IsOneWrite k = (k.consumed ≡ 0) × (k.written ≡ 1) × (k.read ≡ 0) × (k.looked ≡ 0)

abbrev pub IsOneConsumption : Counts → Type 0
IsOneConsumption k = (k.consumed ≡ 1) × (k.written ≡ 0) × (k.read ≡ 0) × (k.looked ≡ 0)

-- What is still to come in a step is good for how the variable stands: nothing where it is away or lent to
-- write; read borrows and looks where it is lent to read; and else these, or one write borrow, or one
-- consumption.
abbrev pub Ready : Stand → Counts → Type 0
Ready away k = IsUnmet k
Ready shut k = IsUnmet k
Ready watched k = IsQuiet k
Ready ready k = IsQuiet k ⊎ (IsOneWrite k ⊎ IsOneConsumption k)

-- a variable may be looked at
abbrev pub IsOpen : Stand → Type 0
IsOpen away = ⊥
IsOpen ready = Unit {0}
IsOpen shut = ⊥
IsOpen watched = Unit {0}
