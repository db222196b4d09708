-- What holds of runs that lead somewhere.
use Rattle.std.specs.Prelude.{ℕ, ◌+◌}
use Rattle.au_low.specs.declared.code.Code.{Code}
use Rattle.au_lowered.specs.Runs.{Reach, at, Leads}
use Rattle.au_lowered.specs.Sides.{Spot}

-- A run that leads to a place, and one that leads on from there, are one run: it has the steps to spare of
-- both.
abbrev pub RunsJoin : Type 0
RunsJoin = (code : Code) (s t : Spot) (r : Reach) (n m l spare more : ℕ) → Leads code s n (at t) m spare
    → Leads code t m r l more → Leads code s n r l (spare + more)
