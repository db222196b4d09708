use Rattle.au_safe_ships.proofs.ShippedLemmas.{ships_well}
use Rattle.au_safe_ships.proofs.laws.shipped_calls_are_safe.Goals as goal

pub returns : goal.returns
returns c = λ types owner acts fs sizes under w ticks.
    ships_well types owner acts fs sizes under w ticks
