use Rattle.au_running_types.proofs.UniverseLemmas.{formation_stays, type_decided, universe_stays}
use Rattle.au_running_types.proofs.laws.universes_stay.Goals as goal

pub returns-clause-universes : goal.returns-clause-universes
returns-clause-universes c = λ rows params others s z t fit stands.
    universe_stays rows params others s z t fit stands

pub returns-clause-formation : goal.returns-clause-formation
returns-clause-formation c = λ rows params others s z t good formed.
    formation_stays rows params others s z t good formed

pub returns-clause-decided : goal.returns-clause-decided
returns-clause-decided c = λ rows t stands. type_decided rows t stands
