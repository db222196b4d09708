use Rattle.au_safe_ships.proofs.NamedLemmas.{empty_names_are_free, no_named_statics, no_statics, writers_look_well}
use Rattle.au_safe_ships.proofs.laws.names_stand.Goals as goal

pub returns-clause-statics : goal.returns-clause-statics
returns-clause-statics c = λ types owner acts fs sizes under w.
    no_statics types owner acts fs sizes under w

pub returns-clause-named : goal.returns-clause-named
returns-clause-named c = λ types owner acts f fs sizes size under w.
    no_named_statics types owner acts f fs sizes size under w

pub returns-clause-retyped : goal.returns-clause-retyped
returns-clause-retyped c = λ types owner acts fs sizes under w.
    empty_names_are_free types owner acts fs sizes under w

pub returns-clause-looked : goal.returns-clause-looked
returns-clause-looked c = λ types owner acts f fs sizes size under w ticks.
    writers_look_well types owner acts f fs sizes size under w ticks
