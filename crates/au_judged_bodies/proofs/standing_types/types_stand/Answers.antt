use Rattle.au_judged_bodies.proofs.FieldLemmas.{fields_last}
use Rattle.au_judged_bodies.proofs.StandingTypesStandLemmas.{free_runs, known_closes, reader_free, region_opens}
use Rattle.au_judged_bodies.proofs.standing_types.types_stand.Goals as goal

pub returns-clause-free : goal.returns-clause-free
returns-clause-free c = λ program params regions given s z t stands known free.
    free_runs program params regions given s z t stands known free

pub returns-clause-readers : goal.returns-clause-readers
returns-clause-readers c = λ program t region. reader_free program t region

pub returns-clause-regions : goal.returns-clause-regions
returns-clause-regions c = λ heads params given s region z stands new. region_opens heads params given s region z
    stands new

pub returns-clause-closing : goal.returns-clause-closing
returns-clause-closing c = λ heads params regions given s z t stands known.
    known_closes heads params regions given s z t stands known

pub returns-clause-fields : goal.returns-clause-fields
returns-clause-fields c = λ program place t fields e last i one is. fields_last program place t fields e last i one is
