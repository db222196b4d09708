use Rattle.au_judged_bodies.proofs.SeenLemmas.{record_seen, union_seen}
use Rattle.au_judged_bodies.proofs.seen_fields.fields_are_seen.Goals as goal

pub returns-clause-records : goal.returns-clause-records
returns-clause-records c = λ program fit place params regions given s t fields stands known each e.
    record_seen program fit params regions given s stands place t fields known each e

pub returns-clause-unions : goal.returns-clause-unions
returns-clause-unions c = λ program fit place params regions given s t cases stands known e tag one is each.
    union_seen program fit params regions given s stands place t cases known e tag one is each
