use Rattle.au_judged_bodies.proofs.RecordLemmas.{record_runs, union_runs}
use Rattle.au_judged_bodies.proofs.running_records.records_run.Goals as goal

pub returns-clause-records : goal.returns-clause-records
returns-clause-records c = λ program fit place params s z t fields e good well.
    record_runs program fit place params s z t fields e good well

pub returns-clause-unions : goal.returns-clause-unions
returns-clause-unions c = λ program fit place params s z t cases e good well tag one is.
    union_runs program fit place params s z t cases e good well tag one is
