use Rattle.au_judged_bodies.proofs.ViewLemmas.{record_viewed, union_viewed}
use Rattle.au_judged_bodies.proofs.seen_views.views_see.Goals as goal

pub returns-clause-records : goal.returns-clause-records
returns-clause-records c = λ program noted fit apart place params regions given s z stands t fields known each e.
    record_viewed program noted fit apart place params regions given s z stands t fields known each e

pub returns-clause-unions : goal.returns-clause-unions
returns-clause-unions c = λ program noted fit apart place params regions given s z stands t cases known each e.
    union_viewed program noted fit apart place params regions given s z stands t cases known each e
