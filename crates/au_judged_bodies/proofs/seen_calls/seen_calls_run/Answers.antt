use Rattle.au_running_lives.specs.Held.{IsPermitted}
use Rattle.au_judged_bodies.specs.StandingTypesStanding.{StandsFor}
use Rattle.au_judged_bodies.proofs.ArgumentLemmas.{seen_run}
use Rattle.au_judged_bodies.proofs.seen_calls.seen_calls_run.Goals as goal

pub returns : goal.returns
returns g c = λ types owner see known active s z names sc scope given calls key handed from heads params knows seen
    stands
    allows.
    seen_run types owner see known active s z names sc scope given calls key (IsPermitted handed from)
    (StandsFor heads params given) stands allows knows seen
