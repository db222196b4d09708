use Rattle.au_judged_bodies.specs.Held.{IsPermitted}
use Rattle.au_judged_programs.proofs.CallsRunCallLemmas.{all_run}
use Rattle.au_judged_programs.proofs.calls_run.calls_run.Goals as goal

pub returns : goal.returns
returns g c =
    λ program trees place generics given calls key handed from fits others allows names active sc scope s z outside over
    stands holds frame.
    all_run program trees place generics given calls key (IsPermitted handed from) fits others allows names active sc
    scope s z outside over
    stands holds frame
