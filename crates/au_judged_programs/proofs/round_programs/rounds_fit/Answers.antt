use Rattle.au_judged_bodies.specs.Held.{IsPermitted}
use Rattle.au_judged_programs.proofs.RoundLemmas.{round_fits}
use Rattle.au_judged_programs.proofs.round_programs.rounds_fit.Goals as goal

pub returns : goal.returns
returns g c = λ program noted place generics given owner known handed from checked constants calls.
    round_fits program noted place generics given owner known (IsPermitted handed from) checked constants calls
