use Rattle.au_judged_bodies.specs.Held.{IsPermitted}
use Rattle.au_judged_programs.proofs.RunningBodiesBodyLemmas.{body_runs}
use Rattle.au_judged_programs.proofs.running_bodies.bodies_run.Goals as goal

pub returns : goal.returns
returns g c =
    λ program noted body given owner known handed from permits key checked good constants calls counts loose active
    first s names
    stands regions within besides.
    body_runs program noted body given owner known (IsPermitted handed from) permits key checked good constants calls
    counts loose active first s
    names stands regions within besides
