use Rattle.au_running_lives.specs.Held.{IsPermitted}
use Rattle.au_judged_bodies.proofs.TypedRunsExpressionLemmas.{runs}
use Rattle.au_judged_bodies.proofs.typed_runs.expressions_run.Goals as goal

pub returns : goal.returns
returns g c = λ types owner see known handed from names active sc scope s given z fits calls e good wanted keeps.
    runs types owner see known (IsPermitted handed from) names active sc scope s given z fits calls e good wanted keeps
