use Rattle.au_lowered.proofs.ExpressionLemmas.{expression_runs}
use Rattle.au_lowered.proofs.follow_laws.expressions_run.Goals as goal

pub returns : goal.returns
returns g c = λ by see invoke depth f get placed view calls wide room scope distinct e.
    expression_runs by see invoke depth f get placed view calls wide room scope distinct e
