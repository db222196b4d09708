use Rattle.std.proofs.lemmas.Result.{IfOk-weaker}
use Rattle.au_clearing.specs.Touches.{touched_at}
use Rattle.au_clearing.specs.Seen.{seen_expression}
use Rattle.au_clearing.proofs.SumLemmas.{sums_alone}
use Rattle.au_clearing.proofs.statements.expression.Goals as goal

pub returns : goal.returns
returns g c =
    IfOk-weaker c.meets.result _ _
    (λ d sums.
    sums_alone d c.no_step-other.result
    (λ x free h. touched_at x free h (seen_expression g.P.Phase c.args.e.now)) c.no_step-other.ensures sums)
    c.meets.ensures
