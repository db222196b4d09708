use Rattle.std.proofs.lemmas.Result.{IfOk-weaker}
use Rattle.au_clearing.specs.Touches.{touched_at}
use Rattle.au_clearing.specs.Seen.{seen_expression}
use Rattle.au_clearing.specs.Dealings.{once, never}
use Rattle.au_clearing.proofs.SumLemmas.{sums_step}
use Rattle.au_clearing.proofs.statements.giving.Goals as goal

pub returns : goal.returns
returns g c =
    IfOk-weaker c.meets.result _ _
    (λ d sums.
    sums_step d c.no_path-other.result
    (λ x free h. once (touched_at x free h (seen_expression g.P.Phase c.args.e.now))) (λ x free h. never) 1
    c.no_path-other.ensures sums)
    c.meets.ensures
