use Rattle.std.proofs.Common.{ap}
use Rattle.std.proofs.lemmas.Result.{IfOk-weaker}
use Rattle.au_clearing.specs.Touches.{touched_at, unless_hidden}
use Rattle.au_clearing.specs.Seen.{seen_name, seen_expression}
use Rattle.au_clearing.specs.Dealings.{once, mention}
use Rattle.au_clearing.specs.Deals.{touch_in}
use Rattle.au_clearing.proofs.SumLemmas.{sums_as, sums_alone, sums_step}
use Rattle.au_clearing.proofs.statements.assignment.Goals as goal

pub returns : goal.returns
returns g c =
    let write =
    sums_as c.in_ok-write.write
    (λ x free h. once (unless_hidden h (touch_in c.in_ok-touches.touches x free)))
    (λ x free h. mention x free (seen_name g.P.Phase c.args.name.now).name c.args.touch h) 0
    (sums_alone c.in_ok-write.write c.no_step-other.result
    (λ x free h. unless_hidden h (touch_in c.in_ok-touches.touches x free)) c.no_step-other.ensures
    c.in_ok-write.ensures)
    (λ x free h. ap (λ t. once (unless_hidden h t)) (c.in_ok-touches.ensures x free)) in
    IfOk-weaker c.meets.result _ _
    (λ d sums.
    sums_step d c.in_ok-write.write
    (λ x free h. once (touched_at x free h (seen_expression g.P.Phase c.args.e.now)))
    (λ x free h. mention x free (seen_name g.P.Phase c.args.name.now).name c.args.touch h) 0 write sums)
    c.meets.ensures
