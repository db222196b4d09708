use Rattle.std.proofs.Common.{ap}
use Rattle.std.proofs.lemmas.Result.{IfOk-weaker}
use Rattle.au_clearing.specs.Touches.{touched_at, unless_hidden}
use Rattle.au_clearing.specs.Seen.{seen_expression}
use Rattle.au_clearing.specs.Dealings.{once, chain}
use Rattle.au_clearing.specs.Deals.{kept_if, seen_at, touch_in}
use Rattle.au_clearing.proofs.SumLemmas.{sums_as}
use Rattle.au_clearing.proofs.statements.meets.Goals as goal

pub returns : goal.returns
returns g c =
    IfOk-weaker c.met.result _ _
    (λ d sums.
    sums_as d
    (λ x free h. chain c.args.other.returns
    (once (kept_if c.args.in_loop (unless_hidden h (touch_in c.in_ok-touches.touches x free))))
    (seen_at c.args.other x free h))
    (λ x free h. chain c.args.other.returns
    (once (kept_if c.args.in_loop (touched_at x free h (seen_expression g.P.Phase c.args.e.now))))
    (seen_at c.args.other x free h))
    c.args.other.returns sums
    (λ x free h. ap (λ t. chain c.args.other.returns (once (kept_if c.args.in_loop (unless_hidden h t)))
    (seen_at c.args.other x free h)) (c.in_ok-touches.ensures x free)))
    c.met.ensures
