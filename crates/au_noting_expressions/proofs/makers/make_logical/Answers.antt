use Rattle.au_sights.specs.contracts.noted.NotedPhase.TheImpl.{ghosts as noted}
use Rattle.au_syntax.specs.contracts.parsed.ParsedPhase.TheImpl.{ghosts as parsed}
use Rattle.au_syntax.specs.Expressions.{binary}
use Rattle.au_syntax.specs.Views.{expression, node}
use Rattle.au_syntax.proofs.ExpressionLemmas.{binary_says}
use Rattle.au_noting_expressions.proofs.MadeLemmas.{made_with}
use Rattle.au_noting_expressions.proofs.makers.make_logical.Goals as goal

pub returns : goal.returns
returns c =
    made_with _ _ (node parsed c.args.site.now)
    (λ m. binary m c.args.op (expression noted c.args.first.value) (expression noted c.args.second.value)) _
    _ c.in_ok-note.ensures
    c.noted_site.ensures (binary_says noted c.noted_site.result c.args.op c.args.first c.args.second)
