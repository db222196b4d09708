use Rattle.std.proofs.Common.{◌∙◌, ap}
use Rattle.au_sights.specs.contracts.noted.NotedPhase.TheImpl.{ghosts as noted}
use Rattle.au_syntax.specs.contracts.parsed.ParsedPhase.TheImpl.{ghosts as parsed}
use Rattle.au_syntax.specs.Expressions.{typed}
use Rattle.au_syntax.specs.Views.{expression, node, written}
use Rattle.au_syntax.proofs.ExpressionLemmas.{typed_says}
use Rattle.au_noting_expressions.proofs.MadeLemmas.{made_with}
use Rattle.au_noting_expressions.proofs.makers.make_typed.Goals as goal

pub returns : goal.returns
returns c =
    made_with _ _ (node parsed c.args.site.now)
    (λ m. typed m (expression noted c.args.inner.value) (written c.args.text.now)) _ _ c.in_ok-note.ensures
    c.noted_site.ensures
    (typed_says noted c.noted_site.result c.args.inner c.in_ok-text.text
    ∙ ap (typed (node noted c.noted_site.result) (expression noted c.args.inner.value))
    c.in_ok-text.ensures)
