use Rattle.au_sights.specs.contracts.noted.NotedPhase.TheImpl.{ghosts as noted}
use Rattle.au_syntax.specs.contracts.parsed.ParsedPhase.TheImpl.{ghosts as parsed}
use Rattle.au_syntax.specs.Expressions.{negation}
use Rattle.au_syntax.specs.Views.{expression, node}
use Rattle.au_syntax.proofs.ExpressionLemmas.{not_says}
use Rattle.au_noting_expressions.proofs.MadeLemmas.{made_with}
use Rattle.au_noting_expressions.proofs.makers.make_negation.Goals as goal

pub returns : goal.returns
returns c =
    made_with _ _ (node parsed c.args.site.now) (λ m. negation m (expression noted c.args.inner.value)) _ _
    c.in_ok-note.ensures
    c.noted_site.ensures (not_says noted c.noted_site.result c.args.inner)
