use Rattle.au_sights.specs.contracts.noted.NotedPhase.TheImpl.{ghosts as noted}
use Rattle.au_syntax.specs.contracts.parsed.ParsedPhase.TheImpl.{ghosts as parsed}
use Rattle.au_syntax.specs.Expressions.{truth}
use Rattle.au_syntax.specs.Views.{node}
use Rattle.au_syntax.proofs.ExpressionLemmas.{bool_says}
use Rattle.au_noting_expressions.proofs.MadeLemmas.{made_with}
use Rattle.au_noting_expressions.proofs.leaves.note_truth.Goals as goal

pub returns : goal.returns
returns c =
    made_with _ _ (node parsed c.args.site.now) (λ m. truth m c.args.truth) _ _ c.in_ok-note.ensures
    c.noted_site.ensures
    (bool_says noted c.noted_site.result c.args.truth)
