use Rattle.std.proofs.Common.{◌∙◌, ap}
use Rattle.au_sights.specs.contracts.noted.NotedPhase.TheImpl.{ghosts as noted}
use Rattle.au_syntax.specs.contracts.parsed.ParsedPhase.TheImpl.{ghosts as parsed}
use Rattle.au_syntax.specs.Expressions.{text}
use Rattle.au_syntax.specs.Views.{node}
use Rattle.au_syntax.proofs.ExpressionLemmas.{text_says}
use Rattle.au_noting_expressions.proofs.MadeLemmas.{made_with}
use Rattle.au_noting_expressions.proofs.leaves.note_text.Goals as goal

pub returns : goal.returns
returns c =
    made_with _ _ (node parsed c.args.site.now) (λ m. text m c.args.text.now) _ _ c.in_ok-note.ensures
    c.noted_site.ensures
    (text_says noted c.noted_site.result c.in_ok-text.text ∙ ap (text (node noted c.noted_site.result))
    c.in_ok-text.ensures)
