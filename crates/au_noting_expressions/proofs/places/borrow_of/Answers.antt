use Rattle.std.proofs.Common.{◌∙◌, ap}
use Rattle.au_sights.specs.contracts.noted.NotedPhase.TheImpl.{ghosts as noted}
use Rattle.au_syntax.specs.contracts.parsed.ParsedPhase.TheImpl.{ghosts as parsed}
use Rattle.au_syntax.specs.Expressions.{borrow}
use Rattle.au_syntax.specs.Views.{node, placed}
use Rattle.au_syntax.proofs.ExpressionLemmas.{borrow_says}
use Rattle.au_typing.specs.Rules as rules
use Rattle.au_noting.specs.Modes.{wanted}
use Rattle.au_noting_expressions.proofs.MadeLemmas.{made_behind}
use Rattle.au_noting_expressions.proofs.places.borrow_of.Goals as goal

pub returns : goal.returns
returns c =
    made_behind _ _ (rules.noted (wanted c.args.mode)) _ (node parsed c.args.site.now)
    (λ m. borrow m c.args.kind (placed parsed c.args.name.now)) _ _
    c.in_ok-gives.ensures c.in_ok-note.ensures c.noted_site.ensures
    (borrow_says noted c.noted_site.result c.args.kind c.in_ok-name.name
    ∙ ap (borrow (node noted c.noted_site.result) c.args.kind) c.in_ok-name.ensures)
