use Rattle.std.proofs.Common.{◌∙◌, ap}
use Rattle.au_sights.specs.contracts.noted.NotedPhase.TheImpl.{ghosts as noted}
use Rattle.au_syntax.specs.contracts.parsed.ParsedPhase.TheImpl.{ghosts as parsed}
use Rattle.au_syntax.specs.Expressions.{parenthesized}
use Rattle.au_syntax.specs.Views.{expression, node}
use Rattle.au_syntax.proofs.ExpressionLemmas.{parenthesized_says}
use Rattle.au_typing.specs.Notes.{type_of}
use Rattle.au_typing.specs.Rules as rules
use Rattle.au_noting.specs.Modes.{wanted}
use Rattle.au_noting_expressions.proofs.MadeLemmas.{made_of}
use Rattle.au_noting_expressions.proofs.makers.make_parenthesized.Goals as goal

pub returns : goal.returns
returns c =
    made_of (rules.noted (wanted c.args.mode)) _ _ _ (node parsed c.args.site.now)
    (λ m. parenthesized m (expression noted c.args.inner.value)) _ _ c.in_ok-note.ensures
    (c.type_of.ensures ∙ ap (λ e. type_of (expression noted e)) c.deref.ensures)
    c.noted_site.ensures (parenthesized_says noted c.noted_site.result c.args.inner)
