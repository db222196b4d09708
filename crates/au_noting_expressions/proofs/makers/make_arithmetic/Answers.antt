use Rattle.std.proofs.Common.{◌∙◌, ap, sym}
use Rattle.au_sights.specs.contracts.noted.NotedPhase.TheImpl.{ghosts as noted}
use Rattle.au_syntax.specs.contracts.parsed.ParsedPhase.TheImpl.{ghosts as parsed}
use Rattle.au_syntax.specs.Expressions.{binary}
use Rattle.au_syntax.specs.Views.{expression, node}
use Rattle.au_syntax.proofs.ExpressionLemmas.{binary_says}
use Rattle.au_typing.specs.Notes.{type_of}
use Rattle.au_typing.specs.Search.{arithmetic_note}
use Rattle.au_noting.specs.Modes.{wanted}
use Rattle.au_noting_expressions.proofs.MadeLemmas.{made_of_two}
use Rattle.au_noting_expressions.proofs.makers.make_arithmetic.Goals as goal

pub returns : goal.returns
returns c =
    made_of_two (expression noted c.args.first.value) (expression noted c.args.second.value) _ _
    (arithmetic_note (wanted c.args.mode)) _ (node parsed c.args.site.now)
    (λ m. binary m c.args.op (expression noted c.args.first.value) (expression noted c.args.second.value)) _
    _
    c.in_ok-of_one_type.ensures (c.type_of.ensures ∙ ap (λ e. type_of (expression noted e)) c.deref.ensures)
    (c.type_of-2.ensures ∙ ap (λ e. type_of (expression noted e)) c.deref-2.ensures)
    (ap (arithmetic_note (wanted c.args.mode))
    (c.type_of.ensures ∙ ap (λ e. type_of (expression noted e)) (c.deref.ensures ∙ sym c.deref-3.ensures)
    ∙ sym c.type_of-3.ensures) ∙ c.in_ok-note.ensures)
    c.noted_site.ensures (binary_says noted c.noted_site.result c.args.op c.args.first c.args.second)
