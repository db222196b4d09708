use Rattle.std.proofs.Common.{◌∙◌, ap, sym}
use Rattle.au_sights.specs.contracts.noted.NotedPhase.TheImpl.{ghosts as noted}
use Rattle.au_syntax.specs.contracts.parsed.ParsedPhase.TheImpl.{ghosts as parsed}
use Rattle.au_syntax.specs.Expressions.{choice}
use Rattle.au_syntax.specs.Views.{expression, node}
use Rattle.au_syntax.proofs.ExpressionLemmas.{if_says}
use Rattle.au_typing.specs.Notes.{type_of}
use Rattle.au_typing.specs.Rules as rules
use Rattle.au_noting.specs.Modes.{wanted}
use Rattle.au_noting_expressions.proofs.MadeLemmas.{made_of_two}
use Rattle.au_noting_expressions.proofs.makers.make_choice.Goals as goal

pub returns : goal.returns
returns c =
    made_of_two (expression noted c.args.then.value) (expression noted c.args.otherwise.value) _ _
    (rules.noted (wanted c.args.mode)) _ (node parsed c.args.site.now)
    (λ m. choice m (expression noted c.args.test.value) (expression noted c.args.then.value)
    (expression noted c.args.otherwise.value)) _ _
    c.in_ok-of_one_type.ensures (c.type_of.ensures ∙ ap (λ e. type_of (expression noted e)) c.deref.ensures)
    (c.type_of-2.ensures ∙ ap (λ e. type_of (expression noted e)) c.deref-2.ensures)
    (ap (rules.noted (wanted c.args.mode))
    (c.type_of.ensures ∙ ap (λ e. type_of (expression noted e)) (c.deref.ensures ∙ sym c.deref-3.ensures)
    ∙ sym c.type_of-3.ensures) ∙ c.in_ok-note.ensures)
    c.noted_site.ensures (if_says noted c.noted_site.result c.args.test c.args.then c.args.otherwise)
