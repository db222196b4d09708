use Rattle.std.proofs.Common.{◌≡◌, ◌∙◌, ap, sym, Ok}
use Rattle.au_sights.specs.contracts.noted.NotedPhase.TheImpl.{ghosts as noted}
use Rattle.au_syntax.specs.contracts.parsed.ParsedPhase.TheImpl.{ghosts as parsed}
use Rattle.au_syntax.specs.Expressions.{named_call}
use Rattle.au_syntax.specs.Views.{argument_all, expression, node, placed}
use Rattle.au_syntax.proofs.ExpressionLemmas.{named_call_says}
use Rattle.au_typing.specs.Notes.{NotedExpression, noted_at}
use Rattle.au_typing.specs.Search.{labelled}
use Rattle.au_sights.specs.Views.{note}
use Rattle.au_noting_expressions.specs.Said.{all_said}
use Rattle.au_noting_expressions.proofs.calls.make_named_call.Goals as goal

pub returns : goal.returns
returns c =
    let u = noted_at (node parsed c.args.site.now) (note c.args.notes) in
    let f = placed parsed c.args.name.now in
    let says : named_call u f (labelled (argument_all parsed c.args.old.now.items)
    (all_said c.args.args.items)) tt ≡ expression noted _ =
    ap (λ es. named_call u f es tt) (sym c.in_ok-args.ensures)
    ∙ ap (λ m. named_call m f (argument_all noted c.in_ok-args.args.items) tt) (sym c.noted_site.ensures)
    ∙ ap (λ x. named_call (node noted c.noted_site.result) x (argument_all noted c.in_ok-args.args.items) tt)
    (sym c.in_ok-name.ensures)
    ∙ sym (named_call_says noted c.noted_site.result c.in_ok-name.name c.in_ok-args.args tt) in
    ap (λ (e : NotedExpression). Ok e) says
