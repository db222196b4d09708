use Rattle.std.proofs.Common.{◌≡◌, ◌∙◌, ap, sym, Ok}
use Rattle.au_sights.specs.contracts.noted.NotedPhase.TheImpl.{ghosts as noted}
use Rattle.au_syntax.specs.contracts.parsed.ParsedPhase.TheImpl.{ghosts as parsed}
use Rattle.au_syntax.specs.Expressions.{call}
use Rattle.au_syntax.specs.Views.{expression, expression_all, node, placed}
use Rattle.au_syntax.proofs.ExpressionLemmas.{call_says}
use Rattle.au_typing.specs.Notes.{NotedExpression, noted_at}
use Rattle.au_typing.specs.Search.{listed}
use Rattle.au_sights.specs.Views.{note}
use Rattle.au_noting_expressions.specs.Said.{all_said}
use Rattle.au_noting_expressions.proofs.MadeLemmas.{listed_said}
use Rattle.au_noting_expressions.proofs.calls.make_call.Goals as goal

pub returns : goal.returns
returns c =
    let u = noted_at (node parsed c.args.site.now) (note c.args.notes) in
    let f = placed parsed c.args.name.now in
    let says : call u f (listed (all_said c.args.args.items)) tt ≡ expression noted _ =
    ap (λ es. call u f es tt) (listed_said c.args.args.items)
    ∙ ap (λ m. call m f (expression_all noted c.args.args.items) tt) (sym c.noted_site.ensures)
    ∙ ap (λ x. call (node noted c.noted_site.result) x (expression_all noted c.args.args.items) tt)
    (sym c.in_ok-name.ensures)
    ∙ sym (call_says noted c.noted_site.result c.in_ok-name.name c.args.args tt) in
    ap (λ (e : NotedExpression). Ok e) says
