use Rattle.std.proofs.Common.{◌∙◌, ap, sym, subst}
use Rattle.std.proofs.lemmas.Result.{err_from_is_err_and}
use Rattle.au_noting.specs.Giving.{Stops}
use Rattle.au_noting.specs.Scopes.{scope_said}
use Rattle.au_typing.specs.Scopes.{Scope}
use Rattle.au_syntax.specs.contracts.parsed.ParsedPhase.TheImpl.{ghosts as parsed}
use Rattle.au_syntax.specs.Views.{header}
use Rattle.au_noting_programs.specs.Steps.{with_header}
use Rattle.au_noting_programs.proofs.ChainLemmas.{given_err}
use Rattle.au_noting_programs.proofs.bodies.body_scope.Goals as goal

pub returns-in_err-with_header : goal.returns-in_err-with_header
returns-in_err-with_header c =
    let p = err_from_is_err_and c.from_residual-in_err-with_header.result
    c.from_residual-in_err-with_header.ensures.1 in
    given_err scope_said c.from_residual-in_err-with_header.result c.in_err-with_header.field-0.0 _ p
    (subst (λ (sc : Scope). Stops c.in_err-with_header.field-0.0
    (with_header (header parsed c.args.header.now) sc)) c.in_ok-scope.ensures c.in_err-with_header.ensures)

pub returns : goal.returns
returns c = ap (with_header (header parsed c.args.header.now)) (sym c.in_ok-scope.ensures) ∙ c.in_ok-with_header.ensures
