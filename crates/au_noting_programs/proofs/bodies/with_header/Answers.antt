use Rattle.std.proofs.Common.{◌∙◌, map, ap, sym, subst}
use Rattle.std.proofs.lemmas.Result.{err_from_is_err_and}
use Rattle.au_noting.specs.Giving.{Stops}
use Rattle.au_noting.specs.Scopes.{scope_said}
use Rattle.au_syntax.specs.contracts.parsed.ParsedPhase.TheImpl.{ghosts as parsed}
use Rattle.au_syntax.specs.Views.{header, labelled}
use Rattle.au_noting_programs.proofs.ChainLemmas.{given_err}
use Rattle.au_noting_programs.proofs.StepLemmas.{header_is}
use Rattle.au_noting_programs.proofs.bodies.with_header.Goals as goal

pub returns-in_err-with_result : goal.returns-in_err-with_result
returns-in_err-with_result c =
    let p = err_from_is_err_and c.from_residual-in_err-with_result.result
    c.from_residual-in_err-with_result.ensures.1 in
    given_err _ c.from_residual-in_err-with_result.result c.in_err-with_result.field-0.0 _ p
    (subst (Stops c.in_err-with_result.field-0.0)
    (sym (header_is (header parsed c.args.header.now) (map (labelled parsed) c.as_slice.result.now)
    (scope_said c.args.scope.now) (scope_said c.with_parameters.new.scope)
    (ap (map (labelled parsed)) c.as_slice.ensures.value) c.in_ok-with_parameters.ensures))
    c.in_err-with_result.ensures)

pub returns : goal.returns
returns c =
    header_is (header parsed c.args.header.now) (map (labelled parsed) c.as_slice.result.now)
    (scope_said c.args.scope.now) (scope_said c.with_parameters.new.scope)
    (ap (map (labelled parsed)) c.as_slice.ensures.value) c.in_ok-with_parameters.ensures
    ∙ c.in_ok-with_result.ensures
