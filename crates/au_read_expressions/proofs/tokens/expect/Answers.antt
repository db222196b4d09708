use Rattle.std.proofs.Common.{sym, ◌∙◌}
use Rattle.std.proofs.lemmas.Result.{err_from_is_err_and}
use Rattle.au_read_expressions.proofs.Steps.{passes_on, tokens_fail}
use Rattle.au_read_expressions.proofs.tokens.expect.Goals as goal

pub returns-in_err-rest : goal.returns-in_err-rest
returns-in_err-rest c =
    let p = err_from_is_err_and c.from_residual.result c.from_residual.ensures.1 in
    passes_on (λ rest. rest.now) c.from_residual.result _ _ _ p c.in_err-rest.ensures
    (λ f is. sym c.loop-one.invariant ∙ tokens_fail c.args.known.now c.loop-one.one-index _
    c.loop-one.rest.now f c.loop-one-test.true is)
