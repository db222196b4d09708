use Rattle.std.proofs.Common.{map}
use Rattle.std.proofs.lemmas.Result.{err_from_is_err_and}
use Rattle.au_lives.specs.Scopes.{scope, scopes}
use Rattle.au_paths.specs.Seen.{seen_parameters, seen_block}
use Rattle.au_linear.proofs.TellingLemmas as telling
use Rattle.au_linear.proofs.checking.check_all.Goals as goal

pub returns-in_err-behind : goal.returns-in_err-behind
returns-in_err-behind g c =
    let p = err_from_is_err_and c.from_residual.result c.from_residual.ensures.1 in
    let body = seen_block g.P.Phase c.args.body.now in
    rw (p.1, p.2) (telling.sees_stop
    (map (λ parameter. scope parameter.name body) (seen_parameters g.P.Phase c.args.parameters.now.items))
    (scopes body) c.args.tasks.now 0 c.in_err-behind.field-0.0 c.in_err-behind.ensures)

pub returns : goal.returns
returns g c =
    let body = seen_block g.P.Phase c.args.body.now in
    telling.sees_both (map (λ parameter. scope parameter.name body)
    (seen_parameters g.P.Phase c.args.parameters.now.items))
    (scopes body) c.args.tasks.now c.in_ok-behind.behind 0 c.check_block.result c.in_ok-behind.ensures
    c.check_block.ensures
