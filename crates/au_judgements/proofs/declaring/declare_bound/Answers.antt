use Rattle.std.proofs.Common.{◌+◌, drop, ap, sym, ◌∙◌}
use Rattle.au_typing.specs.InScope.{with_bound}
use Rattle.au_noting.specs.Scopes.{scope_said}
use Rattle.au_judgements.specs.Said.{binds_said}
use Rattle.au_judgements.proofs.StepLemmas.{declared_step}
use Rattle.au_judgements.proofs.declaring.declare_bound.Goals as goal

pub loop-bind-preserved : goal.loop-bind-preserved
loop-bind-preserved c =
    let binds = c.args.binds.now in
    let i = c.loop-bind.bind-index in
    ap (with_bound (binds_said (drop (i + 1) binds))) c.in_ok-declare_one.ensures
    ∙ sym (declared_step (scope_said c.loop-bind.scope) binds i c.bind-item.result c.loop-bind-test.true c.bind-item.is)
    ∙ c.loop-bind.invariant
