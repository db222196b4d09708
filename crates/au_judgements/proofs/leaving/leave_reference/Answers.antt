use Rattle.std.proofs.Common.{ap, ◌∙◌}
use Rattle.au_noting.specs.Scopes.{closed_in, scope_said}
use Rattle.au_judgements.proofs.StepLemmas.{left_but_one}
use Rattle.au_judgements.proofs.leaving.leave_reference.Goals as goal

pub returns : goal.returns
returns c =
    c.leave_region.ensures
    ∙ ap closed_in (c.leave_to.ensures ∙ left_but_one (scope_said c.args.scope.now) c.depth-depth.result
    c.saturating_sub.result c.depth-depth.ensures c.saturating_sub.ensures)
