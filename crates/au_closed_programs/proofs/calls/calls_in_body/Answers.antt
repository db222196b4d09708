use Rattle.std.proofs.Common.{◌≡◌, IfOk, ap, subst}
use Rattle.au_syntax.specs.Views.{block}
use Rattle.au_sights.specs.contracts.noted.NotedPhase.TheImpl.{ghosts as noted}
use Rattle.au_modules.specs.Slots as slots
use Rattle.au_type_texts.specs.GivenViews.{given_said}
use Rattle.au_closed_trees.specs.Calls.{calls_in_block}
use Rattle.au_closing.specs.ClosingViews.{instances_said}
use Rattle.au_closed_programs.proofs.SightLemmas.{leads_same}
use Rattle.au_closed_programs.proofs.calls.calls_in_body.Goals as goal

pub returns : goal.returns
returns c =
    let program = slots.modules c.args.bodies.now.program.now in
    let sight = c.sight_at-sight in
    subst (λ leads. IfOk c.instances_called.result
    (λ called. instances_said called.items ≡ calls_in_block leads (block noted c.args.body.now.block.now)))
    (leads_same sight.result program c.args.body.now.place (given_said c.args.given.now)
    (ap slots.modules sight.ensures.program) sight.ensures.instances sight.ensures.names)
    c.instances_called.ensures
