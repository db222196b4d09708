use Rattle.std.proofs.Common.{◌≡◌, IfOk, ap, subst}
use Rattle.au_syntax.specs.Views.{block}
use Rattle.au_sights.specs.contracts.noted.NotedPhase.TheImpl.{ghosts as noted}
use Rattle.au_modules.specs.Slots as slots
use Rattle.au_noting_programs.specs.Said.{modules_said}
use Rattle.au_type_texts.specs.GivenViews.{given_said}
use Rattle.au_closed_trees.specs.contracts.phase.ClosedTreesPhase.TheImpl.{ghosts as closed}
use Rattle.au_closed_trees.specs.Renoted.{block_renoted}
use Rattle.au_closing.specs.Bodies.{value_of}
use Rattle.au_closed_programs.proofs.SightLemmas.{change_same}
use Rattle.au_closed_programs.proofs.functions.tree_closed.Goals as goal

pub returns : goal.returns
returns c =
    let known = c.args.known.now in
    let program = slots.modules known.bodies.program.now in
    let sight = c.sight_at-sight in
    subst (λ change. IfOk c.block_closed.result
    (λ made. block closed made ≡ block_renoted change (block noted c.args.body.now.block.now)))
    (change_same sight.result program c.args.body.now.place (given_said c.args.given.now)
    (ap slots.modules sight.ensures.program) sight.ensures.instances sight.ensures.names sight.ensures.values
    known.reached.now (value_of program (modules_said known.bodies.modules.now)) c.args.params.now)
    c.block_closed.ensures
