use Rattle.std.proofs.Common.{ℕ, Option, Some, ap, ◌∙◌}
use Rattle.au_effects.specs.Worlds as effect
use Rattle.au_effects.specs.Answers as answer
use Rattle.au_effects.specs.Values.{unit}
use Rattle.au_effects.specs.Calls as call
use Rattle.au_low.specs.Machines.{Low}
use Rattle.au_cells.proofs.CellLemmas.{unit_is}
use Rattle.au_stores.specs.Stores.{world_of}
use Rattle.au_stores.proofs.worlds.World.release_terminal.Goals as goal

pub returns-clause-does : goal.returns-clause-does
returns-clause-does c =
    let w = world_of c.args.self.now in
    let after = world_of c.tell.new.self in
    ap (λ (value : Low). answer.gives value after) unit_is
    ∙ ap (answer.gives unit) c.in_ok-tell.ensures.world
    ∙ ap (λ (found : Option ℕ). call.given found (λ id. answer.gives unit (effect.spends (Some id) w)))
    c.in-Some.ensures
