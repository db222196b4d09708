use Rattle.std.proofs.Common.{List, Option, ap, ◌∙◌}
use Rattle.au_effects.specs.Worlds as effect
use Rattle.au_effects.specs.Answers as answer
use Rattle.au_effects.specs.Calls as call
use Rattle.au_low.specs.Machines.{Low}
use Rattle.au_cells.proofs.CellLemmas.{unit_is}
use Rattle.au_stores.specs.Stores.{world_of, elements_of}
use Rattle.au_stores.proofs.CallLemmas.{destroyed}
use Rattle.au_stores.proofs.worlds.World.destroy_empty.Goals as goal

pub returns-clause-does : goal.returns-clause-does
returns-clause-does c =
    let w = world_of c.args.self.now in
    let after = world_of c.tell.new.self in
    let id = c.in-Some.id in
    ap (λ (value : Low). answer.gives value after) unit_is
    ∙ destroyed w after id c.in-Some-element_count.count c.in-Some-element_count.ensures c.if-count-ne0.false
    (c.in_ok-tell.ensures.world
    ∙ ap (λ (births : List (effect.Held _)). effect.tells (effect.consumed id) (record w { births = births }))
    c.end.ensures)
    ∙ ap (λ (found : Option _). call.given found
    (λ one. call.given (elements_of one w) (λ values. call.buffer_ended one values w))) c.in-Some.ensures
