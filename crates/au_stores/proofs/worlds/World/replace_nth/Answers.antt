-- An element is replaced in the elements, and these are put back.
use Rattle.std.proofs.Common.{Option, map, slice_get, ap, ◌∙◌}
use Rattle.au_effects.specs.Worlds as effect
use Rattle.au_effects.specs.Calls as call
use Rattle.au_cells.specs.Cells.{low, lows}
use Rattle.au_stores.specs.declared.answers.Answered.{Answered}
use Rattle.au_stores.specs.Stores.{world_of, held_of}
use Rattle.au_stores.specs.Answers.{answer_of}
use Rattle.au_stores.proofs.PutLemmas.{held_put}
use Rattle.au_stores.proofs.CallLemmas.{replace_is}
use Rattle.au_stores.proofs.worlds.World.replace_nth.Goals as goal

pub returns-clause-does : goal.returns-clause-does
returns-clause-does c =
    let w = world_of c.args.self.now in
    let after = world_of c.tell_use.new.self in
    let cells = c.in-Some-take_elements.cells.items in
    let next = c.replaced-old.new.cells.items in
    let id = c.in-Some-buffer_reached.id in
    let births = held_put w.births (map held_of c.take_elements.new.self)
    (map held_of c.put.new.self)
    id (effect.elements (lows next)) c.in-Some-take_elements.ensures.births c.in_ok-put.ensures in
    ap (λ (one : Answered). answer_of one after) c.given_or.ensures
    ∙ replace_is (low c.args.reference.now) (low c.args.new) c.in-Some.index w after
    c.in-Some-buffer_reached.borrow id
    (lows cells) (lows next) c.replaced-old.result (map held_of c.put.new.self)
    c.in-Some-buffer_reached.ensures c.in-Some-take_elements.ensures.elements c.replaced-old.ensures.old
    c.replaced-old.ensures.new births c.in_ok-tell_use.ensures.world
    ∙ ap (λ (found : Option _). call.given found
    (λ index. call.buffer_use (low c.args.reference.now) w (λ one values told.
    call.element_replaced one values index (low c.args.new) (slice_get values index) told))) c.in-Some.ensures
