-- The last element is taken of the elements, and the others are put back.
use Rattle.std.proofs.Common.{◌≡◌, length, map, ap, ◌∙◌}
use Rattle.au_effects.specs.Worlds as effect
use Rattle.au_cells.specs.Cells.{low, lows}
use Rattle.au_stores.specs.declared.answers.Answered.{Answered}
use Rattle.au_stores.specs.Stores.{world_of, held_of}
use Rattle.au_stores.specs.Answers.{answer_of}
use Rattle.au_stores.proofs.PutLemmas.{held_put}
use Rattle.au_stores.proofs.CallLemmas.{remove_is, popped_last, popped_rest}
use Rattle.au_stores.proofs.worlds.World.remove_back.Goals as goal

pub returns-clause-does : goal.returns-clause-does
returns-clause-does c =
    let w = world_of c.args.self.now in
    let after = world_of c.tell_use.new.self in
    let cells = c.in-Some-take_elements.cells in
    let rest = c.pop-last.new.self.items in
    let size : _ ≡ length cells.items = cells.ok.0 in
    let births = held_put w.births (map held_of c.take_elements.new.self)
    (map held_of c.put.new.self)
    c.in-Some.id (effect.elements (lows rest)) c.in-Some-take_elements.ensures.births c.in_ok-put.ensures in
    ap (λ (one : Answered). answer_of one after) c.given_or.ensures
    ∙ remove_is (low c.args.reference.now) w after c.in-Some.borrow c.in-Some.id (lows cells.items)
    (lows rest)
    c.pop-last.result (map held_of c.put.new.self) c.in-Some.ensures
    c.in-Some-take_elements.ensures.elements
    (popped_last cells.items c.pop-last.result cells.len size c.pop-last.ensures.value
    (λ some. c.pop-last.ensures.variant.0 some))
    (popped_rest cells.items rest cells.len size c.pop-last.ensures.rest) births
    c.in_ok-tell_use.ensures.world
