use Rattle.std.proofs.Common.{ap, ◌∙◌, refl, reverse, List, ◌≡◌}
use Rattle.au_stores.specs.Stores.{world_of, top_frame}
use Rattle.au_low.specs.Machines.{LowWorld}
use Rattle.std.proofs.Common.{suc, arith, ◌++◌, ◌∷◌, []}
use Rattle.au_stores.specs.Stores.{without_frames}
use Rattle.au_cells.specs.Piles.{next_top}
use Rattle.au_cells.specs.declared.cells.Cell.{Cell}
use Rattle.au_machine.proofs.WorldLemmas.{came_back, all_closed, next_is}
use Rattle.au_machine.proofs.states.State.come_back.Goals as goal

pub returns-clause-is : goal.returns-clause-is
returns-clause-is c =
    let s = c.args.self.now in
    let back = reverse s.backs.items in
    let w = s.world in
    let new = c.end_frame.new.self in
    let count : top_frame w ≡ suc (top_frame new) = omega
    (arith, c.in_ok-close_to.ensures.frame, c.end_frame.ensures.frame) in
    let ended = c.end_frame.ensures.world
    ∙ ap (λ n. without_frames n (world_of c.close_to.new.self)) c.in_ok-close_to.ensures.frame
    ∙ ap (λ (world : LowWorld). without_frames (top_frame w) world) (c.in_ok-close_to.ensures.world
    ∙ all_closed s.function s.place s.operands s.borrows back w) in
    let left = c.in_ok-push.ensures.ok
    ∙ ap (λ (p : List Cell × List (List Cell)). (p.0 ++ c.args.cell ∷ [], p.1)) (c.end.ensures
    ∙ next_is s.operands.1) in
    let still = c.end-2.ensures ∙ ap next_top c.in_ok-close_to.ensures.below ∙ next_is s.borrows.1 in
    came_back s.function s.place s.operands s.borrows back w new
    (top_frame new) c.push.new.self c.end-2.new.self
    (reverse c.last_back-back.new.backs.items) c.last_back-back.result c.args.cell
    count refl ended left still c.last_back-back.ensures.rest c.last_back-back.ensures.back
