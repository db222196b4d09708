-- The newest borrow is closed first.
use Rattle.std.proofs.Common.{◌<◌, List, length, arith, ap, ◌∙◌}
use Rattle.au_stores.specs.Stores.{world_of}
use Rattle.au_stores.proofs.CloseLemmas.{closed_first, left_same}
use Rattle.au_stores.proofs.worlds.World.close_to.Goals as goal

pub loop-opened-preserved : goal.loop-opened-preserved
loop-opened-preserved c =
    let before = c.loop-opened.opened.0 in
    let after = c.pop.new.self.0 in
    let kept = c.loop-opened.invariant in
    let some : c.args.count < length before = omega
    (arith, c.loop-opened-test.true, ap (λ (xs : List _). length xs) c.top.ensures) in
    let is = c.in-Some.ensures.0 in (
      closed_first before after c.in-Some.borrow c.args.count (world_of c.loop-opened.self)
          (world_of c.tell_close.new.self) is some c.in_ok-tell_close.ensures.world ∙ kept.0,
      left_same before after c.in-Some.borrow c.args.count is some ∙ kept.1,
      c.in-Some.ensures.1 ∙ kept.2,
      c.in_ok-tell_close.ensures.frame ∙ kept.3,
    )
