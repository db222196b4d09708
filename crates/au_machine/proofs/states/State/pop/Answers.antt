use Rattle.std.proofs.Common.{reverse}
use Rattle.au_stores.specs.Stores.{world_of, top_frame}
use Rattle.au_machine.proofs.StateLemmas.{popped_off}
use Rattle.au_machine.proofs.states.State.pop.Goals as goal

pub returns-clause-is : goal.returns-clause-is
returns-clause-is c =
    let s = c.args.self.now in
    let back = reverse s.backs.items in
    popped_off s.function s.place s.borrows back (top_frame s.world)
    (world_of s.world) s.operands c.pop.new.self c.pop.result c.pop.ensures
