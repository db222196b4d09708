use Rattle.std.proofs.Common.{ap, reverse}
use Rattle.au_stores.specs.Stores.{world_of, top_frame}
use Rattle.au_low.specs.Machines.{goes}
use Rattle.au_machine.proofs.StateLemmas.{gone_on}
use Rattle.au_machine.proofs.states.State.go.Goals as goal

pub returns-clause-is : goal.returns-clause-is
returns-clause-is c =
    let s = c.args.self.now in
    let back = reverse s.backs.items in
    ap goes (gone_on s.function s.place s.operands s.borrows back (top_frame s.world) (world_of s.world))
