-- No byte is held exactly where the place is behind the last.
use Rattle.std.proofs.Common.{arith, rules}
use Rattle.au_system.proofs.BlockLemmas.{none_held}
use Rattle.au_system.proofs.block.Block.is_empty.Goals as goal

pub returns : goal.returns
returns c =
    let says = none_held c.self.inside.place c.self.inside.filled c.self.inside.bytes c.args.self.now
    c.self.view_is (omega arith) (omega arith) in
    search (rules, says.0, says.1)
