use Rattle.std.proofs.Common.{reverse}
use Rattle.au_machine.proofs.StateLemmas.{pushed_onward}
use Rattle.au_machine.proofs.states.State.push.Goals as goal

pub returns-clause-is : goal.returns-clause-is
returns-clause-is c =
    let s = c.args.self.now in
    let back = reverse s.backs.items in
    pushed_onward s c.args.cell _ c.in_ok-push.ensures.ok
