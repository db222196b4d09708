use Rattle.std.proofs.Common.{ap, ◌∙◌, reverse}
use Rattle.au_low.specs.Machines.{Machine, goes, onward}
use Rattle.au_machine.proofs.WorldLemmas.{closed_to}
use Rattle.au_machine.proofs.states.State.close.Goals as goal

pub returns-clause-is : goal.returns-clause-is
returns-clause-is c =
    let s = c.args.self.now in
    let back = reverse s.backs.items in
    c.go.ensures.is ∙ ap (λ (m : Machine). goes (onward m))
    (closed_to s.function s.place s.operands s.borrows back s.world c.close_to.new.self c.close_to.new.opened
    c.args.count c.in_ok-close_to.ensures.world c.in_ok-close_to.ensures.left c.in_ok-close_to.ensures.below
    c.in_ok-close_to.ensures.frame)
