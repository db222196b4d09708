use Rattle.std.proofs.Common.{ap, sym, reverse}
use Rattle.au_machine.specs.States.{machine_of}
use Rattle.au_low.specs.Instructions.{comes}
use Rattle.au_cells.specs.Cells.{result_of}
use Rattle.au_cells.specs.declared.cells.Computed.{Computed}
use Rattle.au_machine.proofs.StateLemmas.{come_to}
use Rattle.au_machine.proofs.states.State.come.Goals as goal

pub returns-in-Value-clause-is : goal.returns-in-Value-clause-is
returns-in-Value-clause-is c =
    let s = c.args.self.now in
    let back = reverse s.backs.items in
    come_to c.push.result c.push.new.self _ _ (ap (λ (d : Computed). comes (result_of d) (machine_of s))
    (sym c.in-Value.is)) c.push.ensures.is

pub returns-in-Fault-clause-is : goal.returns-in-Fault-clause-is
returns-in-Fault-clause-is c =
    let s = c.args.self.now in
    let back = reverse s.backs.items in
    ap (λ (d : Computed). comes (result_of d) (machine_of s)) (sym c.in-Fault.is)

pub returns-in-NoRule-clause-is : goal.returns-in-NoRule-clause-is
returns-in-NoRule-clause-is c =
    let s = c.args.self.now in
    let back = reverse s.backs.items in
    ap (λ (d : Computed). comes (result_of d) (machine_of s)) (sym c.in-NoRule.is)
