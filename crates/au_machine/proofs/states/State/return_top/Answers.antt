use Rattle.std.proofs.Common.{sym, reverse}
use Rattle.au_cells.specs.Cells.{low}
use Rattle.au_machine.specs.States.{machine_of}
use Rattle.au_low.specs.Instructions as instruction
use Rattle.au_machine.proofs.StateLemmas.{came_to, came_from, popped_one}
use Rattle.au_machine.proofs.states.State.return_top.Goals as goal

pub returns-then-depth-eq0-clause-is : goal.returns-then-depth-eq0-clause-is
returns-then-depth-eq0-clause-is c =
    let s = c.args.self.now in
    let back = reverse s.backs.items in
    came_to c.leave.result c.leave.new.self _ _
    (sym (popped_one (machine_of s) (machine_of c.pop.new.self) (low c.in-Some.cell)
    (λ result m. instruction.returns m.waiting result m) c.in-Some.ensures.is)) c.leave.ensures.is

pub returns-clause-is : goal.returns-clause-is
returns-clause-is c =
    let s = c.args.self.now in
    let back = reverse s.backs.items in
    came_from c.come_back.result c.come_back.new.self _ _
    (sym (popped_one (machine_of s) (machine_of c.pop.new.self) (low c.in-Some.cell)
    (λ result m. instruction.returns m.waiting result m) c.in-Some.ensures.is)) c.come_back.ensures.is
