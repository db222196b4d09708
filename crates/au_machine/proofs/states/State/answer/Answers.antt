use Rattle.std.proofs.Common.{ap, sym, ◌∙◌, reverse}
use Rattle.au_low.specs.Machines.{pushes}
use Rattle.au_low.specs.Instructions.{answered}
use Rattle.au_cells.specs.Cells.{low}
use Rattle.au_stores.specs.declared.answers.Answered.{Answered}
use Rattle.au_stores.specs.Answers.{answer_of, fault_of}
use Rattle.au_stores.specs.Stores.{world_of}
use Rattle.au_low.specs.Machines as machine
use Rattle.au_machine.specs.States.{machine_of}
use Rattle.au_machine.proofs.ShippedLemmas.{own_world}
use Rattle.au_machine.proofs.StateLemmas.{come_to}
use Rattle.au_machine.proofs.states.State.answer.Goals as goal

pub returns-in-Gives-clause-is : goal.returns-in-Gives-clause-is
returns-in-Gives-clause-is c =
    let s = c.args.self.now in
    let own = reverse s.backs.items in
    let go : Answered → _ = λ one. answered (answer_of one (world_of s.world)) (machine_of s) in
    come_to c.push.result c.push.new.self _ _
    (ap (pushes (low c.in-Gives.cell)) (own_world s.function s.place s.operands s.borrows own s.world)
    ∙ ap go (sym c.in-Gives.is)) c.push.ensures.is

pub returns-in-Aborts-clause-is : goal.returns-in-Aborts-clause-is
returns-in-Aborts-clause-is c =
    let s = c.args.self.now in
    let own = reverse s.backs.items in
    let go : Answered → _ = λ one. answered (answer_of one (world_of s.world)) (machine_of s) in
    ap (machine.aborts (fault_of c.in-Aborts.why))
    (own_world s.function s.place s.operands s.borrows own s.world)
    ∙ ap go (sym c.in-Aborts.is)

pub returns-in-NoRule-clause-is : goal.returns-in-NoRule-clause-is
returns-in-NoRule-clause-is c =
    let s = c.args.self.now in
    let go : Answered → _ = λ one. answered (answer_of one (world_of s.world)) (machine_of s) in
    ap go (sym c.in-NoRule.is)
