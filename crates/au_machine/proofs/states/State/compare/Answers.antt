use Rattle.std.proofs.Common.{sym}
use Rattle.au_cells.specs.Cells.{low, result_of}
use Rattle.au_low.specs.Instructions.{comes}
use Rattle.au_effects.specs.Numbers.{compared}
use Rattle.au_machine.specs.States.{machine_of}
use Rattle.au_machine.proofs.NewestLemmas.{come_of_two}
use Rattle.au_machine.proofs.StateLemmas.{come_to}
use Rattle.au_machine.proofs.states.State.compare.Goals as goal

pub returns-in-Some-clause-is : goal.returns-in-Some-clause-is
returns-in-Some-clause-is c =
    come_to c.come.result c.come.new.self _ _
    (come_of_two (compared c.args.order c.args.kind) (low c.in-Some.field-0.0) (low c.in-Some.field-0.1)
    (machine_of c.args.self.now)
    (machine_of c.pop_two.new.self) (result_of c.compared-compared.result) c.in-Some.ensures.is
    c.compared-compared.ensures)
    c.come.ensures.is

pub returns-in-None-clause-is : goal.returns-in-None-clause-is
returns-in-None-clause-is c = sym (c.in-None.ensures.is (λ a b m. comes (compared c.args.order c.args.kind a b) m))
