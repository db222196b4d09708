use Rattle.std.proofs.Common.{ap, ◌∙◌}
use Rattle.au_cells.specs.Cells.{low}
use Rattle.au_low.specs.Machines.{Machine, goes, onward}
use Rattle.au_machine.specs.States.{machine_of}
use Rattle.au_machine.proofs.PuttingLemmas.{puts_whole, puts_nowhere}
use Rattle.au_machine.proofs.states.State.put_whole.Goals as goal

pub returns-in-Some-clause-is : goal.returns-in-Some-clause-is
returns-in-Some-clause-is c =
    c.go.ensures.is
    ∙ ap (λ (m : Machine). goes (onward m)) c.fill.ensures.new
    ∙ puts_whole (machine_of c.args.self.now) c.args.slot _ (low c.args.cell) c.in-Some.ensures.is

pub returns-in-None-clause-is : goal.returns-in-None-clause-is
returns-in-None-clause-is c =
    puts_nowhere (machine_of c.args.self.now) c.args.slot (low c.args.cell) c.in-None.ensures.is
