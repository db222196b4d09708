use Rattle.std.proofs.Common.{◌≡◌, length, arith}
use Rattle.au_machine.specs.States.{machine_of}
use Rattle.au_machine.proofs.PoppingLemmas.{enough}
use Rattle.au_machine.proofs.states.State.pop_into.Goals as goal

pub returns-clause-is : goal.returns-clause-is
returns-clause-is c = λ go.
    let loop = c.loop-index in
    let size : length loop.cells.items ≡ c.args.count = omega arith in
    enough (machine_of c.args.self.now) (machine_of loop.self) loop.cells.items c.args.count go loop.invariant.0 size
