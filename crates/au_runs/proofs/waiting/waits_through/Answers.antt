-- The turn waits where the call does.
use Rattle.au_effects.specs.Calls.{read_byte}
use Rattle.au_cells.specs.Cells.{low}
use Rattle.au_stores.specs.Stores.{world_of}
use Rattle.au_machine.specs.States.{machine_of}
use Rattle.au_runs.proofs.WaitLemmas.{asked, unasked}
use Rattle.au_runs.proofs.waiting.waits_through.Goals as goal

pub returns-in-Waits : goal.returns-in-Waits
returns-in-Waits c =
    let s = c.args.state.now in
    asked c.read_byte.result s (read_byte (world_of s.world) (low c.args.reference.now)) (machine_of s)
    c.read_byte.ensures c.in-Waits.is

pub returns-in_default : goal.returns-in_default
returns-in_default c =
    let s = c.args.state.now in
    unasked c.read_byte.result s (read_byte (world_of s.world) (low c.args.reference.now)) (machine_of s)
    c.read_byte.ensures c.in_default.not-Waits
