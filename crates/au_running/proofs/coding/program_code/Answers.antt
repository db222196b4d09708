-- The code is that which runs are of.
use Rattle.au_modules.specs.Slots as slots
use Rattle.au_running.proofs.ShownLemmas.{code_so}
use Rattle.au_running.proofs.coding.program_code.Goals as goal

pub returns-clause-is : goal.returns-clause-is
returns-clause-is c =
    let has = c.closed_code.ensures.is in (
      has.0,
      has.1,
      code_so (slots.modules c.args.program.now) has.0 c.args.entry.now.«module» c.args.entry.now.function
          c.lowered_programs_run.ensures c.lowered_programs_tell.ensures c.closed_code.result has.2,
    )
