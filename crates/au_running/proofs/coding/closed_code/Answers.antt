-- No limit is told where none is passed.
use Rattle.std.proofs.Common.{Err, ap, subst}
use Rattle.au_lowering.specs.ClosedPrograms.Views.{program_said}
use Rattle.au_lowering.specs.Answers.{TellsLimit}
use Rattle.au_lowering.specs.Closed.{is_too_long}
use Rattle.au_lowering.specs.declared.faults.LowerFault.{LowerFault}
use Rattle.au_modules.specs.Slots as slots
use Rattle.au_lowering.specs.Said.{modules_said}
use Rattle.au_running.proofs.CodingLemmas.{close_tells, lower_tells}
use Rattle.au_running.proofs.coding.closed_code.Goals as goal

pub returns-in-Err-Limit-clause-exact : goal.returns-in-Err-Limit-clause-exact
returns-in-Err-Limit-clause-exact c = λ noted one derives closes short.
    close_tells (slots.modules c.args.program.now) (slots.modules c.program-whole.result.now)
    (ap slots.modules c.program-whole.ensures) (modules_said c.modules-modules.result.now)
    c.modules-modules.ensures.derived
    c.args.entry.now.«module» c.args.entry.now.function (Err c.in-Err-Limit.field-0) c.in-Err-Limit.limit
    (ap Err c.in-Err-Limit.field-0-is) c.in-Err-Limit.ensures.exact noted one derives closes

pub returns-in-Err-Limit-lower-clause-exact : goal.returns-in-Err-Limit-lower-clause-exact
returns-in-Err-Limit-lower-clause-exact c = λ noted one derives closes short.
    let closed = program_said c.in-Ok.closed in
    let told = subst (λ (e : LowerFault). TellsLimit (Err e) (is_too_long closed))
    c.in-Err-Limit-lower.field-0-is c.in-Err-Limit-lower.ensures.limit in
    lower_tells (slots.modules c.args.program.now) (slots.modules c.program-whole.result.now)
    (ap slots.modules c.program-whole.ensures) (modules_said c.modules-modules.result.now)
    c.modules-modules.ensures.derived
    c.args.entry.now.«module» c.args.entry.now.function closed c.in-Ok.ensures.is told.0
    noted one derives closes short
