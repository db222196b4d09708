use Rattle.std.proofs.Common.{Option, ap, ◌∙◌}
use Rattle.au_low.specs.Runs.{heard_if}
use Rattle.au_low.specs.declared.instructions.Instr.{Instr}
use Rattle.au_machine.specs.States.{machine_of}
use Rattle.au_machine.proofs.StateLemmas.{came_from}
use Rattle.au_runs.proofs.StepLemmas.{heard_is}
use Rattle.au_runs.proofs.steps.hear.Goals as goal

pub returns-in-Some-clause-is : goal.returns-in-Some-clause-is
returns-in-Some-clause-is c =
    let m = machine_of c.args.state.now in
    came_from c.hear_instr.result c.hear_instr.new.state _ _
    (heard_is c.args.code.now c.args.byte c.in-Some.instr.now m
    ∙ ap (λ (found : Option Instr). heard_if c.args.code.now c.args.byte found m) c.in-Some.ensures.is)
    c.hear_instr.ensures.is

pub returns-in-None-clause-is : goal.returns-in-None-clause-is
returns-in-None-clause-is c =
    let m = machine_of c.args.state.now in
    ap (λ (found : Option Instr). heard_if c.args.code.now c.args.byte found m) c.in-None.ensures.is
