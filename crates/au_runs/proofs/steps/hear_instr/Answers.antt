use Rattle.std.proofs.Common.{ap, sym, ◌∙◌}
use Rattle.au_low.specs.declared.instructions.Instr.TheVariants as instr
use Rattle.au_machine.specs.States.{machine_of}
use Rattle.au_machine.proofs.StateLemmas.{come_to}
use Rattle.au_runs.specs.Orders.{heard_by}
use Rattle.au_runs.proofs.StepLemmas.{not_heard}
use Rattle.au_runs.proofs.steps.hear_instr.Goals as goal

pub returns-in-Shipped-clause-is : goal.returns-in-Shipped-clause-is
returns-in-Shipped-clause-is c =
    let m = machine_of c.args.state.now in
    come_to c.hear_call.result c.hear_call.new.state _ _
    (ap (λ one. heard_by c.args.byte one m)
    (ap (λ order. instr.Shipped c.in-Shipped.call c.in-Shipped._of order) c.as_slice.ensures
    ∙ sym c.in-Shipped.is)) c.hear_call.ensures.is

pub returns-in_default-clause-is : goal.returns-in_default-clause-is
returns-in_default-clause-is c =
    not_heard c.args.byte c.args.instr.now (machine_of c.args.state.now) c.in_default.not-Shipped
