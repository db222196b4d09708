-- Only calls that read a byte wait.
use Rattle.std.proofs.Common.{ℕ, List, sym, ap, ◌∙◌}
use Rattle.au_low.specs.declared.instructions.Instr.{Instr}
use Rattle.au_low.specs.Instructions.{act}
use Rattle.au_machine.specs.States.{machine_of}
use Rattle.au_runs.specs.Waits.{is_waiting, waits_in}
use Rattle.au_runs.proofs.WaitLemmas.{call_waits, other_waits}
use Rattle.au_runs.proofs.waiting.waits.Goals as goal

pub returns-in-Shipped : goal.returns-in-Shipped
returns-in-Shipped c = λ code.
    let m = machine_of c.args.state.now in
    let call = c.in-Shipped.call in
    let of = c.in-Shipped.of in
    c.waits_in.ensures
    ∙ ap (λ (order : List ℕ). waits_in call of order m) c.as_slice.ensures
    ∙ call_waits code call of c.in-Shipped.order m
    ∙ ap (λ (instr : Instr). is_waiting (act code instr m)) (sym c.in-Shipped.is)

pub returns-in_default : goal.returns-in_default
returns-in_default c = λ code. other_waits code c.args.instr.now (machine_of c.args.state.now) c.in_default.not-Shipped
