use Rattle.std.proofs.Common.{List, Option, ap, ◌∙◌, slice_get}
use Rattle.au_low.specs.declared.code.Function.{Function}
use Rattle.au_low.specs.declared.instructions.Instr.{Instr}
use Rattle.au_low.specs.Instructions.{instructions}
use Rattle.au_machine.specs.States.{machine_with}
use Rattle.au_runs.proofs.steps.fetched.Goals as goal

pub returns-in-Some-clause-is : goal.returns-in-Some-clause-is
unfolding machine_with
returns-in-Some-clause-is c =
    let place = c.args.state.now.place in
    c.instr_at.ensures.is ∙ ap (λ (all : List Instr). slice_get all place) c.as_slice.ensures
    ∙ ap (λ (found : Option Function). slice_get (instructions found) place) c.in-Some.ensures

pub returns-in-None-clause-is : goal.returns-in-None-clause-is
unfolding machine_with
returns-in-None-clause-is c =
    ap (λ (found : Option Function). slice_get (instructions found) c.args.state.now.place) c.in-None.ensures
