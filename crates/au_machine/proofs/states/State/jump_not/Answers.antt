use Rattle.std.proofs.Common.{ap, sym, ◌∙◌, reverse, Option}
use Rattle.au_low.specs.Machines.{Low, Machine, Next, having}
use Rattle.au_low.specs.Instructions.{jumps_unless}
use Rattle.au_machine.specs.States.{machine_of}
use Rattle.au_effects.specs.Numbers.{truth_in}
use Rattle.au_machine.proofs.StateLemmas.{popped_one}
use Rattle.au_machine.proofs.states.State.jump_not.Goals as goal

pub returns-clause-is : goal.returns-clause-is
returns-clause-is c =
    let s = c.args.self.now in
    let back = reverse s.backs.items in
    let m = c.pop.new.self in
    let go : Low → Machine → Next = λ value m. having (truth_in value)
    (jumps_unless c.args.code.now c.args.label m) in
    c.jump_unless.ensures.is ∙ ap (λ (found : Option _). having found (jumps_unless c.args.code.now c.args.label
    (machine_of m))) c.in-Some-truth_in.ensures
    ∙ sym (popped_one (machine_of s) (machine_of m) _ go c.in-Some.ensures.is)
