use Rattle.std.proofs.Common.{ap, sym, ◌∙◌, reverse}
use Rattle.au_low.specs.Instructions.{jumps_unless}
use Rattle.au_machine.specs.States.{machine_of}
use Rattle.au_machine.proofs.states.State.jump_unless.Goals as goal

pub returns-then-test-clause-is : goal.returns-then-test-clause-is
returns-then-test-clause-is c =
    let s = c.args.self.now in
    let back = reverse s.backs.items in
    c.go.ensures.is ∙ ap (λ b. jumps_unless c.args.code.now c.args.label (machine_of s) b) (sym c.if-test.true)

pub returns-clause-is : goal.returns-clause-is
returns-clause-is c =
    let s = c.args.self.now in
    let back = reverse s.backs.items in
    c.jump.ensures.is ∙ ap (λ b. jumps_unless c.args.code.now c.args.label (machine_of s) b)
    (sym c.if-test.false)
