use Rattle.std.proofs.Common.{ap, ◌∙◌, reverse, Option}
use Rattle.au_machine.specs.States.{machine_of}
use Rattle.au_low.specs.Machines.{Low, Next, pushes, having}
use Rattle.au_machine.proofs.StateLemmas.{come_to}
use Rattle.au_machine.proofs.states.State.look.Goals as goal

pub returns-in_ok-copy-in-Some-clause-is : goal.returns-in_ok-copy-in-Some-clause-is
returns-in_ok-copy-in-Some-clause-is c =
    let s = c.args.self.now in
    let back = reverse s.backs.items in
    let go : Low → Next = λ value. pushes value (machine_of s) in
    come_to c.push.result c.push.new.self _ _ (ap go c.in_ok-copy-in-Some.ensures ∙ ap
    (λ (found : Option Low). having found go) c.in-Some.ensures) c.push.ensures.is

pub returns-in-None-clause-is : goal.returns-in-None-clause-is
returns-in-None-clause-is c =
    let s = c.args.self.now in
    let back = reverse s.backs.items in
    ap (λ (found : Option Low). having found (λ value. pushes value (machine_of s))) c.in-None.ensures
