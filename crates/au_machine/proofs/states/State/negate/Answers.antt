use Rattle.std.proofs.Common.{ap, sym, ◌∙◌, reverse}
use Rattle.au_machine.specs.States.{machine_of}
use Rattle.au_low.specs.Machines.{Low, Machine, Next}
use Rattle.au_low.specs.Instructions.{comes}
use Rattle.au_effects.specs.Numbers.{negated}
use Rattle.au_effects.specs.Answers.{Result}
use Rattle.au_machine.proofs.StateLemmas.{come_to, popped_one, popped_none}
use Rattle.au_machine.proofs.states.State.negate.Goals as goal

pub returns-in-Some-clause-is : goal.returns-in-Some-clause-is
returns-in-Some-clause-is c =
    let s = c.args.self.now in
    let back = reverse s.backs.items in
    let go : Low → Machine → Next = λ a m. comes (negated a) m in
    come_to c.come.result c.come.new.self _ _
    (ap (λ (r : Result _). comes r (machine_of c.pop.new.self)) c.negate.ensures
    ∙ sym (popped_one (machine_of s) (machine_of c.pop.new.self) _ go c.in-Some.ensures.is)) c.come.ensures.is

pub returns-in-None-clause-is : goal.returns-in-None-clause-is
returns-in-None-clause-is c =
    let s = c.args.self.now in
    let back = reverse s.backs.items in
    sym (popped_none (machine_of s) (λ a m. comes (negated a) m) c.in-None.ensures.is)
