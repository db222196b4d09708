use Rattle.std.proofs.Common.{sym, ◌∙◌, reverse}
use Rattle.au_machine.specs.States.{machine_of}
use Rattle.au_low.specs.Machines.{goes, onward}
use Rattle.au_machine.proofs.StateLemmas.{popped_one, popped_none}
use Rattle.au_machine.proofs.states.State.discard.Goals as goal

pub returns-in-Some-clause-is : goal.returns-in-Some-clause-is
returns-in-Some-clause-is c =
    let s = c.args.self.now in
    let back = reverse s.backs.items in
    c.go.ensures.is ∙ sym (popped_one (machine_of s) (machine_of c.pop.new.self) _
    (λ value m. goes (onward m)) c.in-Some.ensures.is)

pub returns-in-None-clause-is : goal.returns-in-None-clause-is
returns-in-None-clause-is c =
    let s = c.args.self.now in
    let back = reverse s.backs.items in
    sym (popped_none (machine_of s) (λ value m. goes (onward m)) c.in-None.ensures.is)
