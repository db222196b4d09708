use Rattle.std.proofs.Common.{ap, sym, ◌∙◌, reverse, Option, ℕ}
use Rattle.au_effects.specs.Values.{Place}
use Rattle.au_low.specs.Machines.{Low, Machine, Next, having}
use Rattle.au_low.specs.Instructions.{pushes_behind}
use Rattle.au_effects.specs.References.{reference_in}
use Rattle.au_machine.specs.States.{machine_of}
use Rattle.au_machine.proofs.StateLemmas.{come_to, popped_one}
use Rattle.au_machine.proofs.WorldLemmas.{reads_is, reads_none}
use Rattle.au_machine.proofs.states.State.deref.Goals as goal

pub returns-in_default-at-clause-is : goal.returns-in_default-at-clause-is
returns-in_default-at-clause-is c =
    let s = c.args.self.now in
    let back = reverse s.backs.items in
    let m = c.pop.new.self in
    let own = reverse m.backs.items in
    let go : Low → Machine → Next = λ value m. having (reference_in value) (λ one. pushes_behind one m) in
    reads_none m.function m.place m.operands m.borrows own m.world _ _ c.in_default-at.ensures
    ∙ ap (λ (found : Option (ℕ × Place)). having found
    (λ one. pushes_behind one (machine_of m))) c.in-Some-reference_in.ensures
    ∙ sym (popped_one (machine_of s) (machine_of m) _ go c.in-Some.ensures.is)

pub returns-clause-is : goal.returns-clause-is
returns-clause-is c =
    let s = c.args.self.now in
    let back = reverse s.backs.items in
    let m = c.pop.new.self in
    let own = reverse m.backs.items in
    let go : Low → Machine → Next = λ value m. having (reference_in value) (λ one. pushes_behind one m) in
    come_to c.push.result c.push.new.self _ _
    (reads_is m.function m.place m.operands m.borrows own m.world c.tell_use.new.self _ _ _ _
    c.in_ok-copy.ensures c.in_ok-tell_use.ensures.world c.in_ok-tell_use.ensures.frame c.in-Some-at.ensures
    ∙ ap (λ (found : Option (ℕ × Place)). having found
    (λ one. pushes_behind one (machine_of m))) c.in-Some-reference_in.ensures
    ∙ sym (popped_one (machine_of s) (machine_of m) _ go c.in-Some.ensures.is)) c.push.ensures.is
