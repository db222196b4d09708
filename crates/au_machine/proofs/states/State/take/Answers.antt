use Rattle.std.proofs.Common.{ap, sym, ◌∙◌, reverse, None, Option}
use Rattle.au_machine.specs.States.{machine_of}
use Rattle.au_low.specs.Machines.{Low, Machine, Next, pushes, having, slot_set}
use Rattle.au_cells.specs.Cells.{low}
use Rattle.au_machine.proofs.StateLemmas.{come_to, past_of, nothing_past, slot_is, has_slot_is}
use Rattle.au_machine.proofs.states.State.take.Goals as goal

pub returns-then-not-has-clause-is : goal.returns-then-not-has-clause-is
returns-then-not-has-clause-is c =
    let s = c.args.self.now in
    let back = reverse s.backs.items in
    let past = past_of s.world c.args.slot c.has.result (c.has.ensures.is
    ∙ sym (has_slot_is s.function s.place s.operands s.borrows back s.world c.args.slot)) c.if-not-has.true in
    ap (λ (found : Option Low). having found
    (λ value. pushes value (slot_set c.args.slot None (machine_of s))))
    (sym (nothing_past s.world c.args.slot past)
    ∙ slot_is s.function s.place s.operands s.borrows back s.world c.args.slot)

pub returns-in-Some-clause-is : goal.returns-in-Some-clause-is
returns-in-Some-clause-is c =
    let s = c.args.self.now in
    let back = reverse s.backs.items in
    let go : Low → Next = λ value. pushes value (slot_set c.args.slot None (machine_of s)) in
    come_to c.push.result c.push.new.self _ _
    (ap (λ (m : Machine). pushes (low c.in-Some.cell) m) c.in-Some.ensures.new ∙ ap
    (λ (found : Option Low). having found go) c.in-Some.ensures.old) c.push.ensures.is

pub returns-in-None-clause-is : goal.returns-in-None-clause-is
returns-in-None-clause-is c =
    let s = c.args.self.now in
    let back = reverse s.backs.items in
    ap (λ (found : Option Low). having found
    (λ value. pushes value (slot_set c.args.slot None (machine_of s)))) c.in-None.ensures.old
