use Rattle.std.proofs.Common.{ap, sym, ◌∙◌, reverse, Some}
use Rattle.au_machine.specs.States.{machine_of}
use Rattle.au_low.specs.Machines.{Machine, goes, onward, where_true, slot_set}
use Rattle.au_cells.specs.Cells.{low}
use Rattle.au_machine.proofs.states.State.store.Goals as goal

pub returns-then-not-has-clause-is : goal.returns-then-not-has-clause-is
returns-then-not-has-clause-is c =
    let s = c.args.self.now in
    let back = reverse s.backs.items in
    ap (λ b. where_true b (goes (onward (slot_set c.args.slot (Some (low c.args.cell)) (machine_of s)))))
    (sym c.if-not-has.true ∙ c.has.ensures.is)

pub returns-clause-is : goal.returns-clause-is
returns-clause-is c =
    let s = c.args.self.now in
    let back = reverse s.backs.items in
    c.go.ensures.is ∙ ap (λ (m : Machine). goes (onward m)) c.fill.ensures.new
    ∙ ap (λ b. where_true b (goes (onward (slot_set c.args.slot (Some (low c.args.cell)) (machine_of s)))))
    (sym c.if-not-has.false ∙ c.has.ensures.is)
