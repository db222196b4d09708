use Rattle.std.proofs.Common.{ap, sym, ◌∙◌, reverse}
use Rattle.au_stores.specs.Stores.{world_of, top_frame}
use Rattle.au_low.specs.Machines.{goes, where_true}
use Rattle.au_machine.specs.States.{machine_with}
use Rattle.au_machine.proofs.StateLemmas.{jumps_to}
use Rattle.au_machine.proofs.states.State.jump.Goals as goal

pub returns-then-not-has_label-clause-is : goal.returns-then-not-has_label-clause-is
returns-then-not-has_label-clause-is c =
    let s = c.args.self.now in
    let back = reverse s.backs.items in
    ap (λ b. where_true b (goes (machine_with s.function c.args.label s.operands s.borrows back
    (top_frame s.world) (world_of s.world)))) (sym c.if-not-has_label.true ∙ c.has_label.ensures)
    ∙ jumps_to s.function s.place s.operands s.borrows back s.world c.args.code.now c.args.label

pub returns-clause-is : goal.returns-clause-is
returns-clause-is c =
    let s = c.args.self.now in
    let back = reverse s.backs.items in
    ap (λ b. where_true b (goes (machine_with s.function c.args.label s.operands s.borrows back
    (top_frame s.world) (world_of s.world)))) (sym c.if-not-has_label.false ∙ c.has_label.ensures)
    ∙ jumps_to s.function s.place s.operands s.borrows back s.world c.args.code.now c.args.label
