use Rattle.std.proofs.Common.{List, [], ◌∷◌, ap, sym, ◌∙◌}
use Rattle.au_effects.specs.Calls.{of_one, byte_read}
use Rattle.au_low.specs.Machines.{Low, LowWorld, Machine, Next}
use Rattle.au_low.specs.Instructions.{answered}
use Rattle.au_cells.specs.Cells.{low}
use Rattle.au_machine.specs.States.{machine_of}
use Rattle.au_machine.proofs.StateLemmas.{come_to}
use Rattle.au_runs.specs.Orders.{arguments}
use Rattle.au_runs.proofs.FrameLemmas.{in_its_world}
use Rattle.au_runs.proofs.ShipLemmas.{unheard}
use Rattle.au_runs.proofs.shipping.hear_call.Goals as goal

pub returns-then-arity-ne1-clause-is : goal.returns-then-arity-ne1-clause-is
returns-then-arity-ne1-clause-is c =
    unheard c.args.call c.args.order.now (λ world. byte_read c.args.byte world)
    (machine_of c.args.state.now) (λ is. c.if-arity-ne1.true (c.arity.ensures ∙ is))

pub returns-in-Some-clause-is : goal.returns-in-Some-clause-is
returns-in-Some-clause-is c =
    let one : LowWorld → List Low → Machine → Next =
    λ world values m. answered (of_one (byte_read c.args.byte world) values) m in
    let go : List Low → Machine → Next = λ values m. one m.world values m in
    let left = c.pop_one.new.state in
    come_to c.hear_byte.result c.hear_byte.new.self _ _
    (in_its_world left (λ world. one world (low c.in-Some.a ∷ []) (machine_of left))
    ∙ sym (c.in-Some.ensures.is go)
    ∙ ap (λ n. arguments n c.args.order.now (machine_of c.args.state.now) go)
    (sym c.if-arity-ne1.false ∙ c.arity.ensures)) c.hear_byte.ensures.is
