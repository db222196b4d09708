use Rattle.std.proofs.Common.{List, [], ◌∷◌, sym, ◌∙◌}
use Rattle.au_effects.specs.Calls.{shipped}
use Rattle.au_low.specs.Machines.{Low, LowWorld, Machine, Next}
use Rattle.au_low.specs.Instructions.{answered, text_bytes}
use Rattle.au_cells.specs.Cells.{low}
use Rattle.au_machine.specs.States.{machine_of}
use Rattle.au_machine.proofs.StateLemmas.{come_to}
use Rattle.au_runs.proofs.FrameLemmas.{in_its_world}
use Rattle.au_runs.proofs.shipping.with_two.Goals as goal

pub returns-in-Some-clause-is : goal.returns-in-Some-clause-is
returns-in-Some-clause-is c =
    let one : LowWorld → List Low → Machine → Next =
    λ world values m. answered (shipped (text_bytes c.args.code.now) c.args.call c.args.of world values) m in
    let go : List Low → Machine → Next = λ values m. one m.world values m in
    let left = c.pop_pair.new.state in
    come_to c.shipped_with_two.result c.shipped_with_two.new.self _ _
    (in_its_world left (λ world. one world (low c.in-Some.a ∷ low c.in-Some.b ∷ []) (machine_of left))
    ∙ sym (c.in-Some.ensures.is go)) c.shipped_with_two.ensures.is
