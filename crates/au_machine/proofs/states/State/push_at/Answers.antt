use Rattle.std.specs.Int.{w128}
use Rattle.std.proofs.lemmas.Int.{to_z-of_z}
use Rattle.au_effects.specs.Numbers.{at_kind}
use Rattle.au_ints.specs.Operations.{converted}
use Rattle.std.proofs.Common.{ap, ◌∙◌}
use Rattle.au_machine.specs.States.{machine_of}
use Rattle.au_cells.specs.Cells.{low}
use Rattle.au_machine.proofs.StateLemmas.{come_to, in_range, out_of_range}
use Rattle.au_machine.proofs.states.State.push_at.Goals as goal

pub returns-in-Some-clause-is : goal.returns-in-Some-clause-is
returns-in-Some-clause-is c =
    let m = machine_of c.args.self.now in
    come_to c.push.result c.push.new.self _ _
    (in_range c.args.kind c.args.value (low c.in-Some.cell) m
    (c.in-Some.ensures ∙ ap (λ z. at_kind c.args.kind (converted c.args.kind z))
    (to_z-of_z w128 c.args.value c.ranges.value))) c.push.ensures.is

pub returns-in-None-clause-is : goal.returns-in-None-clause-is
returns-in-None-clause-is c = out_of_range c.args.kind c.args.value _
    (c.in-None.ensures ∙ ap (λ z. at_kind c.args.kind (converted c.args.kind z))
    (to_z-of_z w128 c.args.value c.ranges.value))
