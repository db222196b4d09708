use Rattle.std.proofs.Common.{ap, ◌∙◌, reverse, ℕ, pos, length}
use Rattle.au_base.specs.declared.kinds.IntKind.TheVariants.{Index}
use Rattle.au_effects.specs.Values.{number}
use Rattle.au_effects.specs.Answers.{Answer, gives}
use Rattle.au_low.specs.Machines.{Low, pushes}
use Rattle.au_low.specs.Instructions.{text_bytes}
use Rattle.au_cells.proofs.CellLemmas.{index_is}
use Rattle.au_stores.specs.Stores.{world_of}
use Rattle.au_machine.specs.States.{machine_of}
use Rattle.au_machine.proofs.StateLemmas.{come_to}
use Rattle.au_machine.proofs.ShippedLemmas.{own_world, from_found, from_none}
use Rattle.au_machine.proofs.states.State.span_length.Goals as goal

pub returns-in-Some-clause-is : goal.returns-in-Some-clause-is
returns-in-Some-clause-is c =
    let s = c.args.self.now in
    let own = reverse s.backs.items in
    let w = world_of s.world in
    let go : ℕ → Answer ℕ ℕ = λ t. gives (number Index (pos (length (text_bytes c.args.code.now t)))) w in
    come_to c.push.result c.push.new.self _ _
    (ap (λ (v : Low). pushes v (machine_of s)) (index_is _)
    ∙ ap (λ n. pushes (number Index (pos n)) (machine_of s)) (ap length c.text_of.ensures)
    ∙ ap (pushes _) (own_world s.function s.place s.operands s.borrows own s.world)
    ∙ from_found _ _ go (machine_of s) c.in-Some.ensures) c.push.ensures.is

pub returns-in-None-clause-is : goal.returns-in-None-clause-is
returns-in-None-clause-is c =
    let s = c.args.self.now in
    let own = reverse s.backs.items in
    let w = world_of s.world in
    let go : ℕ → Answer ℕ ℕ = λ t. gives (number Index (pos (length (text_bytes c.args.code.now t)))) w in
    from_none _ go (machine_of s) c.in-None.ensures
