use Rattle.std.proofs.Common.{ap, ◌∙◌, reverse, Some, ℕ}
use Rattle.au_effects.specs.Values.{unit}
use Rattle.au_effects.specs.Worlds.{spends}
use Rattle.au_effects.specs.Answers.{Answer, gives}
use Rattle.au_low.specs.Machines.{Low}
use Rattle.au_cells.proofs.CellLemmas.{unit_is}
use Rattle.au_stores.specs.Stores.{world_of}
use Rattle.au_machine.specs.States.{machine_of}
use Rattle.au_machine.proofs.StateLemmas.{come_to}
use Rattle.au_machine.proofs.ShippedLemmas.{answered_in, from_found, from_none}
use Rattle.au_machine.proofs.states.State.release_terminal.Goals as goal

pub returns-in_default-clause-is : goal.returns-in_default-clause-is
returns-in_default-clause-is c =
    let s = c.args.self.now in
    let own = reverse s.backs.items in
    let w = world_of s.world in
    let go : ℕ → Answer ℕ ℕ = λ id. gives unit (spends (Some id) w) in
    from_none _ go (machine_of s) c.in_default.ensures

pub returns-clause-is : goal.returns-clause-is
returns-clause-is c =
    let s = c.args.self.now in
    let own = reverse s.backs.items in
    let w = world_of s.world in
    let go : ℕ → Answer ℕ ℕ = λ id. gives unit (spends (Some id) w) in
    come_to c.answer.result c.answer.new.self _ _
    (answered_in s.function s.place s.operands s.borrows own s.world c.spend.new.self _ _
    (ap (λ (v : Low). gives v (world_of c.spend.new.self)) unit_is
    ∙ ap (gives unit) c.in_ok-spend.ensures.world)
    c.in_ok-spend.ensures.frame
    ∙ from_found _ _ go (machine_of s) c.in-Some.ensures) c.answer.ensures.is
