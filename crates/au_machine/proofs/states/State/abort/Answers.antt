use Rattle.std.proofs.Common.{ap, ◌∙◌, reverse, ℕ}
use Rattle.au_effects.specs.Answers.{Answer, aborts, called}
use Rattle.au_low.specs.Machines as machine
use Rattle.au_stores.specs.Stores.{world_of}
use Rattle.au_machine.specs.States.{machine_of}
use Rattle.au_machine.proofs.ShippedLemmas.{own_world, from_found, from_none}
use Rattle.au_machine.proofs.states.State.abort.Goals as goal

pub returns-in-Some-clause-is : goal.returns-in-Some-clause-is
returns-in-Some-clause-is c =
    let s = c.args.self.now in
    let own = reverse s.backs.items in
    let w = world_of s.world in
    let go : ℕ → Answer ℕ ℕ = λ t. aborts (called t) w in
    ap (machine.aborts (called c.in-Some.number))
    (own_world s.function s.place s.operands s.borrows own s.world)
    ∙ from_found _ _ go (machine_of s) c.in-Some.ensures

pub returns-in-None-clause-is : goal.returns-in-None-clause-is
returns-in-None-clause-is c =
    let s = c.args.self.now in
    let own = reverse s.backs.items in
    let w = world_of s.world in
    let go : ℕ → Answer ℕ ℕ = λ t. aborts (called t) w in
    from_none _ go (machine_of s) c.in-None.ensures
