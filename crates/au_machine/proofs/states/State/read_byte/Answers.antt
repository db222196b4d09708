use Rattle.std.proofs.Common.{reverse, ℕ}
use Rattle.au_effects.specs.Answers.{Answer, waits}
use Rattle.au_effects.specs.Calls.{terminal_in}
use Rattle.au_cells.specs.Cells.{low}
use Rattle.au_stores.specs.Stores.{world_of}
use Rattle.au_machine.specs.States.{machine_of}
use Rattle.au_machine.proofs.ShippedLemmas.{use_found, use_none}
use Rattle.au_machine.proofs.states.State.read_byte.Goals as goal

pub returns-in-Some : goal.returns-in-Some
returns-in-Some c =
    let s = c.args.self.now in
    let own = reverse s.backs.items in
    let w = world_of s.world in
    let go : ℕ → ℕ → Answer ℕ ℕ = λ b id. waits in
    use_found terminal_in w go (low c.args.reference.now) (machine_of s) _ _ c.in-Some.ensures

pub returns-in-None : goal.returns-in-None
returns-in-None c =
    let s = c.args.self.now in
    let own = reverse s.backs.items in
    let w = world_of s.world in
    let go : ℕ → ℕ → Answer ℕ ℕ = λ b id. waits in
    use_none terminal_in w go (low c.args.reference.now) (machine_of s) c.in-None.ensures
