use Rattle.std.proofs.Common.{ap, ◌∙◌, reverse, ℕ}
use Rattle.au_effects.specs.Values.{optional}
use Rattle.au_effects.specs.Worlds.{used, tells}
use Rattle.au_effects.specs.Answers.{Answer, gives}
use Rattle.au_effects.specs.Calls.{terminal_in, byte_value}
use Rattle.au_low.specs.Machines.{Low}
use Rattle.au_cells.specs.Cells.{low}
use Rattle.au_stores.specs.Stores.{world_of}
use Rattle.au_machine.specs.States.{machine_of}
use Rattle.au_machine.proofs.StateLemmas.{come_to}
use Rattle.au_machine.proofs.ShippedLemmas.{answered_in, use_found, use_none}
use Rattle.au_machine.proofs.states.State.hear_byte.Goals as goal

pub returns-in_default-clause-is : goal.returns-in_default-clause-is
returns-in_default-clause-is c =
    let s = c.args.self.now in
    let own = reverse s.backs.items in
    let w = world_of s.world in
    let go : ℕ → ℕ → Answer ℕ ℕ = λ b id. gives (optional (byte_value c.args.byte)) (tells (used b) w) in
    use_none terminal_in w go (low c.args.reference.now) (machine_of s) c.in_default.ensures

pub returns-clause-is : goal.returns-clause-is
returns-clause-is c =
    let s = c.args.self.now in
    let own = reverse s.backs.items in
    let w = world_of s.world in
    let go : ℕ → ℕ → Answer ℕ ℕ = λ b id. gives (optional (byte_value c.args.byte)) (tells (used b) w) in
    come_to c.answer.result c.answer.new.self _ _
    (answered_in s.function s.place s.operands s.borrows own s.world c.tell_use.new.self _ _
    (ap (λ (v : Low). gives v (world_of c.tell_use.new.self)) c.in_ok-cell.ensures
    ∙ ap (gives (optional (byte_value c.args.byte))) c.in_ok-tell_use.ensures.world)
    c.in_ok-tell_use.ensures.frame
    ∙ use_found terminal_in w go (low c.args.reference.now)
    (machine_of s) c.in-Some.borrow c.in-Some._id c.in-Some.ensures)
    c.answer.ensures.is
