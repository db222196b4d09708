use Rattle.std.proofs.Common.{ap, ◌∙◌, refl, reverse, List, ℕ}
use Rattle.au_effects.specs.Values.{unit}
use Rattle.au_effects.specs.Answers.{Answer, writes}
use Rattle.au_effects.specs.Numbers.{truth_bytes}
use Rattle.au_effects.specs.Calls.{in_line}
use Rattle.au_low.specs.Machines as machine
use Rattle.au_low.specs.Machines.{onward, pushed}
use Rattle.au_stores.specs.Stores.{world_of}
use Rattle.au_machine.specs.States.{machine_of}
use Rattle.au_machine.proofs.StateLemmas.{come_to}
use Rattle.au_machine.proofs.ShippedLemmas.{written_in, from_found, from_none}
use Rattle.au_machine.proofs.states.State.print_truth.Goals as goal

pub returns-in-Some-clause-is : goal.returns-in-Some-clause-is
returns-in-Some-clause-is c =
    let s = c.args.self.now in
    let own = reverse s.backs.items in
    let w = world_of s.world in
    let go : List ℕ → Answer ℕ ℕ = λ bytes. writes (in_line c.args.line bytes) w in
    come_to c.write_out.result c.write_out.new.self _ _
    (ap (λ (b : List ℕ). machine.writes (in_line c.args.line b) (onward (pushed unit
    (machine_of s)))) c.word_of.ensures
    ∙ written_in s.function s.place s.operands s.borrows own s.world s.world _ _ refl refl
    ∙ from_found _ _ go (machine_of s) (ap truth_bytes c.in-Some.ensures)) c.write_out.ensures.is

pub returns-in-None-clause-is : goal.returns-in-None-clause-is
returns-in-None-clause-is c =
    let s = c.args.self.now in
    let own = reverse s.backs.items in
    let w = world_of s.world in
    let go : List ℕ → Answer ℕ ℕ = λ bytes. writes (in_line c.args.line bytes) w in
    from_none _ go (machine_of s) (ap truth_bytes c.in-None.ensures)
