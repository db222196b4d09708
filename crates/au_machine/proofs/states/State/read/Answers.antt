use Rattle.std.proofs.Common.{ap, ◌∙◌, reverse, Option, ℕ}
use Rattle.au_effects.specs.Values.{Place}
use Rattle.au_low.specs.Machines.{Low, having}
use Rattle.au_low.specs.Instructions.{pushes_behind}
use Rattle.au_effects.specs.References.{reference_in, reference_along}
use Rattle.au_effects.specs.Parts.{along}
use Rattle.au_machine.specs.States.{machine_of}
use Rattle.au_machine.proofs.StateLemmas.{come_to}
use Rattle.au_machine.proofs.WorldLemmas.{reads_is, reads_none}
use Rattle.au_machine.proofs.states.State.read.Goals as goal

pub returns-in_default-clause-is : goal.returns-in_default-clause-is
returns-in_default-clause-is c =
    let s = c.args.self.now in
    let back = reverse s.backs.items in
    ap (λ (found : Option Low). having (along found reference_in)
    (λ one. pushes_behind (reference_along one c.args.path.now) (machine_of s))) c.in_default.ensures.is

pub returns-in_default-reference_in-clause-is : goal.returns-in_default-reference_in-clause-is
returns-in_default-reference_in-clause-is c =
    let s = c.args.self.now in
    let back = reverse s.backs.items in
    ap (λ (found : Option (ℕ × Place)). having found
    (λ one. pushes_behind (reference_along one c.args.path.now)
    (machine_of s))) c.in_default-reference_in.ensures
    ∙ ap (λ (found : Option Low). having (along found reference_in)
    (λ one. pushes_behind (reference_along one c.args.path.now) (machine_of s))) c.in-Some.ensures.is

pub returns-in_default-at_behind-clause-is : goal.returns-in_default-at_behind-clause-is
returns-in_default-at_behind-clause-is c =
    let s = c.args.self.now in
    let back = reverse s.backs.items in
    reads_none s.function s.place s.operands s.borrows back s.world _ _ c.in_default-at_behind.ensures ∙ (ap
    (λ (found : Option (ℕ × Place)). having found
    (λ one. pushes_behind (reference_along one c.args.path.now)
    (machine_of s))) c.in-Some-reference_in.ensures ∙ ap
    (λ (found : Option Low). having (along found reference_in)
    (λ one. pushes_behind (reference_along one c.args.path.now) (machine_of s))) c.in-Some.ensures.is)

pub returns-clause-is : goal.returns-clause-is
returns-clause-is c =
    let s = c.args.self.now in
    let back = reverse s.backs.items in
    come_to c.push.result c.push.new.self _ _
    (reads_is s.function s.place s.operands s.borrows back s.world c.tell_use.new.self _ _ _ _
    c.in_ok-copy.ensures c.in_ok-tell_use.ensures.world c.in_ok-tell_use.ensures.frame
    c.in-Some-at_behind.ensures ∙ (ap (λ (found : Option (ℕ × Place)). having found
    (λ one. pushes_behind (reference_along one c.args.path.now)
    (machine_of s))) c.in-Some-reference_in.ensures ∙ ap
    (λ (found : Option Low). having (along found reference_in)
    (λ one. pushes_behind (reference_along one c.args.path.now)
    (machine_of s))) c.in-Some.ensures.is)) c.push.ensures.is
