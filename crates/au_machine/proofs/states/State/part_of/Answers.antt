use Rattle.std.proofs.Common.{ap, ◌∙◌, reverse, Option, ℕ}
use Rattle.au_effects.specs.Values.{Place, reference}
use Rattle.au_cells.specs.Cells.{place_of}
use Rattle.au_low.specs.Machines.{Low, pushes, having}
use Rattle.au_effects.specs.References.{reference_in, reference_along, referring}
use Rattle.au_effects.specs.Parts.{along}
use Rattle.au_machine.specs.States.{machine_of}
use Rattle.au_machine.proofs.StateLemmas.{come_to}
use Rattle.au_machine.proofs.states.State.part_of.Goals as goal

pub returns-in_default-clause-is : goal.returns-in_default-clause-is
returns-in_default-clause-is c =
    let s = c.args.self.now in
    let back = reverse s.backs.items in
    ap (λ (found : Option Low). having (along found reference_in)
    (λ one. pushes (referring (reference_along one c.args.path.now)) (machine_of s))) c.in_default.ensures.is

pub returns-in_default-reference_in-clause-is : goal.returns-in_default-reference_in-clause-is
returns-in_default-reference_in-clause-is c =
    let s = c.args.self.now in
    let back = reverse s.backs.items in
    ap (λ (found : Option (ℕ × Place)). having found
    (λ one. pushes (referring (reference_along one c.args.path.now))
    (machine_of s))) c.in_default-reference_in.ensures ∙ ap
    (λ (found : Option Low). having (along found reference_in)
    (λ one. pushes (referring (reference_along one c.args.path.now)) (machine_of s))) c.in-Some.ensures.is

pub returns-clause-is : goal.returns-clause-is
returns-clause-is c =
    let s = c.args.self.now in
    let back = reverse s.backs.items in
    come_to c.push.result c.push.new.self _ _ (ap (λ (v : Low). pushes v (machine_of s)) (c.in_ok-cell.ensures
    ∙ ap (λ n. reference n (place_of c.in_ok-more.more)) c.in_ok-more.ensures.borrow ∙ ap
    (λ (p : Place). reference c.in-Some-reference_in.one.now.borrow p) c.in_ok-more.ensures.place) ∙ (ap
    (λ (found : Option (ℕ × Place)). having found
    (λ one. pushes (referring (reference_along one c.args.path.now))
    (machine_of s))) c.in-Some-reference_in.ensures ∙ ap
    (λ (found : Option Low). having (along found reference_in)
    (λ one. pushes (referring (reference_along one c.args.path.now))
    (machine_of s))) c.in-Some.ensures.is)) c.push.ensures.is
