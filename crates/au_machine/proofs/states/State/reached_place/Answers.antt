use Rattle.std.proofs.Common.{ap, ◌∙◌, reverse, Some, List, Option, ℕ}
use Rattle.au_effects.specs.Values.{Place}
use Rattle.au_low.specs.Machines.{Low}
use Rattle.au_effects.specs.References.{reference_in}
use Rattle.au_effects.specs.Parts.{along}
use Rattle.au_cells.specs.Cells.{base_of}
use Rattle.au_machine.proofs.states.State.reached_place.Goals as goal

pub returns-in_default : goal.returns-in_default
returns-in_default c =
    let s = c.args.self.now in
    let back = reverse s.backs.items in
    ap (λ (found : Option Low). along (along found reference_in) (λ (one : ℕ
    × Place). Some one.1)) c.in_default.ensures.is

pub returns-in_default-reference_in : goal.returns-in_default-reference_in
returns-in_default-reference_in c =
    let s = c.args.self.now in
    let back = reverse s.backs.items in
    ap (λ (found : Option (ℕ × Place)). along found (λ (one : ℕ
    × Place). Some one.1)) c.in_default-reference_in.ensures ∙ ap
    (λ (found : Option Low). along (along found reference_in) (λ (one : ℕ
    × Place). Some one.1)) c.in-Some.ensures.is

pub returns : goal.returns
returns c =
    let s = c.args.self.now in
    let back = reverse s.backs.items in
    ap (λ (path : List ℕ). Some (record { base = base_of c.in-Some-reference_in.one.now.start; path = path }))
    (c.in_ok-path.ensures ∙ c.as_slice.ensures) ∙ ap (λ (found : Option (ℕ × Place)). along found (λ (one : ℕ
    × Place). Some one.1)) c.in-Some-reference_in.ensures ∙ ap
    (λ (found : Option Low). along (along found reference_in) (λ (one : ℕ
    × Place). Some one.1)) c.in-Some.ensures.is
