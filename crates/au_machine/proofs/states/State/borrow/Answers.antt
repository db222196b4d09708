use Rattle.std.proofs.Common.{ap, sym, ◌∙◌, reverse, Option}
use Rattle.std.specs.Option.{option_map}
use Rattle.au_effects.specs.Values.{Place}
use Rattle.au_low.specs.Machines.{Low, Machine, Next, pushes, having}
use Rattle.au_low.specs.Instructions.{borrowed, new_reference}
use Rattle.au_machine.specs.States.{machine_of}
use Rattle.au_machine.specs.States.{place_in}
use Rattle.au_machine.proofs.StateLemmas.{come_to}
use Rattle.au_machine.proofs.states.State.borrow.Goals as goal

pub returns-in_default-clause-is : goal.returns-in_default-clause-is
returns-in_default-clause-is c =
    let s = c.args.self.now in
    let back = reverse s.backs.items in
    let go : Option Place → Next = λ found. having found
    (λ place. pushes (new_reference place (machine_of s)) (borrowed (machine_of s))) in
    ap go (ap (option_map place_in) (sym c.in_default.is) ∙ c.in_ok-start.ensures)

pub returns-clause-is : goal.returns-clause-is
returns-clause-is c =
    let s = c.args.self.now in
    let back = reverse s.backs.items in
    let at = place_in (c.in-Some.start, c.in-Some.path) in
    let m = machine_of s in
    let go : Option Place → Next = λ found. having found
    (λ place. pushes (new_reference place (machine_of s)) (borrowed (machine_of s))) in
    come_to c.push.result c.push.new.self _ _
    (ap (λ (v : Low). pushes v (machine_of c.lend.new.self)) c.in_ok-cell.ensures.cell
    ∙ ap (λ (all : Machine). pushes (new_reference at m) all) c.in_ok-cell.ensures.new ∙ ap go
    (ap (option_map place_in) (sym c.in-Some.is) ∙ c.in_ok-start.ensures)) c.push.ensures.is
