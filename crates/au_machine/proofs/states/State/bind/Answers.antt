use Rattle.std.proofs.Common.{ap, sym, ◌∙◌, reverse, Option}
use Rattle.std.specs.Option.{option_map}
use Rattle.au_effects.specs.Values.{Place}
use Rattle.au_low.specs.Machines.{Low, Machine, Next, having}
use Rattle.au_low.specs.Instructions.{stores, borrowed, new_reference}
use Rattle.au_machine.specs.States.{machine_of}
use Rattle.au_machine.specs.States.{place_in}
use Rattle.au_machine.proofs.states.State.bind.Goals as goal

pub returns-in_default-clause-is : goal.returns-in_default-clause-is
returns-in_default-clause-is c =
    let s = c.args.self.now in
    let back = reverse s.backs.items in
    let go : Option Place → Next = λ found. having found
    (λ place. stores c.args.into (new_reference place (machine_of s)) (borrowed (machine_of s))) in
    ap go (ap (option_map place_in) (sym c.in_default.is) ∙ c.in_ok-start.ensures)

pub returns-clause-is : goal.returns-clause-is
returns-clause-is c =
    let s = c.args.self.now in
    let back = reverse s.backs.items in
    let at = place_in (c.in-Some.start, c.in-Some.path) in
    let m = machine_of s in
    let go : Option Place → Next = λ found. having found
    (λ place. stores c.args.into (new_reference place (machine_of s)) (borrowed (machine_of s))) in
    c.store.ensures.is ∙ ap (λ (v : Low). stores c.args.into v
    (machine_of c.lend.new.self)) c.in_ok-cell.ensures.cell
    ∙ ap (λ (all : Machine). stores c.args.into (new_reference at m) all) c.in_ok-cell.ensures.new ∙ ap go
    (ap (option_map place_in) (sym c.in-Some.is) ∙ c.in_ok-start.ensures)
