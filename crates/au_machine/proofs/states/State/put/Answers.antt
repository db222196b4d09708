use Rattle.std.proofs.Common.{ap, sym, ◌∙◌, refl, reverse, Option, List, ℕ}
use Rattle.std.proofs.lemmas.Bool.{eqb-true}
use Rattle.std.proofs.lemmas.List.{nil_from_length}
use Rattle.au_low.specs.Instructions.{puts, slot_part}
use Rattle.au_machine.specs.States.{machine_of}
use Rattle.au_low.specs.Machines.{Low, Machine, goes, onward, in_world, having}
use Rattle.au_cells.specs.Cells.{low}
use Rattle.au_low.specs.Machines.{LowWorld}
use Rattle.au_machine.proofs.StateLemmas.{world_changed, puts_is}
use Rattle.au_machine.proofs.states.State.put.Goals as goal

pub returns-in-Some-clause-is : goal.returns-in-Some-clause-is
returns-in-Some-clause-is c =
    let s = c.args.self.now in
    let back = reverse s.backs.items in
    c.go.ensures.is ∙ ap (λ (m : Machine). goes (onward m))
    (world_changed s.function s.place s.operands s.borrows back s.world c.put_part.new.self _ refl
    c.in-Some.ensures.frame)
    ∙ ap (λ (found : Option (Low × LowWorld)). having found
    (λ pair. goes (onward (in_world pair.1 (machine_of s))))) c.in-Some.ensures.world
    ∙ puts_is s.function s.place s.operands s.borrows back s.world c.args.slot c.args.path.now
    (low c.args.cell)

pub returns-in-None-clause-is : goal.returns-in-None-clause-is
returns-in-None-clause-is c =
    let s = c.args.self.now in
    let back = reverse s.backs.items in
    ap (λ (found : Option (Low × LowWorld)). having found
    (λ pair. goes (onward (in_world pair.1 (machine_of s))))) c.in-None.ensures.world
    ∙ puts_is s.function s.place s.operands s.borrows back s.world c.args.slot c.args.path.now
    (low c.args.cell)

pub returns-then-is_empty-clause-is : goal.returns-then-is_empty-clause-is
returns-then-is_empty-clause-is c =
    let m = machine_of c.args.self.now in
    let path = c.args.path.now in
    let nothing = nil_from_length path (eqb-true _ 0 (sym c.is_empty.ensures ∙ c.if-is_empty.true)) in
    c.put_whole.ensures.is
    ∙ ap (λ (path : List ℕ). puts (slot_part c.args.slot path m) (low c.args.cell) m) (sym nothing)
