use Rattle.std.proofs.Common.{ap, sym, ◌∙◌, refl, reverse, Option}
use Rattle.au_cells.specs.Cells.{low}
use Rattle.au_low.specs.Machines.{LowWorld, Machine, goes, onward, in_world, having}
use Rattle.au_machine.specs.States.{machine_of}
use Rattle.au_stores.specs.Stores.{done_in}
use Rattle.au_machine.proofs.StateLemmas.{world_changed}
use Rattle.au_machine.proofs.WorldLemmas.{puts_in, popped_behind, nothing_behind}
use Rattle.au_machine.proofs.states.State.put_through.Goals as goal

pub returns-in_default-clause-is : goal.returns-in_default-clause-is
returns-in_default-clause-is c =
    let s = c.args.self.now in
    let back = reverse s.backs.items in
    nothing_behind (machine_of s) c.args.slot c.args.path.now c.in_default.ensures.is

pub returns-then-not-branch-clause-is : goal.returns-then-not-branch-clause-is
returns-then-not-branch-clause-is c =
    let s = c.args.self.now in
    let back = reverse s.backs.items in
    let m = c.pop.new.self in
    let own = reverse m.backs.items in
    ap (λ (found : Option LowWorld). having found (λ new. goes (onward (in_world new (machine_of m))))) (ap
    (λ b. done_in b c.put_behind.new.self) (sym c.if-not-branch.true) ∙ c.in_ok-put_behind.ensures.world)
    ∙ puts_in m.function m.place m.operands m.borrows own m.world c.args.slot c.args.path.now
    (low c.in-Some.cell)
    ∙ popped_behind (machine_of s) (machine_of m) c.args.slot c.args.path.now
    (low c.in-Some.cell) c.in-Some.ensures.is

pub returns-clause-is : goal.returns-clause-is
returns-clause-is c =
    let s = c.args.self.now in
    let back = reverse s.backs.items in
    let m = c.pop.new.self in
    let own = reverse m.backs.items in
    c.go.ensures.is ∙ ap (λ (all : Machine). goes (onward all))
    (world_changed m.function m.place m.operands m.borrows own m.world c.put_behind.new.self _ refl
    c.in_ok-put_behind.ensures.frame)
    ∙ ap (λ (found : Option LowWorld). having found (λ new. goes (onward (in_world new (machine_of m))))) (ap
    (λ b. done_in b c.put_behind.new.self) (sym c.if-not-branch.false) ∙ c.in_ok-put_behind.ensures.world)
    ∙ puts_in m.function m.place m.operands m.borrows own m.world c.args.slot c.args.path.now
    (low c.in-Some.cell)
    ∙ popped_behind (machine_of s) (machine_of m) c.args.slot c.args.path.now
    (low c.in-Some.cell) c.in-Some.ensures.is
