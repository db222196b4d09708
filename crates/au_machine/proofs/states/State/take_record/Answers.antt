use Rattle.std.proofs.Common.{ap, sym, ◌∙◌, reverse, Some, None, Option}
use Rattle.au_cells.specs.Cells.{low, lows}
use Rattle.au_low.specs.Machines.{Machine, goes, onward, in_world, having, where_true}
use Rattle.au_machine.specs.States.{machine_of}
use Rattle.std.specs.Prelude.{if◌then◌else◌}
use Rattle.au_low.specs.Instructions.{takes_record}
use Rattle.au_low.specs.Machines.{slots_filled}
use Rattle.au_effects.specs.Worlds.{spends}
use Rattle.au_cells.specs.Cells.{apart_of}
use Rattle.au_machine.proofs.WorldLemmas.{popped_apart, popped_other, stuck_then, not_zero}
use Rattle.au_machine.proofs.states.State.take_record.Goals as goal

pub returns-in_default-into_parts-clause-is : goal.returns-in_default-into_parts-clause-is
returns-in_default-into_parts-clause-is c =
    let s = c.args.self.now in
    let back = reverse s.backs.items in
    let m = machine_of c.pop.new.self in
    popped_other (machine_of s) m (low c.in-Some.cell) c.args.slot takes_record c.in-Some.ensures.is
    c.in_default-into_parts.ensures

pub returns-then-not-branch-clause-is : goal.returns-then-not-branch-clause-is
returns-then-not-branch-clause-is c =
    let s = c.args.self.now in
    let back = reverse s.backs.items in
    let m = machine_of c.pop.new.self in
    let parts = c.in-Some-into_parts.field-0 in
    let old = machine_of s in
    ap (λ (found : Option Machine). having found (takes_record parts.tag)) (ap
    (λ b. if b then Some (machine_of c.spread.new.self) else None) (sym c.if-not-branch.true)
    ∙ c.in_ok-spread.ensures.is)
    ∙ popped_apart old m (low c.in-Some.cell)
    (apart_of parts) c.args.slot takes_record c.in-Some.ensures.is c.in-Some-into_parts.ensures

pub returns-then-tag-ne0-clause-is : goal.returns-then-tag-ne0-clause-is
returns-then-tag-ne0-clause-is c =
    let s = c.args.self.now in
    let back = reverse s.backs.items in
    let m = machine_of c.pop.new.self in
    let parts = c.in-Some-into_parts.field-0 in
    let old = machine_of s in
    let filled = slots_filled c.args.slot (lows parts.fields.items) (in_world
    (spends parts.birth m.world) m) in
    stuck_then filled (takes_record parts.tag) (λ (m : Machine). ap
    (λ b. where_true b (goes (onward m))) (not_zero parts.tag c.if-tag-ne0.true))
    ∙ popped_apart old m (low c.in-Some.cell)
    (apart_of parts) c.args.slot takes_record c.in-Some.ensures.is c.in-Some-into_parts.ensures

pub returns-clause-is : goal.returns-clause-is
returns-clause-is c =
    let s = c.args.self.now in
    let back = reverse s.backs.items in
    let m = machine_of c.pop.new.self in
    let parts = c.in-Some-into_parts.field-0 in
    let old = machine_of s in
    c.go.ensures.is ∙ ap (λ n. takes_record n (machine_of c.spread.new.self)) (sym c.if-tag-ne0.false)
    ∙ ap (λ (found : Option Machine). having found (takes_record parts.tag)) (ap
    (λ b. if b then Some (machine_of c.spread.new.self) else None) (sym c.if-not-branch.false)
    ∙ c.in_ok-spread.ensures.is)
    ∙ popped_apart old m (low c.in-Some.cell)
    (apart_of parts) c.args.slot takes_record c.in-Some.ensures.is c.in-Some-into_parts.ensures
