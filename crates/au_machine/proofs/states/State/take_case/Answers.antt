use Rattle.std.proofs.Common.{ap, sym, ◌∙◌, reverse, Some, None, Option, ℕ}
use Rattle.std.specs.Option.{option_map}
use Rattle.std.specs.Prelude.{if◌then◌else◌}
use Rattle.au_cells.specs.Cells.{low, lows}
use Rattle.au_low.specs.Machines.{Machine, in_world, having, slots_filled}
use Rattle.au_low.specs.Instructions.{jumps, goes_to_case}
use Rattle.au_stores.specs.Stores.{world_of, taken, told_by}
use Rattle.au_machine.specs.States.{machine_of}
use Rattle.au_machine.proofs.StateLemmas.{its_function}
use Rattle.au_machine.proofs.WorldLemmas.{popped_told, popped_untold, stuck_then, stuck_there, function_stays}
use Rattle.au_machine.proofs.WorldLemmas.{no_label}
use Rattle.au_machine.proofs.states.State.take_case.Goals as goal

pub returns-in_default-2-clause-is : goal.returns-in_default-2-clause-is
returns-in_default-2-clause-is c =
    let s = c.args.self.now in
    let m = c.pop.new.self in
    popped_untold m.function m.place m.operands m.borrows (reverse m.backs.items) (machine_of s) m.world
    (low c.in-Some.cell) c.args.slot (goes_to_case c.args.code.now c.args.labels.now) c.in-Some.ensures.is
    (ap (option_map (told_by (world_of m.world))) (sym c.in_default-2.is) ∙ c.in_ok-told.ensures)

pub returns-then-not-branch-clause-is : goal.returns-then-not-branch-clause-is
returns-then-not-branch-clause-is c =
    let s = c.args.self.now in
    let m = c.pop.new.self in
    let told = c.in-Some-2.told in
    let go = goes_to_case c.args.code.now c.args.labels.now in
    ap (λ (found : Option Machine). having found (go told.tag))
    (ap (λ b. if b then Some (machine_of c.spread.new.self) else None) (sym c.if-not-branch.true)
    ∙ c.in_ok-spread.ensures.is)
    ∙ popped_told m.function m.place m.operands m.borrows (reverse m.backs.items) (machine_of s) m.world
    (low c.in-Some.cell) told c.args.slot go c.in-Some.ensures.is
    (ap (option_map (told_by (world_of m.world))) (sym c.in-Some-2.is) ∙ c.in_ok-told.ensures)

pub returns-in_default-label_of-clause-is : goal.returns-in_default-label_of-clause-is
returns-in_default-label_of-clause-is c =
    let s = c.args.self.now in
    let m = c.pop.new.self in
    let told = c.in-Some-2.told in
    let go = goes_to_case c.args.code.now c.args.labels.now in
    let begun = in_world (taken told.how (machine_of m).world) (machine_of m) in
    stuck_then (slots_filled c.args.slot (lows told.fields.items) begun) (go told.tag) (λ (m : Machine). ap
    (λ (found : Option ℕ). having found (λ label. jumps c.args.code.now label m))
    (sym c.in_default-label_of.ensures))
    ∙ popped_told m.function m.place m.operands m.borrows (reverse m.backs.items) (machine_of s) m.world
    (low c.in-Some.cell) told c.args.slot go c.in-Some.ensures.is
    (ap (option_map (told_by (world_of m.world))) (sym c.in-Some-2.is) ∙ c.in_ok-told.ensures)

pub returns-clause-is : goal.returns-clause-is
returns-clause-is c =
    let s = c.args.self.now in
    let m = c.pop.new.self in
    let told = c.in-Some-2.told in
    let go = goes_to_case c.args.code.now c.args.labels.now in
    c.jump.ensures.is ∙ ap (λ (found : Option ℕ). having found
    (λ label. jumps c.args.code.now label (machine_of c.spread.new.self))) c.in-Some-label_of.ensures
    ∙ ap (λ (found : Option Machine). having found (go told.tag)) (ap
    (λ b. if b then Some (machine_of c.spread.new.self) else None) (sym c.if-not-branch.false)
    ∙ c.in_ok-spread.ensures.is)
    ∙ popped_told m.function m.place m.operands m.borrows (reverse m.backs.items) (machine_of s) m.world
    (low c.in-Some.cell) told c.args.slot go c.in-Some.ensures.is
    (ap (option_map (told_by (world_of m.world))) (sym c.in-Some-2.is) ∙ c.in_ok-told.ensures)

pub returns-then-not-has_label-clause-is : goal.returns-then-not-has_label-clause-is
returns-then-not-has_label-clause-is c =
    let s = c.args.self.now in
    let m = c.pop.new.self in
    let told = c.in-Some-2.told in
    let code = c.args.code.now in
    let go = goes_to_case code c.args.labels.now in
    let begun = in_world (taken told.how (machine_of m).world) (machine_of m) in
    let own = its_function m.function m.place m.operands m.borrows (reverse m.backs.items) m.world in
    stuck_there (slots_filled c.args.slot (lows told.fields.items) begun) (go told.tag) (λ to is.
    no_label code c.args.labels.now told.tag c.in-Some-label_of.label m.function to
    c.in-Some-label_of.ensures (function_stays c.args.slot (lows told.fields.items) begun to is ∙ own)
    (sym c.has_label.ensures ∙ c.if-not-has_label.true))
    ∙ popped_told m.function m.place m.operands m.borrows (reverse m.backs.items) (machine_of s) m.world
    (low c.in-Some.cell) told c.args.slot go c.in-Some.ensures.is
    (ap (option_map (told_by (world_of m.world))) (sym c.in-Some-2.is) ∙ c.in_ok-told.ensures)
