use Rattle.std.proofs.Common.{ap, sym, ◌∙◌, reverse, Some, None, List, ℕ}
use Rattle.au_effects.specs.Values.{Place}
use Rattle.au_low.specs.Instructions.{slot_part}
use Rattle.au_machine.specs.States.{machine_of}
use Rattle.std.proofs.Common.{[]}
use Rattle.std.specs.Prelude.{if◌then◌else◌}
use Rattle.au_stores.specs.Stores.{slot_place}
use Rattle.au_effects.specs.Values.{name_of}
use Rattle.au_machine.proofs.StateLemmas.{part_is}
use Rattle.au_machine.proofs.states.State.slot_place.Goals as goal

pub returns-then-not-has : goal.returns-then-not-has
returns-then-not-has c =
    let s = c.args.self.now in
    let back = reverse s.backs.items in
    ap (λ b. if b then Some (slot_part c.args.slot [] (machine_of s)) else None) (sym c.if-not-has.true
    ∙ c.has.ensures.is)

pub returns : goal.returns
returns c =
    let s = c.args.self.now in
    let back = reverse s.backs.items in
    ap (λ (path : List ℕ). Some (record { base = name_of c.depth-frame.result c.args.slot; path = path }))
    c.new.ensures
    ∙ ap (λ (p : Place). Some p) (ap (λ n. slot_place n c.args.slot []) c.depth-frame.ensures
    ∙ part_is s.function s.place s.operands s.borrows back s.world c.args.slot [])
    ∙ ap (λ b. if b then Some (slot_part c.args.slot [] (machine_of s)) else None) (sym c.if-not-has.false
    ∙ c.has.ensures.is)
