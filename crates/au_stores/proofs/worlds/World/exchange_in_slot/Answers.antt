-- The slot is emptied, and gets what it held, with the part that was put.
use Rattle.std.proofs.Common.{Some, None, arith, ap, sym, ◌∙◌}
use Rattle.std.proofs.lemmas.Bool.{ltb-true}
use Rattle.au_effects.specs.Places.{name_set}
use Rattle.au_low.specs.Machines.{Low}
use Rattle.au_cells.specs.Cells.{low}
use Rattle.au_stores.specs.Stores.{world_of, slot_place, slot_count}
use Rattle.au_stores.proofs.FillLemmas.{count_set}
use Rattle.au_stores.proofs.PutLemmas.{exchanged_is, name_same, slot_put, slot_kept}
use Rattle.au_stores.proofs.worlds.World.exchange_in_slot.Goals as goal

pub returns-in_err-base-clause-kept : goal.returns-in_err-base-clause-kept
returns-in_err-base-clause-kept c missing =
    let w = world_of c.args.self.now in
    c.in_err-base.ensures.world ∙ name_same c.args.frame c.args.slot None w (sym c.in_err-base.ensures.old)

pub set_name-requires-2 : goal.set_name-requires-2
set_name-requires-2 c =
    let w = world_of c.args.self.now in
    let there = ltb-true c.args.slot (slot_count c.args.frame w) (sym c.if-not-has_name.ensures) in
    let same = ap (slot_count c.args.frame) c.in_ok-base.ensures.world
    ∙ count_set c.args.frame c.args.slot None w in
    omega (arith, there, same)

pub returns-clause-world : goal.returns-clause-world
returns-clause-world c =
    let w = world_of c.args.self.now in
    let put = slot_put c.args.frame c.args.slot (Some (low c.replace-old.new.cell)) w
    (world_of c.set_name.new.self)
    (world_of c.set_name-2.new.self) c.in_ok-base.ensures.world c.set_name-2.ensures.world
    ∙ ap (λ (value : Low). name_set c.args.frame c.args.slot (Some value) w) c.replace-old.ensures.whole in
    exchanged_is (slot_place c.args.frame c.args.slot c.args.path.now) (low c.args.new)
    (low c.in_ok-base.base)
    c.replace-old.result w c.set_name-2.new.self (sym c.in_ok-base.ensures.old) c.replace-old.ensures.old put

pub returns-clause-kept : goal.returns-clause-kept
returns-clause-kept c missing =
    let w = world_of c.args.self.now in
    let put = slot_put c.args.frame c.args.slot (Some (low c.replace-old.new.cell)) w
    (world_of c.set_name.new.self)
    (world_of c.set_name-2.new.self) c.in_ok-base.ensures.world c.set_name-2.ensures.world
    ∙ ap (λ (value : Low). name_set c.args.frame c.args.slot (Some value) w) c.replace-old.ensures.whole in
    slot_kept c.args.frame c.args.slot c.args.path.now (low c.args.new) (low c.in_ok-base.base)
    c.replace-old.result w
    (world_of c.set_name-2.new.self) (sym c.in_ok-base.ensures.old) c.replace-old.ensures.old missing put
