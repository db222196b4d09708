use Rattle.std.proofs.Common.{ap, sym, Some, [], ◌∷◌}
use Rattle.au_shipped.specs.declared.prims.ShippedCall.{ShippedCall}
use Rattle.au_effects.specs.Calls.{shipped}
use Rattle.au_low.specs.Machines.{Next}
use Rattle.au_low.specs.Instructions.{answered, text_bytes}
use Rattle.au_cells.specs.Cells.{low}
use Rattle.au_stores.specs.Stores.{world_of}
use Rattle.au_machine.specs.States.{machine_of}
use Rattle.au_machine.proofs.StateLemmas.{come_to}
use Rattle.au_machine.proofs.CallingLemmas.{not_bearing}
use Rattle.au_machine.proofs.states.State.bear_with.Goals as goal

pub returns-in-MakeBox-clause-is : goal.returns-in-MakeBox-clause-is
unfolding shipped
returns-in-MakeBox-clause-is c =
    let s = c.args.self.now in
    let bytes_of = text_bytes c.args.code.now in
    let w = world_of s.world in
    let go : ShippedCall → Next =
    λ call. answered (shipped bytes_of call (Some c.args.of) w (low c.args.a ∷ [])) (machine_of s) in
    come_to c.make_box.result c.make_box.new.self _ _
    (ap go (sym c.in-MakeBox.is)) c.make_box.ensures.is

pub returns-in-AcquireTerminal-clause-is : goal.returns-in-AcquireTerminal-clause-is
unfolding shipped
returns-in-AcquireTerminal-clause-is c =
    let s = c.args.self.now in
    let bytes_of = text_bytes c.args.code.now in
    let w = world_of s.world in
    let go : ShippedCall → Next =
    λ call. answered (shipped bytes_of call (Some c.args.of) w (low c.args.a ∷ [])) (machine_of s) in
    come_to c.acquire_terminal.result c.acquire_terminal.new.self _ _
    (ap go (sym c.in-AcquireTerminal.is)) c.acquire_terminal.ensures.is

pub returns-in_default-clause-is : goal.returns-in_default-clause-is
returns-in_default-clause-is c =
    let s = c.args.self.now in
    not_bearing (text_bytes c.args.code.now) c.args.of (world_of s.world) (low c.args.a)
    (machine_of s) c.args.call
    (record {
      not_make_box = c.in_default.not-MakeBox;
      not_acquire_terminal = c.in_default.not-AcquireTerminal;
    })
