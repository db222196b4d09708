use Rattle.std.proofs.Common.{ap, sym, None, [], ◌∷◌}
use Rattle.au_shipped.specs.declared.prims.ShippedCall.{ShippedCall}
use Rattle.au_effects.specs.Calls.{shipped}
use Rattle.au_low.specs.Machines.{Next}
use Rattle.au_low.specs.Instructions.{answered, text_bytes}
use Rattle.au_cells.specs.Cells.{low}
use Rattle.au_stores.specs.Stores.{world_of}
use Rattle.au_machine.specs.States.{machine_of}
use Rattle.au_machine.proofs.StateLemmas.{come_to}
use Rattle.au_machine.proofs.CallingLemmas.{not_of_two}
use Rattle.au_machine.proofs.states.State.call_with_two.Goals as goal

pub returns-in-Swap-clause-is : goal.returns-in-Swap-clause-is
unfolding shipped
returns-in-Swap-clause-is c =
    let s = c.args.self.now in
    let bytes_of = text_bytes c.args.code.now in
    let w = world_of s.world in
    let go : ShippedCall → Next =
    λ call. answered (shipped bytes_of call None w (low c.args.a ∷ low c.args.b ∷ [])) (machine_of s) in
    come_to c.swap.result c.swap.new.self _ _
    (ap go (sym c.in-Swap.is)) c.swap.ensures.is

pub returns-in-InsertBack-clause-is : goal.returns-in-InsertBack-clause-is
unfolding shipped
returns-in-InsertBack-clause-is c =
    let s = c.args.self.now in
    let bytes_of = text_bytes c.args.code.now in
    let w = world_of s.world in
    let go : ShippedCall → Next =
    λ call. answered (shipped bytes_of call None w (low c.args.a ∷ low c.args.b ∷ [])) (machine_of s) in
    come_to c.insert_back.result c.insert_back.new.self _ _
    (ap go (sym c.in-InsertBack.is)) c.insert_back.ensures.is

pub returns-in-Nth-clause-is : goal.returns-in-Nth-clause-is
unfolding shipped
returns-in-Nth-clause-is c =
    let s = c.args.self.now in
    let bytes_of = text_bytes c.args.code.now in
    let w = world_of s.world in
    let go : ShippedCall → Next =
    λ call. answered (shipped bytes_of call None w (low c.args.a ∷ low c.args.b ∷ [])) (machine_of s) in
    come_to c.nth.result c.nth.new.self _ _
    (ap go (sym c.in-Nth.is)) c.nth.ensures.is

pub returns-in-WriteByte-clause-is : goal.returns-in-WriteByte-clause-is
unfolding shipped
returns-in-WriteByte-clause-is c =
    let s = c.args.self.now in
    let bytes_of = text_bytes c.args.code.now in
    let w = world_of s.world in
    let go : ShippedCall → Next =
    λ call. answered (shipped bytes_of call None w (low c.args.a ∷ low c.args.b ∷ [])) (machine_of s) in
    come_to c.write_byte.result c.write_byte.new.self _ _
    (ap go (sym c.in-WriteByte.is)) c.write_byte.ensures.is

pub returns-clause-is : goal.returns-clause-is
returns-clause-is c =
    let s = c.args.self.now in
    not_of_two (text_bytes c.args.code.now) (world_of s.world) (low c.args.a) (low c.args.b)
    (machine_of s) c.args.call
    (record {
      not_swap = c.in_default.not-Swap;
      not_insert_back = c.in_default.not-InsertBack;
      not_nth = c.in_default.not-Nth;
      not_write_byte = c.in_default.not-WriteByte;
    })
