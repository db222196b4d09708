use Rattle.std.proofs.Common.{ap, sym, None, [], ◌∷◌}
use Rattle.au_shipped.specs.declared.prims.ShippedCall.{ShippedCall}
use Rattle.au_effects.specs.Calls.{shipped}
use Rattle.au_low.specs.Machines.{Next}
use Rattle.au_low.specs.Instructions.{answered, text_bytes}
use Rattle.au_cells.specs.Cells.{low}
use Rattle.au_stores.specs.Stores.{world_of}
use Rattle.au_machine.specs.States.{machine_of}
use Rattle.au_machine.proofs.StateLemmas.{come_to}
use Rattle.au_machine.proofs.CallingLemmas.{not_of_three}
use Rattle.au_machine.proofs.states.State.call_with_three.Goals as goal

pub returns-in-ReplaceNth-clause-is : goal.returns-in-ReplaceNth-clause-is
unfolding shipped
returns-in-ReplaceNth-clause-is c =
    let s = c.args.self.now in
    let bytes_of = text_bytes c.args.code.now in
    let w = world_of s.world in
    let go : ShippedCall → Next =
    λ call. answered (shipped bytes_of call None w (low c.args.a ∷ low c.args.b ∷ low c.args.c ∷ []))
    (machine_of s) in
    come_to c.replace_nth.result c.replace_nth.new.self _ _
    (ap go (sym c.in-ReplaceNth.is)) c.replace_nth.ensures.is

pub returns-clause-is : goal.returns-clause-is
returns-clause-is c =
    let s = c.args.self.now in
    not_of_three (text_bytes c.args.code.now) (world_of s.world) (low c.args.a) (low c.args.b)
    (low c.args.c) (machine_of s) c.args.call
    (record {
      not_replace_nth = c.in_default.not-ReplaceNth;
    })
