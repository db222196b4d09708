use Rattle.std.proofs.Common.{ap, sym, ◌∙◌, [], ◌∷◌, Option, ℕ}
use Rattle.au_effects.specs.Calls.{shipped}
use Rattle.au_low.specs.Machines.{Next}
use Rattle.au_low.specs.Instructions.{answered, text_bytes}
use Rattle.au_cells.specs.Cells.{low}
use Rattle.au_stores.specs.Stores.{world_of}
use Rattle.au_machine.specs.States.{machine_of}
use Rattle.au_machine.proofs.StateLemmas.{come_to}
use Rattle.au_machine.proofs.CallingLemmas.{typed_two}
use Rattle.au_machine.proofs.states.State.shipped_with_two.Goals as goal

pub returns-in-Some-clause-is : goal.returns-in-Some-clause-is
returns-in-Some-clause-is c =
    let s = c.args.self.now in
    let bytes_of = text_bytes c.args.code.now in
    let w = world_of s.world in
    let go : Option ℕ → Next =
    λ of. answered (shipped bytes_of c.args.call of w (low c.args.a ∷ low c.args.b ∷ [])) (machine_of s) in
    typed_two bytes_of _ w (low c.args.a) (low c.args.b) (machine_of s) c.args.call ∙ ap go (sym c.in-Some.is)

pub returns-in-None-clause-is : goal.returns-in-None-clause-is
returns-in-None-clause-is c =
    let s = c.args.self.now in
    let bytes_of = text_bytes c.args.code.now in
    let w = world_of s.world in
    let go : Option ℕ → Next =
    λ of. answered (shipped bytes_of c.args.call of w (low c.args.a ∷ low c.args.b ∷ [])) (machine_of s) in
    come_to c.call_with_two.result c.call_with_two.new.self _ _ (ap go (sym c.in-None.is))
    c.call_with_two.ensures.is
