use Rattle.std.proofs.Common.{List, [], ◌∷◌, sym, ◌∙◌}
use Rattle.std.proofs.lemmas.Option.{MatchOption-at_some, MatchOption-at_none}
use Rattle.au_effects.specs.Calls.{shipped}
use Rattle.au_low.specs.Machines.{Low, LowWorld, Machine, Next}
use Rattle.au_low.specs.Instructions.{answered, text_bytes}
use Rattle.au_cells.specs.Cells.{low}
use Rattle.au_machine.specs.States.{machine_of}
use Rattle.au_machine.proofs.StateLemmas.{come_to}
use Rattle.au_runs.proofs.FrameLemmas.{in_its_world}
use Rattle.au_runs.proofs.shipping.with_three.Goals as goal

pub returns-in-Some-clause-is : goal.returns-in-Some-clause-is
returns-in-Some-clause-is c =
    let one : LowWorld → List Low → Machine → Next =
    λ world values m. answered (shipped (text_bytes c.args.code.now) c.args.call c.args.of world values) m in
    let go : List Low → Machine → Next = λ values m. one m.world values m in
    let left = c.pop_three.new.state in
    come_to c.shipped_with_three.result c.shipped_with_three.new.self _ _
    (in_its_world left (λ world. one world (low c.in-Some.a ∷ low c.in-Some.b ∷ low c.in-Some.c ∷ []) (machine_of left))
    ∙ sym (MatchOption-at_some {o = c.in_ok-a.field-0} _ _ _ c.in-Some.is c.in_ok-a.ensures.is go))
    c.shipped_with_three.ensures.is

pub returns-in-None-clause-is : goal.returns-in-None-clause-is
returns-in-None-clause-is c =
    let one : LowWorld → List Low → Machine → Next =
    λ world values m. answered (shipped (text_bytes c.args.code.now) c.args.call c.args.of world values) m in
    let go : List Low → Machine → Next = λ values m. one m.world values m in
    sym (MatchOption-at_none {o = c.in_ok-a.field-0} _ _ c.in-None.is c.in_ok-a.ensures.is go)
