use Rattle.std.proofs.Common.{Option, Some, ap, sym, ◌∙◌}
use Rattle.std.proofs.lemmas.Bool.{eqb-true}
use Rattle.au_effects.specs.Calls.{make_empty}
use Rattle.au_low.specs.Instructions.{answered, text_bytes}
use Rattle.au_machine.specs.States.{machine_of}
use Rattle.au_machine.proofs.StateLemmas.{come_to}
use Rattle.au_runs.proofs.FrameLemmas.{in_its_world}
use Rattle.au_runs.proofs.ShipLemmas.{with_nothing}
use Rattle.au_runs.proofs.shipping.with_none.Goals as goal

pub returns-in-Some-clause-is : goal.returns-in-Some-clause-is
returns-in-Some-clause-is c =
    let s = c.args.state.now in
    let m = machine_of s in
    let nothing = eqb-true _ 0 (sym c.is_empty.ensures ∙ c.if-not-is_empty.false) in
    come_to c.make_empty.result c.make_empty.new.self _ _
    (in_its_world s (λ world. answered (make_empty (Some c.in-Some.of) world) m)
    ∙ ap (λ (of : Option _). answered (make_empty of m.world) m) (sym c.in-Some.is)
    ∙ with_nothing (text_bytes c.args.code.now) c.args.call c.args.of c.args.order.now m c.requires.arity nothing)
    c.make_empty.ensures.is

pub returns-in-None-clause-is : goal.returns-in-None-clause-is
returns-in-None-clause-is c =
    let m = machine_of c.args.state.now in
    let nothing = eqb-true _ 0 (sym c.is_empty.ensures ∙ c.if-not-is_empty.false) in
    ap (λ (of : Option _). answered (make_empty of m.world) m) (sym c.in-None.is)
    ∙ with_nothing (text_bytes c.args.code.now) c.args.call c.args.of c.args.order.now m c.requires.arity nothing
