use Rattle.std.proofs.Common.{◌≡◌, ap, sym, ◌∙◌, rules, to_z, of_z}
use Rattle.std.specs.Int.{w128}
use Rattle.au_ints.specs.Ranges.{is_of_kind}
use Rattle.au_effects.specs.Values.{number}
use Rattle.au_low.specs.Machines.{where_true, pushes}
use Rattle.au_low.specs.Instructions.{act}
use Rattle.au_low.specs.declared.instructions.Instr.TheVariants as instr
use Rattle.au_machine.specs.States.{machine_of}
use Rattle.au_machine.proofs.StateLemmas.{came_of, came_from, came_to}
use Rattle.au_runs.proofs.steps.act.Goals as goal

pub returns-in-Push-clause-is : goal.returns-in-Push-clause-is
unfolding act
returns-in-Push-clause-is c =
    let m = machine_of c.args.state.now in
    let kind = c.in-Push.kind in
    let same : to_z w128 (of_z w128 c.in-Push.value) ≡ c.in-Push.value = search rules in
    came_from c.push_number.result c.push_number.new.self _ _
    (ap (λ z. where_true (is_of_kind kind z) (pushes (number kind z) m)) same
    ∙ ap (λ one. act c.args.code.now one m) (sym c.in-Push.is))
    c.push_number.ensures.is

pub returns-in-PushBool-clause-is : goal.returns-in-PushBool-clause-is
unfolding act
returns-in-PushBool-clause-is c =
    let m = machine_of c.args.state.now in
    came_from c.push_truth.result c.push_truth.new.self _ _
    (ap (λ one. act c.args.code.now one m) (sym c.in-PushBool.is))
    c.push_truth.ensures.is

pub returns-in-PushUnit-clause-is : goal.returns-in-PushUnit-clause-is
unfolding act
returns-in-PushUnit-clause-is c =
    let m = machine_of c.args.state.now in
    came_from c.push_unit.result c.push_unit.new.self _ _
    (ap (λ one. act c.args.code.now one m) (sym c.in-PushUnit.is))
    c.push_unit.ensures.is

pub returns-in-PushText-clause-is : goal.returns-in-PushText-clause-is
unfolding act
returns-in-PushText-clause-is c =
    let m = machine_of c.args.state.now in
    came_from c.push_text.result c.push_text.new.self _ _
    (ap (λ one. act c.args.code.now one m) (sym c.in-PushText.is))
    c.push_text.ensures.is

pub returns-in-Look-clause-is : goal.returns-in-Look-clause-is
unfolding act
returns-in-Look-clause-is c =
    let m = machine_of c.args.state.now in
    came_from c.look.result c.look.new.self _ _
    (ap (λ one. act c.args.code.now one m) (ap (λ path. instr.Look c.in-Look.slot path) c.as_slice.ensures
    ∙ sym c.in-Look.is))
    c.look.ensures.is

pub returns-in-Move-clause-is : goal.returns-in-Move-clause-is
unfolding act
returns-in-Move-clause-is c =
    let m = machine_of c.args.state.now in
    came_from c.take.result c.take.new.self _ _
    (ap (λ one. act c.args.code.now one m) (sym c.in-Move.is))
    c.take.ensures.is

pub returns-in-Store-clause-is : goal.returns-in-Store-clause-is
unfolding act
returns-in-Store-clause-is c =
    let m = machine_of c.args.state.now in
    came_of c.store_top.result c.store_top.new.self _
    (c.store_top.ensures.is ∙ (ap (λ one. act c.args.code.now one m) (sym c.in-Store.is)))

pub returns-in-Set-clause-is : goal.returns-in-Set-clause-is
unfolding act
returns-in-Set-clause-is c =
    let m = machine_of c.args.state.now in
    came_of c.put_top.result c.put_top.new.self _
    (c.put_top.ensures.is ∙ (ap (λ one. act c.args.code.now one m)
    (ap (λ path. instr.Set c.in-Set.slot path) c.as_slice-in-Set.ensures
    ∙ sym c.in-Set.is)))

pub returns-in-Discard-clause-is : goal.returns-in-Discard-clause-is
unfolding act
returns-in-Discard-clause-is c =
    let m = machine_of c.args.state.now in
    came_of c.discard.result c.discard.new.self _
    (c.discard.ensures.is ∙ (ap (λ one. act c.args.code.now one m) (sym c.in-Discard.is)))

pub returns-in-Arith-clause-is : goal.returns-in-Arith-clause-is
unfolding act
returns-in-Arith-clause-is c =
    let m = machine_of c.args.state.now in
    came_from c.arith.result c.arith.new.self _ _
    (ap (λ one. act c.args.code.now one m) (sym c.in-Arith.is))
    c.arith.ensures.is

pub returns-in-Wrap-clause-is : goal.returns-in-Wrap-clause-is
unfolding act
returns-in-Wrap-clause-is c =
    let m = machine_of c.args.state.now in
    came_from c.wrap.result c.wrap.new.state _ _
    (ap (λ one. act c.args.code.now one m)
    (ap (λ path. instr.Wrap c.in-Wrap.op c.in-Wrap.kind path) c.as_slice-in-Wrap.ensures
    ∙ sym c.in-Wrap.is))
    c.wrap.ensures.is

pub returns-in-Compare-clause-is : goal.returns-in-Compare-clause-is
unfolding act
returns-in-Compare-clause-is c =
    let m = machine_of c.args.state.now in
    came_from c.compare.result c.compare.new.self _ _
    (ap (λ one. act c.args.code.now one m) (sym c.in-Compare.is))
    c.compare.ensures.is

pub returns-in-Not-clause-is : goal.returns-in-Not-clause-is
unfolding act
returns-in-Not-clause-is c =
    let m = machine_of c.args.state.now in
    came_from c.negate.result c.negate.new.self _ _
    (ap (λ one. act c.args.code.now one m) (sym c.in-Not.is))
    c.negate.ensures.is

pub returns-in-Convert-clause-is : goal.returns-in-Convert-clause-is
unfolding act
returns-in-Convert-clause-is c =
    let m = machine_of c.args.state.now in
    came_from c.convert.result c.convert.new.self _ _
    (ap (λ one. act c.args.code.now one m) (sym c.in-Convert.is))
    c.convert.ensures.is

pub returns-in-Jump-clause-is : goal.returns-in-Jump-clause-is
unfolding act
returns-in-Jump-clause-is c =
    let m = machine_of c.args.state.now in
    came_of c.jump.result c.jump.new.self _
    (c.jump.ensures.is ∙ (ap (λ one. act c.args.code.now one m) (sym c.in-Jump.is)))

pub returns-in-JumpNot-clause-is : goal.returns-in-JumpNot-clause-is
unfolding act
returns-in-JumpNot-clause-is c =
    let m = machine_of c.args.state.now in
    came_of c.jump_not.result c.jump_not.new.self _
    (c.jump_not.ensures.is ∙ (ap (λ one. act c.args.code.now one m) (sym c.in-JumpNot.is)))

pub returns-in-ForTest-clause-is : goal.returns-in-ForTest-clause-is
unfolding act
returns-in-ForTest-clause-is c =
    let m = machine_of c.args.state.now in
    came_of c.for_test.result c.for_test.new.state _
    (c.for_test.ensures.is ∙ (ap (λ one. act c.args.code.now one m) (sym c.in-ForTest.is)))

pub returns-in-ForStep-clause-is : goal.returns-in-ForStep-clause-is
unfolding act
returns-in-ForStep-clause-is c =
    let m = machine_of c.args.state.now in
    came_of c.for_step.result c.for_step.new.state _
    (c.for_step.ensures.is ∙ (ap (λ one. act c.args.code.now one m) (sym c.in-ForStep.is)))

pub returns-in-Make-clause-is : goal.returns-in-Make-clause-is
unfolding act
returns-in-Make-clause-is c =
    let m = machine_of c.args.state.now in
    came_from c.make.result c.make.new.self _ _
    (ap (λ one. act c.args.code.now one m)
    (ap (λ path. instr.Make c.in-Make.of c.in-Make.tag path c.in-Make.module) c.as_slice-in-Make.ensures
    ∙ sym c.in-Make.is))
    c.make.ensures.is

pub returns-in-Take-clause-is : goal.returns-in-Take-clause-is
unfolding act
returns-in-Take-clause-is c =
    let m = machine_of c.args.state.now in
    came_from c.take_record.result c.take_record.new.self _ _
    (ap (λ one. act c.args.code.now one m) (sym c.in-Take.is))
    c.take_record.ensures.is

pub returns-in-Case-clause-is : goal.returns-in-Case-clause-is
unfolding act
returns-in-Case-clause-is c =
    let m = machine_of c.args.state.now in
    came_from c.take_case.result c.take_case.new.self _ _
    (ap (λ one. act c.args.code.now one m) (ap (λ path. instr.Case c.in-Case.slot path) c.as_slice-in-Case.ensures
    ∙ sym c.in-Case.is))
    c.take_case.ensures.is

pub returns-in-Call-clause-is : goal.returns-in-Call-clause-is
unfolding act
returns-in-Call-clause-is c =
    let m = machine_of c.args.state.now in
    came_from c.call.result c.call.new.state _ _
    (ap (λ one. act c.args.code.now one m) (ap (λ path. instr.Call c.in-Call.function path) c.as_slice-in-Call.ensures
    ∙ sym c.in-Call.is))
    c.call.ensures.is

pub returns-in-Shipped-clause-is : goal.returns-in-Shipped-clause-is
unfolding act
returns-in-Shipped-clause-is c =
    let m = machine_of c.args.state.now in
    came_from c.ship.result c.ship.new.state _ _
    (ap (λ one. act c.args.code.now one m)
    (ap (λ path. instr.Shipped c.in-Shipped.call c.in-Shipped.of path) c.as_slice-in-Shipped.ensures
    ∙ sym c.in-Shipped.is))
    c.ship.ensures.is

pub returns-in-Return-clause-is : goal.returns-in-Return-clause-is
unfolding act
returns-in-Return-clause-is c =
    let m = machine_of c.args.state.now in
    came_to c.return_top.result c.return_top.new.self _ _
    (ap (λ one. act c.args.code.now one m) (sym c.in-Return.is))
    c.return_top.ensures.is

pub returns-in-Read-clause-is : goal.returns-in-Read-clause-is
unfolding act
returns-in-Read-clause-is c =
    let m = machine_of c.args.state.now in
    came_from c.read.result c.read.new.self _ _
    (ap (λ one. act c.args.code.now one m) (ap (λ path. instr.Read c.in-Read.slot path) c.as_slice-in-Read.ensures
    ∙ sym c.in-Read.is))
    c.read.ensures.is

pub returns-in-Put-clause-is : goal.returns-in-Put-clause-is
unfolding act
returns-in-Put-clause-is c =
    let m = machine_of c.args.state.now in
    came_from c.put_through.result c.put_through.new.self _ _
    (ap (λ one. act c.args.code.now one m) (ap (λ path. instr.Put c.in-Put.slot path) c.as_slice-in-Put.ensures
    ∙ sym c.in-Put.is))
    c.put_through.ensures.is

pub returns-in-Deref-clause-is : goal.returns-in-Deref-clause-is
unfolding act
returns-in-Deref-clause-is c =
    let m = machine_of c.args.state.now in
    came_from c.deref.result c.deref.new.self _ _
    (ap (λ one. act c.args.code.now one m) (sym c.in-Deref.is))
    c.deref.ensures.is

pub returns-in-Open-clause-is : goal.returns-in-Open-clause-is
unfolding act
returns-in-Open-clause-is c =
    let m = machine_of c.args.state.now in
    came_from c.borrow_slot.result c.borrow_slot.new.self _ _
    (ap (λ one. act c.args.code.now one m) (sym c.in-Open.is))
    c.borrow_slot.ensures.is

pub returns-in-Again-clause-is : goal.returns-in-Again-clause-is
unfolding act
returns-in-Again-clause-is c =
    let m = machine_of c.args.state.now in
    came_from c.borrow.result c.borrow.new.self _ _
    (ap (λ one. act c.args.code.now one m) (sym c.in-Again.is))
    c.borrow.ensures.is

pub returns-in-Part-clause-is : goal.returns-in-Part-clause-is
unfolding act
returns-in-Part-clause-is c =
    let m = machine_of c.args.state.now in
    came_from c.part_of.result c.part_of.new.self _ _
    (ap (λ one. act c.args.code.now one m) (ap (λ path. instr.Part c.in-Part.slot path) c.as_slice-in-Part.ensures
    ∙ sym c.in-Part.is))
    c.part_of.ensures.is

pub returns-in-Bind-clause-is : goal.returns-in-Bind-clause-is
unfolding act
returns-in-Bind-clause-is c =
    let m = machine_of c.args.state.now in
    came_from c.bind.result c.bind.new.self _ _
    (ap (λ one. act c.args.code.now one m) (sym c.in-Bind.is))
    c.bind.ensures.is

pub returns-in-Close-clause-is : goal.returns-in-Close-clause-is
unfolding act
returns-in-Close-clause-is c =
    let m = machine_of c.args.state.now in
    came_from c.close.result c.close.new.self _ _
    (ap (λ one. act c.args.code.now one m) (sym c.in-Close.is))
    c.close.ensures.is
