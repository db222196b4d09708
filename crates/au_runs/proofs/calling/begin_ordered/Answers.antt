use Rattle.std.proofs.Common.{List, Option, ap, sym, ◌∙◌}
use Rattle.std.specs.Option.{option_map}
use Rattle.std.proofs.lemmas.Option.{MatchOption-at_some, MatchOption-at_none}
use Rattle.au_low.specs.Machines.{Low, Machine, Next, having, ordered, begins}
use Rattle.au_machine.specs.States.{machine_of}
use Rattle.au_machine.proofs.StateLemmas.{come_to}
use Rattle.au_runs.specs.Orders.{backwards_of}
use Rattle.au_runs.proofs.calling.begin_ordered.Goals as goal

pub returns-in_default-clause-is : goal.returns-in_default-clause-is
returns-in_default-clause-is c =
    let callee = c.args.function.now in
    let begun : Machine → List Low → Next = λ m values. begins c.args.number callee values m in
    let go : List Low → Machine → Next = λ values m. having (ordered c.args.order.now values) (begun m) in
    sym (MatchOption-at_none {o = c.in_ok-values.field-0} _ _ c.in_default.is c.in_ok-values.ensures.is go)

pub returns-in_default-2-clause-is : goal.returns-in_default-2-clause-is
returns-in_default-2-clause-is c =
    let callee = c.args.function.now in
    let begun : Machine → List Low → Next = λ m values. begins c.args.number callee values m in
    let go : List Low → Machine → Next = λ values m. having (ordered c.args.order.now values) (begun m) in
    ap (λ (found : Option (List Low)). having found (begun (machine_of c.pop_all.new.self)))
    (ap (option_map backwards_of) (sym c.in_default-2.is) ∙ c.in_ok-arguments.ensures)
    ∙ sym (MatchOption-at_some {o = c.in_ok-values.field-0} _ _ c.in-Some.values c.in-Some.is
    c.in_ok-values.ensures.is go)

pub returns-clause-is : goal.returns-clause-is
returns-clause-is c =
    let callee = c.args.function.now in
    let begun : Machine → List Low → Next = λ m values. begins c.args.number callee values m in
    let go : List Low → Machine → Next = λ values m. having (ordered c.args.order.now values) (begun m) in
    come_to c.begin.result c.begin.new.state _ _
    (ap (λ (found : Option (List Low)). having found (begun (machine_of c.pop_all.new.self)))
    (ap (option_map backwards_of) (sym c.in-Some-2.is) ∙ c.in_ok-arguments.ensures)
    ∙ sym (MatchOption-at_some {o = c.in_ok-values.field-0} _ _ c.in-Some.values c.in-Some.is
    c.in_ok-values.ensures.is go))
    c.begin.ensures.is
