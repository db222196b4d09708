use Rattle.std.proofs.Common.{ap, sym, ◌∙◌, reverse, List, Option}
use Rattle.std.specs.Option.{option_map}
use Rattle.au_cells.specs.Cells.{lows}
use Rattle.au_low.specs.Machines.{Low, Machine, Next, having}
use Rattle.au_machine.specs.States.{machine_of}
use Rattle.std.proofs.Common.{slice_get}
use Rattle.std.proofs.lemmas.Option.{MatchOption-at_some, MatchOption-at_none}
use Rattle.au_low.specs.Machines.{ordered}
use Rattle.au_low.specs.Instructions.{makes}
use Rattle.au_low.specs.declared.code.LowType.{LowType}
use Rattle.au_stores.specs.Stores.{cells_of}
use Rattle.au_machine.proofs.StateLemmas.{come_to}
use Rattle.au_machine.proofs.states.State.make.Goals as goal

pub returns-clause-is : goal.returns-clause-is
returns-clause-is c =
    let s = c.args.self.now in
    let back = reverse s.backs.items in
    let m = machine_of c.pop_all.new.self in
    let made_if : List Low → Option LowType → Next = λ values found. having found
    (λ type. makes c.args.of c.args.tag c.args.home.now values type m) in
    let go : List Low → Machine → Next = λ values m. having (ordered c.args.order.now values)
    (λ values. having (slice_get c.args.code.now.types c.args.of)
    (λ type. makes c.args.of c.args.tag c.args.home.now values type m)) in
    come_to c.make_of.result c.make_of.new.self _ _
    (ap (made_if (lows c.in-Some-2.fields.items)) c.in-Some-type_at.ensures
    ∙ ap (λ (found : Option (List Low)). having found
    (λ values. made_if values (slice_get c.args.code.now.types c.args.of))) (ap (option_map cells_of)
    (sym c.in-Some-2.is) ∙ c.in_ok-fields.ensures)
    ∙ sym (MatchOption-at_some {o = c.in_ok-cells.field-0} _ _ c.in-Some.cells c.in-Some.is
    c.in_ok-cells.ensures.is go))
    c.make_of.ensures.is

pub returns-in_default-clause-is : goal.returns-in_default-clause-is
returns-in_default-clause-is c =
    let s = c.args.self.now in
    let back = reverse s.backs.items in
    let m = machine_of c.pop_all.new.self in
    let made_if : List Low → Option LowType → Next = λ values found. having found
    (λ type. makes c.args.of c.args.tag c.args.home.now values type m) in
    let go : List Low → Machine → Next = λ values m. having (ordered c.args.order.now values)
    (λ values. having (slice_get c.args.code.now.types c.args.of)
    (λ type. makes c.args.of c.args.tag c.args.home.now values type m)) in
    sym (MatchOption-at_none {o = c.in_ok-cells.field-0} _ _ c.in_default.is c.in_ok-cells.ensures.is go)

pub returns-in_default-type_at-clause-is : goal.returns-in_default-type_at-clause-is
returns-in_default-type_at-clause-is c =
    let s = c.args.self.now in
    let back = reverse s.backs.items in
    let m = machine_of c.pop_all.new.self in
    let made_if : List Low → Option LowType → Next = λ values found. having found
    (λ type. makes c.args.of c.args.tag c.args.home.now values type m) in
    let go : List Low → Machine → Next = λ values m. having (ordered c.args.order.now values)
    (λ values. having (slice_get c.args.code.now.types c.args.of)
    (λ type. makes c.args.of c.args.tag c.args.home.now values type m)) in
    ap (made_if (lows c.in-Some-2.fields.items)) c.in_default-type_at.ensures
    ∙ ap (λ (found : Option (List Low)). having found
    (λ values. made_if values (slice_get c.args.code.now.types c.args.of))) (ap (option_map cells_of)
    (sym c.in-Some-2.is) ∙ c.in_ok-fields.ensures)
    ∙ sym (MatchOption-at_some {o = c.in_ok-cells.field-0} _ _ c.in-Some.cells c.in-Some.is
    c.in_ok-cells.ensures.is go)

pub returns-in_default-2-clause-is : goal.returns-in_default-2-clause-is
returns-in_default-2-clause-is c =
    let s = c.args.self.now in
    let back = reverse s.backs.items in
    let m = machine_of c.pop_all.new.self in
    let made_if : List Low → Option LowType → Next = λ values found. having found
    (λ type. makes c.args.of c.args.tag c.args.home.now values type m) in
    let go : List Low → Machine → Next = λ values m. having (ordered c.args.order.now values)
    (λ values. having (slice_get c.args.code.now.types c.args.of)
    (λ type. makes c.args.of c.args.tag c.args.home.now values type m)) in
    ap (λ (found : Option (List Low)). having found
    (λ values. made_if values (slice_get c.args.code.now.types c.args.of))) (ap (option_map cells_of)
    (sym c.in_default-2.is) ∙ c.in_ok-fields.ensures)
    ∙ sym (MatchOption-at_some {o = c.in_ok-cells.field-0} _ _ c.in-Some.cells c.in-Some.is
    c.in_ok-cells.ensures.is go)
