use Rattle.std.proofs.Common.{List, [], ◌∷◌, Option, sym, ap, ◌∙◌}
use Rattle.std.proofs.lemmas.Bool.{eqb-true}
use Rattle.au_low.specs.Machines.{Low, having, ordered_if}
use Rattle.au_cells.specs.Cells.{low}
use Rattle.au_machine.specs.States.{machine_of}
use Rattle.au_runs.proofs.ArgumentLemmas.{no_order, not_empty, reordered}
use Rattle.au_runs.proofs.arguing.pop_three.Goals as goal

pub returns-in_default-clause-is : goal.returns-in_default-clause-is
returns-in_default-clause-is c = λ go.
    c.in_default.ensures.is (λ values m. having (ordered_if c.args.order.now values) (λ v. go v m))

pub returns-then-is_empty-clause-is : goal.returns-then-is_empty-clause-is
returns-then-is_empty-clause-is c = λ go.
    let m = machine_of c.popped_three.new.state in
    let nothing = eqb-true _ 0 (sym c.is_empty.ensures ∙ c.if-is_empty.true) in
    c.in-Some.ensures.is (λ values m. having (ordered_if c.args.order.now values) (λ v. go v m))
    ∙ ap (λ (found : Option (List Low)). having found (λ v. go v m)) (no_order c.args.order.now _ nothing)

pub returns-clause-is : goal.returns-clause-is
returns-clause-is c =
    let some = not_empty c.args.order.now (sym c.is_empty.ensures ∙ c.if-is_empty.false) in
    reordered c.in_ok-found.found (λ p. low p.0 ∷ low p.1 ∷ low p.2 ∷ []) c.args.order.now
    (low c.in-Some.a ∷ low c.in-Some.b ∷ low c.in-Some.c ∷ []) 3
    (machine_of c.args.state.now) (machine_of c.popped_three.new.state) some
    c.in-Some.ensures.is c.in_ok-found.ensures
