-- A result that no `i128` holds isn't in the range.
use Rattle.std.proofs.Common.{rules, arith, ap, ◌∙◌, sym, subst, ◌≡◌, ◌≢◌, pos, ◌+ℤ◌, ◌-ℤ◌, ◌*ℤ◌, int_div}
use Rattle.std.proofs.Common.{to_z, of_z, to_z-of_z, FitsSigned}
use Rattle.std.proofs.lemmas.Int.{ints, quot_is}
use Rattle.std.specs.Int.{w128}
use Rattle.au_ints.specs.Operations.{exact, HasResult}
use Rattle.au_ints.proofs.Traps.{trapped_by, trapped_wide}
use Rattle.au_ints.proofs.ranges.Kind.trap.Goals as goal

pub returns-in_err-checked_mul-in-Multiply : goal.returns-in_err-checked_mul-in-Multiply
returns-in_err-checked_mul-in-Multiply g c =
    let back : to_z w128 (of_z w128 c.args.a) *ℤ to_z w128 (of_z w128 c.args.b) ≡ exact c.args.op c.args.a
    c.args.b = grind (arith, to_z-of_z) in
    trapped_wide c.args.op g.row.BITS g.row.SIGN c.args.a c.args.b
    (to_z w128 (of_z w128 c.args.a) *ℤ to_z w128 (of_z w128 c.args.b)) c.from_residual.result
    c.requires.shape back (c.in_err-checked_mul-in-Multiply.ensures {u = tt}) c.from_residual.ensures

pub returns-in-Add : goal.returns-in-Add
returns-in-Add g c =
    let fits : FitsSigned w128 (c.args.a +ℤ c.args.b) = search rules in
    trapped_by c.args.op g.row.BITS g.row.SIGN c.args.a c.args.b _ c.convert.result
    (subst (λ o. HasResult o c.args.b) (sym c.in-Add.is) tt) (grind (arith, to_z-of_z)) c.convert.ensures

pub returns-in-Subtract : goal.returns-in-Subtract
returns-in-Subtract g c =
    let fits : FitsSigned w128 (c.args.a -ℤ c.args.b) = search rules in
    trapped_by c.args.op g.row.BITS g.row.SIGN c.args.a c.args.b _ c.convert-in-Subtract.result
    (subst (λ o. HasResult o c.args.b) (sym c.in-Subtract.is) tt) (grind (arith, to_z-of_z))
    c.convert-in-Subtract.ensures

pub returns-in-Divide-2 : goal.returns-in-Divide-2
returns-in-Divide-2 g c =
    let a = c.args.a in
    let b = c.args.b in
    let fits : FitsSigned w128 (int_div a b) = search rules in
    let some : b ≢ pos 0 = λ e. omega (arith, ints, e) in
    trapped_by c.args.op g.row.BITS g.row.SIGN c.args.a c.args.b _ c.convert-in-Divide-2.result
    (subst (λ o. HasResult o b) (sym c.in-Divide-2.is) some)
    (quot_is w128 a b c.ranges.a c.ranges.b fits ∙ ap (λ o. exact o a b) (sym c.in-Divide-2.is))
    c.convert-in-Divide-2.ensures
