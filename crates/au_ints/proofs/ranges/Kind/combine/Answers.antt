-- What is left of a sum, a difference or a product depends on what is left of its parts.
use Rattle.std.proofs.Common.{arith, sym, subst, ◌≤◌, ◌+◌, ◌-◌, ◌*◌, ◌%◌, ◌^◌, pos}
use Rattle.au_ints.specs.Operations.{exact, unwrapped, IsCongruent}
use Rattle.au_ints.proofs.Congruences.{congruent_added, congruent_subtracted, congruent_multiplied}
use Rattle.au_ints.proofs.Turns.{product_small}
use Rattle.au_ints.proofs.ranges.Kind.combine.Goals as goal

pub overflow_mul-result : goal.overflow_mul-result
overflow_mul-result g c = omega (
  arith,
  product_small g.row.BITS c.args.first c.args.second c.requires.shape.most_bits c.requires.first
      c.requires.second,
)

pub returns-in-Add-clause-congruent : goal.returns-in-Add-clause-congruent
returns-in-Add-clause-congruent g c =
    let m = 2 ^ g.row.BITS in
    let x = c.args.first in
    let y = c.args.second in
    subst (λ n. IsCongruent m (exact (unwrapped c.args.op) (pos x) (pos y)) (pos ((x + y) % n)))
    (sym c.power_of_two-size.ensures) (congruent_added c.args.op m x y c.in-Add.is)

pub returns-in-Subtract-clause-congruent : goal.returns-in-Subtract-clause-congruent
returns-in-Subtract-clause-congruent g c =
    let m = 2 ^ g.row.BITS in
    let x = c.args.first in
    let y = c.args.second in
    let within : y ≤ m = omega arith in
    subst (λ n. IsCongruent m (exact (unwrapped c.args.op) (pos x) (pos y)) (pos ((x + (n - y)) % n)))
    (sym c.power_of_two-size.ensures) (congruent_subtracted c.args.op m x y c.in-Subtract.is within)

pub returns-in-Multiply-clause-congruent : goal.returns-in-Multiply-clause-congruent
returns-in-Multiply-clause-congruent g c =
    let m = 2 ^ g.row.BITS in
    let x = c.args.first in
    let y = c.args.second in
    subst (λ n. IsCongruent m (exact (unwrapped c.args.op) (pos x) (pos y)) (pos (x * y % n)))
    (sym c.power_of_two-size.ensures) (congruent_multiplied c.args.op m x y c.in-Multiply.is)
