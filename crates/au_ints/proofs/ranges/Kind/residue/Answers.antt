-- The remainder differs from the number by a multiple, and is no less than 0.
use Rattle.std.proofs.Common.{arith, ap, ◌∙◌, sym, subst, ◌≡◌, ◌^◌, pos, unsigned_abs, to_z, of_z}
use Rattle.std.proofs.lemmas.Int.{ints}
use Rattle.std.proofs.lemmas.Nat.{pow_pos}
use Rattle.std.specs.Int.{w128, int_rem_euclid}
use Rattle.au_ints.specs.Operations.{IsCongruent}
use Rattle.au_ints.proofs.Congruences.{congruent_residue}
use Rattle.au_ints.proofs.Turns.{power_small}
use Rattle.au_ints.proofs.ranges.Kind.residue.Goals as goal

pub returns-clause-congruent : goal.returns-clause-congruent
returns-clause-congruent g c =
    let m = 2 ^ g.row.BITS in
    let small = power_small g.row.BITS c.requires.most_bits in
    let rest = c.rem_euclid.result in
    let whole : to_z w128 c.power_of_two.result ≡ pos m = omega (arith, ints, small, c.power_of_two.ensures) in
    let number : to_z w128 (of_z w128 c.args.number) ≡ c.args.number = omega (arith, ints) in
    let is : rest ≡ int_rem_euclid c.args.number (pos m) = c.rem_euclid.ensures.value
    ∙ ap (λ z. int_rem_euclid z (to_z w128 c.power_of_two.result)) number
    ∙ ap (int_rem_euclid c.args.number) whole in
    let back : rest ≡ pos (unsigned_abs (to_z w128 (of_z w128 rest))) =
    omega (arith, ints, c.rem_euclid.ensures.lower_bound) in
    subst (IsCongruent m c.args.number) (sym is ∙ back) (congruent_residue m c.args.number (pow_pos g.row.BITS))
