-- A residue above the greatest number stands for the one a whole size below.
use Rattle.std.proofs.Common.{arith, subst, ◌≡◌, ◌^◌, pos, ◌-ℤ◌, to_z, of_z}
use Rattle.std.proofs.lemmas.Int.{ints}
use Rattle.std.specs.Int.{w128}
use Rattle.au_ints.specs.Operations.{IsTurned}
use Rattle.au_ints.proofs.Turns.{turned_low, turned_high, power_small}
use Rattle.au_ints.proofs.ranges.Kind.from_residue.Goals as goal

pub returns-then-number-most : goal.returns-then-number-most
returns-then-number-most g c =
    let n = c.args.residue in
    let small = power_small g.row.BITS c.requires.shape.most_bits in
    let same : pos n ≡ to_z w128 n = omega (arith, ints, small) in
    subst (IsTurned g.row.BITS g.row.SIGN (pos n)) same
    (turned_low g.row.BITS g.row.SIGN n c.requires.shape (omega (arith, ints)))

pub returns-else-number-most : goal.returns-else-number-most
returns-else-number-most g c =
    let n = c.args.residue in
    let small = power_small g.row.BITS c.requires.shape.most_bits in
    let same : pos n -ℤ pos (2 ^ g.row.BITS)
    ≡ to_z w128 (of_z w128 (to_z w128 n -ℤ to_z w128 c.power_of_two.result)) = omega (arith, ints, small) in
    subst (IsTurned g.row.BITS g.row.SIGN (pos n)) same
    (turned_high g.row.BITS g.row.SIGN n c.requires.shape c.requires.small (omega (arith, ints)))
