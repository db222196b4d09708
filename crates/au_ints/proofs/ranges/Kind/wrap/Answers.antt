-- The residues make a result that differs by a multiple, and that is turned into the range.
use Rattle.std.proofs.Common.{rules, ◌^◌, sym, subst, pos, to_z-of_z, FitsSigned}
use Rattle.std.specs.Int.{w128}
use Rattle.au_ints.specs.Operations.{exact, unwrapped, IsCongruent, IsTurned}
use Rattle.au_ints.proofs.Congruences.{congruent_exact, congruent_then}
use Rattle.au_ints.proofs.Turns.{turned_then}
use Rattle.au_ints.proofs.ranges.Kind.wrap.Goals as goal

pub returns : goal.returns
returns g c =
    let m = 2 ^ g.row.BITS in
    let op = unwrapped c.args.op in
    let a = c.args.a in
    let b = c.args.b in
    let first = pos c.residue.result in
    let second = pos c.residue-2.result in
    let fits : FitsSigned w128 c.from_residue.result = search rules in
    let start : IsCongruent m (exact op a b) (exact op first second) = congruent_exact c.args.op m a b first second
    (subst (λ z. IsCongruent m z first) (to_z-of_z c.ranges.a) c.residue.ensures.congruent)
    (subst (λ z. IsCongruent m z second) (to_z-of_z c.ranges.b) c.residue-2.ensures.congruent) in
    let whole : IsCongruent m (exact op a b) (pos c.combine.result) =
    congruent_then m (exact op a b) (exact op first second) (pos c.combine.result) start
    c.combine.ensures.congruent in
    subst (IsTurned g.row.BITS g.row.SIGN (exact op a b)) (sym (to_z-of_z fits))
    (turned_then g.row.BITS g.row.SIGN (exact op a b) (pos c.combine.result) c.from_residue.result whole
    c.from_residue.ensures)
