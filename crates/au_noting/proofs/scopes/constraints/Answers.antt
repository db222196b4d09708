use Rattle.std.proofs.Common.{◌≡◌, arith, slice_get, Some, subst}
use Rattle.std.proofs.lemmas.List.{append_assoc}
use Rattle.au_judged_types.specs.Bounds.{parameters}
use Rattle.au_noting.proofs.WalkLemmas.{constraints_at}
use Rattle.au_noting.proofs.scopes.constraints.Goals as goal

pub loop-index-preserved : goal.loop-index-preserved
loop-index-preserved c =
    let g = c.args.generics.now in
    let at : slice_get (parameters g) c.loop-index.index ≡ Some c.at.result.now =
    subst (λ ps. slice_get ps c.loop-index.index ≡ Some c.at.result.now) c.params.ensures c.at.ensures in
    grind (arith, append_assoc, constraints_at g g c.loop-index.index c.at.result.now at)
