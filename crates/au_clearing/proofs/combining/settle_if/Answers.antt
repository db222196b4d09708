use Rattle.au_clearing.specs.Tables.{find}
use Rattle.au_clearing.proofs.CombiningLemmas.{still_settled}
use Rattle.au_clearing.proofs.combining.settle_if.Goals as goal

pub returns-then-is_still : goal.returns-then-is_still
returns-then-is_still c = λ x.
    still_settled c.args.way c.args.rest c.args.one.now (c.is_still.ensures c.if-is_still.true) x
    (find x c.args.other)
