use Rattle.std.proofs.Common.{arith, sym}
use Rattle.au_modules.proofs.LimitLemmas as lemmas
use Rattle.au_modules.proofs.limits.over.Goals as goal

pub returns-then-most-number : goal.returns-then-most-number
returns-then-most-number c =
    sym (lemmas.over_yes c.args.kind c.args.most c.args.number (omega arith))

pub returns-else-most-number : goal.returns-else-most-number
returns-else-most-number c =
    sym (lemmas.over_no c.args.kind c.args.most c.args.number (omega arith))
