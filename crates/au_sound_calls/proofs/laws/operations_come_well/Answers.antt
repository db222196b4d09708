use Rattle.au_sound_calls.proofs.OperationLemmas.{compares, compares_truths, computes, converts, negates, wraps}
use Rattle.au_sound_calls.proofs.laws.operations_come_well.Goals as goal

pub returns-clause-computed : goal.returns-clause-computed
returns-clause-computed g c = λ types owner acts hold names under lying sizes w.
    computes _ types owner acts hold names under lying sizes w

pub returns-clause-wrapped : goal.returns-clause-wrapped
returns-clause-wrapped g c = λ types owner acts hold names under lying sizes w.
    wraps _ types owner acts hold names under lying sizes w

pub returns-clause-compared : goal.returns-clause-compared
returns-clause-compared g c = λ types owner acts hold names under lying sizes w.
    compares _ types owner acts hold names under lying sizes w

pub returns-clause-truths : goal.returns-clause-truths
returns-clause-truths g c = λ types owner acts hold names under lying sizes w.
    compares_truths _ types owner acts hold names under lying sizes w

pub returns-clause-negated : goal.returns-clause-negated
returns-clause-negated g c = λ types owner acts hold names under lying sizes w.
    negates _ types owner acts hold names under lying sizes w

pub returns-clause-converted : goal.returns-clause-converted
returns-clause-converted g c = λ types owner acts hold names under lying sizes w.
    converts _ types owner acts hold names under lying sizes w
