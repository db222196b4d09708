use Rattle.au_sound_calls.proofs.PrintLemmas.{aborts, prints_numbers, prints_texts, prints_truths, spans_have_lengths}
use Rattle.au_sound_calls.proofs.laws.printing_goes_well.Goals as goal

pub returns-clause-texts : goal.returns-clause-texts
returns-clause-texts g c = λ types owner acts hold names under lying sizes w.
    prints_texts _ types owner acts hold names under lying sizes w

pub returns-clause-truths : goal.returns-clause-truths
returns-clause-truths g c = λ types owner acts hold names under lying sizes w.
    prints_truths _ types owner acts hold names under lying sizes w

pub returns-clause-numbers : goal.returns-clause-numbers
returns-clause-numbers g c = λ types owner acts hold names under lying sizes w.
    prints_numbers _ types owner acts hold names under lying sizes w

pub returns-clause-aborted : goal.returns-clause-aborted
returns-clause-aborted g c = λ types owner acts hold names under lying sizes w.
    aborts _ types owner acts hold names under lying sizes w

pub returns-clause-spans : goal.returns-clause-spans
returns-clause-spans g c = λ types owner acts hold names under lying sizes w.
    spans_have_lengths _ types owner acts hold names under lying sizes w
