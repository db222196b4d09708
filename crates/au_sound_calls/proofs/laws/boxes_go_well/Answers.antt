use Rattle.au_sound_calls.proofs.BoxLemmas.{gets_contents, lends_contents, makes_boxes, swaps, unboxes}
use Rattle.au_sound_calls.proofs.laws.boxes_go_well.Goals as goal

pub returns-clause-swapped : goal.returns-clause-swapped
returns-clause-swapped g c = λ types owner acts hold names under lying sizes w.
    swaps _ types owner acts hold names under lying sizes w

pub returns-clause-made : goal.returns-clause-made
returns-clause-made g c = λ types owner acts hold names under lying sizes w.
    makes_boxes _ types owner acts hold names under lying sizes w

pub returns-clause-opened : goal.returns-clause-opened
returns-clause-opened g c = λ types owner acts hold names under lying sizes w.
    unboxes _ types owner acts hold names under lying sizes w

pub returns-clause-got : goal.returns-clause-got
returns-clause-got g c = λ types owner acts hold names under lying sizes w.
    gets_contents _ types owner acts hold names under lying sizes w

pub returns-clause-lent : goal.returns-clause-lent
returns-clause-lent g c = λ types owner acts hold names under lying sizes w.
    lends_contents _ types owner acts hold names under lying sizes w
