use Rattle.au_sound_calls.proofs.BufferLemmas.{copies_elements, ends_buffers, have_lengths, inserts, makes_buffers, removes, replaces}
use Rattle.au_sound_calls.proofs.laws.buffers_go_well.Goals as goal

pub returns-clause-made : goal.returns-clause-made
returns-clause-made g c = λ types owner acts hold names under lying sizes w.
    makes_buffers _ types owner acts hold names under lying sizes w

pub returns-clause-ended : goal.returns-clause-ended
returns-clause-ended g c = λ types owner acts hold names under lying sizes w.
    ends_buffers _ types owner acts hold names under lying sizes w

pub returns-clause-counted : goal.returns-clause-counted
returns-clause-counted g c = λ types owner acts hold names under lying sizes w.
    have_lengths _ types owner acts hold names under lying sizes w

pub returns-clause-inserted : goal.returns-clause-inserted
returns-clause-inserted g c = λ types owner acts hold names under lying sizes w.
    inserts _ types owner acts hold names under lying sizes w

pub returns-clause-removed : goal.returns-clause-removed
returns-clause-removed g c = λ types owner acts hold names under lying sizes w.
    removes _ types owner acts hold names under lying sizes w

pub returns-clause-copied : goal.returns-clause-copied
returns-clause-copied g c = λ types owner acts hold names under lying sizes w.
    copies_elements _ types owner acts hold names under lying sizes w

pub returns-clause-replaced : goal.returns-clause-replaced
returns-clause-replaced g c = λ types owner acts hold names under lying sizes w.
    replaces _ types owner acts hold names under lying sizes w
