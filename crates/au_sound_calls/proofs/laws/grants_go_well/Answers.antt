use Rattle.au_sound_calls.proofs.GrantLemmas.{acquires_terminals, reads_bytes, releases_terminals, surrenders_roots, writes_bytes}
use Rattle.au_sound_calls.proofs.laws.grants_go_well.Goals as goal

pub returns-clause-surrendered : goal.returns-clause-surrendered
returns-clause-surrendered g c = λ types owner acts hold names under lying sizes w.
    surrenders_roots _ types owner acts hold names under lying sizes w

pub returns-clause-acquired : goal.returns-clause-acquired
returns-clause-acquired g c = λ types owner acts hold names under lying sizes w.
    acquires_terminals _ types owner acts hold names under lying sizes w

pub returns-clause-released : goal.returns-clause-released
returns-clause-released g c = λ types owner acts hold names under lying sizes w.
    releases_terminals _ types owner acts hold names under lying sizes w

pub returns-clause-written : goal.returns-clause-written
returns-clause-written g c = λ types owner acts hold names under lying sizes w.
    writes_bytes _ types owner acts hold names under lying sizes w

pub returns-clause-read : goal.returns-clause-read
returns-clause-read g c = λ types owner acts hold names under lying sizes w.
    reads_bytes _ types owner acts hold names under lying sizes w
