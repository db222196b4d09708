use Rattle.au_acting.proofs.GrantLemmas.{ends_roots, ends_terminals, makes_roots, makes_terminals, uses_roots}
use Rattle.au_acting.proofs.GrantLemmas.{uses_terminals}
use Rattle.au_acting.proofs.laws.grants_come_and_go.Goals as goal

pub returns-clause-terminal : goal.returns-clause-terminal
returns-clause-terminal g c = λ types owner acts hold type under m w.
    makes_terminals _ types owner acts hold type under m w

pub returns-clause-root : goal.returns-clause-root
returns-clause-root g c = λ types owner acts hold type under m w.
    makes_roots _ types owner acts hold type under m w

pub returns-clause-terminal_ended : goal.returns-clause-terminal_ended
returns-clause-terminal_ended g c = λ types owner acts hold type under m w.
    ends_terminals _ types owner acts hold type under m w

pub returns-clause-root_ended : goal.returns-clause-root_ended
returns-clause-root_ended g c = λ types owner acts hold type under m w.
    ends_roots _ types owner acts hold type under m w

pub returns-clause-terminal_used : goal.returns-clause-terminal_used
returns-clause-terminal_used g c = λ types owner acts hold type under m w.
    uses_terminals _ types owner acts hold type under m w

pub returns-clause-root_used : goal.returns-clause-root_used
returns-clause-root_used g c = λ types owner acts hold type under m w.
    uses_roots _ types owner acts hold type under m w
