use Rattle.std.proofs.Common.{sym}
use Rattle.au_memory.proofs.UsableLemmas.{usable, whole_apart}
use Rattle.au_memory.proofs.laws.held_loans_are_usable.Goals as goal

pub returns-clause-usable : goal.returns-clause-usable
returns-clause-usable c = λ types clock scope act hold type under s m core g l is.
    usable types clock scope act hold type under s m core g l is.row is.writes is.held is.scoped

pub returns-clause-apart : goal.returns-clause-apart
returns-clause-apart c = λ types clock scope act hold type under s m core g h l n differ one other.
    let first = usable types clock scope act hold type under s m core g l one.row one.writes one.held one.scoped in
    let second = usable types clock scope act hold type under s m core h n other.row other.writes other.held
    other.scoped in
    whole_apart types clock scope act hold type under s m core g h l.to n.to first.tree second.tree
    (λ e. differ (sym e)) first.here second.here
