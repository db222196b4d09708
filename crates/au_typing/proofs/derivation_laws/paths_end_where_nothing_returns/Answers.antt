use Rattle.au_typing.proofs.PathLemmas.{goes_on, never_ends, reaches_end, stays}
use Rattle.au_typing.proofs.derivation_laws.paths_end_where_nothing_returns.Goals as goal

pub returns-clause-statement : goal.returns-clause-statement
returns-clause-statement c = λ s. (stays s, goes_on s)

pub returns-clause-block : goal.returns-clause-block
returns-clause-block c = λ ss. (never_ends ss, reaches_end ss)
