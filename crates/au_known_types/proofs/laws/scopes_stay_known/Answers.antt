use Rattle.au_known_types.proofs.ScopeLemmas.{after_known, bound_added}
use Rattle.au_known_types.proofs.laws.scopes_stay_known.Goals as goal

pub returns-clause-behind : goal.returns-clause-behind
returns-clause-behind c = λ s sc scope. after_known s sc scope

pub returns-clause-bound : goal.returns-clause-bound
returns-clause-bound c = λ binds sc scope. bound_added binds sc scope
