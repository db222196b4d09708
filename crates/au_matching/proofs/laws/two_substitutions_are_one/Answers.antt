use Rattle.au_matching.proofs.ComposedLemmas.{in_order-composed, twice}
use Rattle.au_matching.proofs.laws.two_substitutions_are_one.Goals as goal

pub returns-clause-once : goal.returns-clause-once
returns-clause-once c = λ first second t h. twice first second t h

pub returns-clause-ordered : goal.returns-clause-ordered
returns-clause-ordered c = λ first second h. in_order-composed first second h
