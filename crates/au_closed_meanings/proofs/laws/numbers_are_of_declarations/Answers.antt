use Rattle.au_closed_meanings.proofs.NumberLemmas.{bodies_stand, first_names_apart, numbers_apart}
use Rattle.au_closed_meanings.proofs.laws.numbers_are_of_declarations.Goals as goal

pub returns-clause-stand : goal.returns-clause-stand
returns-clause-stand c = bodies_stand

pub returns-clause-apart : goal.returns-clause-apart
returns-clause-apart c = numbers_apart

pub returns-clause-first : goal.returns-clause-first
returns-clause-first c = first_names_apart
