use Rattle.au_type_texts.proofs.GivenLemmas.{given_is, given_self}
use Rattle.au_type_texts.proofs.given_laws.given_is_told.Goals as goal

pub returns-clause-agrees : goal.returns-clause-agrees
returns-clause-agrees c = given_is

pub returns-clause-itself : goal.returns-clause-itself
returns-clause-itself c = given_self
