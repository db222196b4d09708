use Rattle.au_typing.proofs.ProgramLemmas.{not_refused, program_found}
use Rattle.au_typing.proofs.derivation_laws.derivations_are_found.Goals as goal

pub returns-clause-found : goal.returns-clause-found
returns-clause-found c = λ outside program noted g. program_found outside program noted g

pub returns-clause-refused : goal.returns-clause-refused
returns-clause-refused c = λ outside program noted fault e g. not_refused outside program noted fault e g
