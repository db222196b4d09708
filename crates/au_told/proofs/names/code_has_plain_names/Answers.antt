use Rattle.au_told.proofs.CodeLemmas.{accepted_plain, read_code_plain}
use Rattle.au_told.proofs.names.code_has_plain_names.Goals as goal

pub returns-clause-read : goal.returns-clause-read
returns-clause-read c = read_code_plain

pub returns-clause-accepted : goal.returns-clause-accepted
returns-clause-accepted c = accepted_plain
