use Rattle.au_typing.proofs.ProgramLemmas.{program_sound}
use Rattle.au_typing.proofs.derivation_laws.what_is_found_derives.Goals as goal

pub returns : goal.returns
returns c outside program noted h = program_sound outside program noted h
