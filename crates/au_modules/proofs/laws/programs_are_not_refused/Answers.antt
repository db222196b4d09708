use Rattle.au_modules.proofs.ProgramLemmas as lemmas
use Rattle.au_modules.proofs.laws.programs_are_not_refused.Goals as goal

pub returns : goal.returns
returns c files = (lemmas.program_from files, lemmas.program_accepted files)
