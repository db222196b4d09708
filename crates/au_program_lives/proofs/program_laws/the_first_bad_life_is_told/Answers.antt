use Rattle.au_program_lives.proofs.GoodLemmas.{first_told}
use Rattle.au_program_lives.proofs.program_laws.the_first_bad_life_is_told.Goals as goal

pub returns : goal.returns
returns c header body sc e h = first_told header body sc e h
