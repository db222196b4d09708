use Rattle.au_typing.proofs.ProgramLemmas.{two_are_one}
use Rattle.au_typing.proofs.derivation_laws.no_program_has_two_derivations.Goals as goal

pub returns : goal.returns
returns c outside program a b g h = two_are_one outside program a b g h
