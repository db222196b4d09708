use Rattle.au_typing.proofs.ProgramLemmas.{two_bodies}
use Rattle.au_typing.proofs.derivation_laws.no_body_has_two_notings.Goals as goal

pub returns : goal.returns
returns c outside generics header a b g h e = two_bodies outside generics header a b g h e
