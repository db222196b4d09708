use Rattle.au_known_programs.proofs.BodyLemmas.{body_known}
use Rattle.au_known_programs.proofs.laws.bodies_are_known.Goals as goal

pub returns : goal.returns
returns c = λ outside generics header scope known e. body_known outside generics header scope known e
