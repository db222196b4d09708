use Rattle.au_known_types.proofs.NotedLemmas.{type_known}
use Rattle.au_known_types.proofs.laws.notes_are_known.Goals as goal

pub returns : goal.returns
returns c = λ sc scope e good wanted. type_known sc scope e good wanted
