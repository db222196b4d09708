use Rattle.au_parser.proofs.Places as places
use Rattle.au_parser.proofs.laws.one_place.Goals as goal

pub returns : goal.returns
returns c = places.one_place
