use Rattle.au_parser.proofs.Certain as certain
use Rattle.au_parser.proofs.laws.one_limit.Goals as goal

pub returns : goal.returns
returns c = certain.one_limit
