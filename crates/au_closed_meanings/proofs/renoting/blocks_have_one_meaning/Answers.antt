use Rattle.au_closed_meanings.proofs.SameStatements.{one_meaning}
use Rattle.au_closed_meanings.proofs.renoting.blocks_have_one_meaning.Goals as goal

pub returns : goal.returns
returns g c = λ known change one two. one_meaning known change one two
