use Rattle.au_parser.proofs.ReaderLaws.{one_tree}
use Rattle.au_parser.proofs.laws.one_tree.Goals as goal

pub returns : goal.returns
returns c = one_tree
