use Rattle.au_types.proofs.DeclaredLemmas.{numbered-append}
use Rattle.au_types.proofs.laws.numbers_go_on.Goals as goal

pub returns : goal.returns
returns c first interface body = numbered-append first interface body
