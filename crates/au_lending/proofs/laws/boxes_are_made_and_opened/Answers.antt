use Rattle.au_lending.proofs.RemadeLemmas.{boxed, unboxed}
use Rattle.au_lending.proofs.laws.boxes_are_made_and_opened.Goals as goal

pub returns-clause-made : goal.returns-clause-made
returns-clause-made c = λ types clock scope act hold type v of under s m core t i is none unborn.
    boxed types clock scope act hold type v of under s m core t is i none unborn

pub returns-clause-opened : goal.returns-clause-opened
returns-clause-opened c = λ types clock scope act hold type v t of under s m core forms boxes is.
    unboxed types forms boxes clock scope act hold type v t of under s m core is
