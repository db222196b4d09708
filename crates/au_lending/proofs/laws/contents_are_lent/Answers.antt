use Rattle.au_lending.proofs.ContentLemmas.{content_lent}
use Rattle.au_lending.proofs.laws.contents_are_lent.Goals as goal

pub returns : goal.returns
returns c = λ types clock scope act hold type r t of z under s m core forms boxes boxed scoped.
    content_lent types forms boxes clock scope act hold type r t of z under s m core boxed scoped
