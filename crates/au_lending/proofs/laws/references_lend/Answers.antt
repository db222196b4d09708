use Rattle.std.proofs.Common.{subst, sym}
use Rattle.au_lending.specs.Laws.{IsReadable}
use Rattle.au_lending.proofs.RebornLemmas.{lends_again}
use Rattle.au_lending.proofs.laws.references_lend.Goals as goal

pub returns : goal.returns
returns c = λ types clock scope act hold type under s m core frame x b z t y forms is typed scoped active before.
    lends_again types forms clock scope act hold type under s m core frame x t y
    (subst IsReadable (sym is) tt) typed scoped is b z active before
