use Rattle.std.proofs.Common.{IsTrue}
use Rattle.au_syntax.proofs.PartLemmas.{statement_induction}
use Rattle.au_syntax.proofs.laws.statement_induction.Goals as goal

pub returns : goal.returns
returns c test step s = statement_induction (λ one. IsTrue (test one)) step s
