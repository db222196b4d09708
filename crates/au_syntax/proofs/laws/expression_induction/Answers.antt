use Rattle.std.proofs.Common.{IsTrue}
use Rattle.au_syntax.proofs.PartLemmas.{expression_induction}
use Rattle.au_syntax.proofs.laws.expression_induction.Goals as goal

pub returns : goal.returns
returns c test step e = expression_induction (λ one. IsTrue (test one)) step e
