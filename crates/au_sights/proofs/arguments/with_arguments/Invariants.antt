use Rattle.au_sights.proofs.ArgumentLemmas.{PutSoFar}
use Rattle.au_sights.proofs.arguments.with_arguments.Given as goal

abbrev pub invariant-loop-index : goal.invariant-loop-index
invariant-loop-index l = PutSoFar l.params l.one-items l.index l.s
