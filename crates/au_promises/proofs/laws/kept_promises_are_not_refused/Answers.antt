use Rattle.au_promises.proofs.FulfilledLemmas as lemmas
use Rattle.au_promises.proofs.laws.kept_promises_are_not_refused.Goals as goal

pub returns : goal.returns
returns c program = (lemmas.fulfilled_from program, lemmas.fulfilled_accepted program)
