use Rattle.au_syntax.specs.contracts.parsed.ParsedPhase.TheImpl.{ghosts as parsed}
use Rattle.au_syntax.specs.Plain.{plain_labelled}
use Rattle.au_syntax.specs.Views.{labelled}
use Rattle.au_promises.specs.Agreeing.{same_labelled}
use Rattle.au_promises.specs.Written.{sight_in}
use Rattle.au_promises.proofs.AgreeingLemmas.{AgreeSoFar}
use Rattle.au_promises.proofs.agreeing.same_labels.Given as goal

-- all items so far agree
abbrev pub invariant-loop-index : goal.invariant-loop-index
invariant-loop-index l = AgreeSoFar (same_labelled (sight_in l.sight) l.scope l.outer)
    (plain_labelled parsed.name_bytes) (labelled parsed) l.one-items l.others.items l.index
