use Rattle.au_syntax.specs.contracts.parsed.ParsedPhase.TheImpl.{ghosts as parsed}
use Rattle.au_syntax.specs.Plain.{plain_name}
use Rattle.au_syntax.specs.Views.{placed}
use Rattle.au_promises.specs.Agreeing.{same_class}
use Rattle.au_promises.specs.Written.{sight_in}
use Rattle.au_promises.proofs.AgreeingLemmas.{AgreeSoFar}
use Rattle.au_promises.proofs.agreeing.same_classes.Given as goal

-- all items so far agree
abbrev pub invariant-loop-index : goal.invariant-loop-index
invariant-loop-index l = AgreeSoFar (same_class (sight_in l.sight)) (plain_name parsed.name_bytes)
    (placed parsed) l.one-items l.others.items l.index
