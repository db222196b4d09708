use Rattle.au_syntax.specs.contracts.parsed.ParsedPhase.TheImpl.{ghosts as parsed}
use Rattle.au_syntax.specs.Plain.{plain_in_universe}
use Rattle.au_syntax.specs.Views.{in_universe}
use Rattle.au_promises.specs.Agreeing.{same_parameter}
use Rattle.au_promises.proofs.AgreeingLemmas.{AgreeSoFar}
use Rattle.au_promises.proofs.agreeing.same_parameters.Given as goal

-- all items so far agree
abbrev pub invariant-loop-index : goal.invariant-loop-index
invariant-loop-index l = AgreeSoFar (same_parameter) (plain_in_universe parsed.name_bytes)
    (in_universe parsed) l.one-items l.others.items l.index
