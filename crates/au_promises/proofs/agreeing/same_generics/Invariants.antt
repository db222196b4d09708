use Rattle.au_syntax.specs.contracts.parsed.ParsedPhase.TheImpl.{ghosts as parsed}
use Rattle.au_syntax.specs.Plain.{plain_constrained}
use Rattle.au_syntax.specs.Views.{constrained}
use Rattle.au_promises.specs.Agreeing.{same_generic}
use Rattle.au_promises.specs.Written.{sight_in}
use Rattle.au_promises.proofs.AgreeingLemmas.{AgreeSoFar}
use Rattle.au_promises.proofs.agreeing.same_generics.Given as goal

-- all items so far agree
abbrev pub invariant-loop-index : goal.invariant-loop-index
invariant-loop-index l = AgreeSoFar (same_generic (sight_in l.sight)) (plain_constrained parsed.name_bytes)
    (constrained parsed) l.one-items l.others.items l.index
