use Rattle.au_syntax.specs.contracts.parsed.ParsedPhase.TheImpl.{ghosts as parsed}
use Rattle.au_syntax.specs.Plain.{plain_labelled}
use Rattle.au_syntax.specs.Views.{labelled}
use Rattle.au_types.specs.WrittenViews.{meant_in}
use Rattle.au_promises.proofs.AgreeingLemmas.{AgreeSoFar}
use Rattle.au_classes.specs.Methods.{same_labelled}
use Rattle.au_classes.specs.Views.{wanted_in}
use Rattle.au_classes.proofs.comparing.same_labels.Given as goal

-- all items so far agree
abbrev pub invariant-loop-index : goal.invariant-loop-index
invariant-loop-index l =
    AgreeSoFar (same_labelled (wanted_in l.class l.s) (meant_in l.own)) (plain_labelled parsed.name_bytes)
    (labelled parsed) l.one-items l.others.items l.index
