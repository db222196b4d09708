use Rattle.au_modules.specs.Slots as slots
use Rattle.au_classes.specs.ClassViews.{known_said}
use Rattle.au_classes.proofs.FaultLemmas.{AdmittedSoFar}
use Rattle.au_classes.proofs.declaring.admit_all.Given as goal

-- all so far are good and known, so those that are left decide
abbrev pub invariant-loop-text : goal.invariant-loop-text
invariant-loop-text l = AdmittedSoFar (slots.modules l.program) (known_said l.initial.known) l.text-items
    l.text-index (known_said l.known)
