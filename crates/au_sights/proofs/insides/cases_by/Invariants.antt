use Rattle.au_modules.specs.Slots as slots
use Rattle.au_syntax.specs.contracts.parsed.ParsedPhase.TheImpl.{ghosts as parsed}
use Rattle.au_syntax.specs.Plain.{plain_variant}
use Rattle.au_syntax.specs.Views.{variant}
use Rattle.au_names.specs.Standing.{standing}
use Rattle.au_sights.specs.Sights.{case_said}
use Rattle.au_sights.specs.Steps.{case_by, cases_by}
use Rattle.au_sights.proofs.FollowedLemmas.{SoFar}
use Rattle.au_sights.proofs.insides.cases_by.Given as goal

-- those so far mean something, and what is left decides
abbrev pub invariant-loop-one : goal.invariant-loop-one
invariant-loop-one l =
    SoFar (plain_variant parsed.name_bytes) (variant parsed)
    (case_by (slots.modules l.program) (standing l.found) l.params l.s l.at)
    (cases_by (slots.modules l.program) (standing l.found) l.params l.s l.at) case_said l.one-items
    l.one-index l.all.items
