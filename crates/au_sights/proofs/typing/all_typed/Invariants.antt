use Rattle.au_modules.specs.Slots as slots
use Rattle.au_syntax.specs.contracts.parsed.ParsedPhase.TheImpl.{ghosts as parsed}
use Rattle.au_syntax.specs.Plain.{plain_labelled}
use Rattle.au_syntax.specs.Views.{labelled}
use Rattle.au_names.specs.Standing.{standing}
use Rattle.au_typing.specs.Written.{all_typed, typed}
use Rattle.au_sights.specs.Sights.{typed_said}
use Rattle.au_sights.proofs.FollowedLemmas.{SoFar}
use Rattle.au_sights.proofs.typing.all_typed.Given as goal

-- those so far mean something, and what is left decides
abbrev pub invariant-loop-one : goal.invariant-loop-one
invariant-loop-one l =
    SoFar (plain_labelled parsed.name_bytes) (labelled parsed)
    (typed (slots.modules l.program) (standing l.found) l.params)
    (all_typed (slots.modules l.program) (standing l.found) l.params) typed_said l.one-items l.one-index
    l.all.items
