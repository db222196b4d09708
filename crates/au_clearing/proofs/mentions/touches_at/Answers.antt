use Rattle.std.proofs.Common.{ap, refl, ◌∙◌}
use Rattle.au_clearing.specs.Touches.{Untouched}
use Rattle.au_clearing.specs.Deals.{touch_or_none}
use Rattle.au_clearing.proofs.MentionLemmas.{same_for_both}
use Rattle.au_clearing.proofs.mentions.touches_at.Goals as goal

pub returns-in-Some : goal.returns-in-Some
returns-in-Some c = λ free. ap (touch_or_none free) c.in-Some.ensures

pub returns-in-None : goal.returns-in-None
returns-in-None c = λ free. same_for_both _ Untouched refl refl free ∙ ap (touch_or_none free) c.in-None.ensures
