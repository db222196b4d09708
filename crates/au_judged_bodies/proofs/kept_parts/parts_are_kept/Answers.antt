use Rattle.au_judged_bodies.proofs.KeptPartsBodyLemmas.{parts_kept}
use Rattle.au_judged_bodies.proofs.kept_parts.parts_are_kept.Goals as goal

pub returns : goal.returns
returns g c = λ sorts f. parts_kept sorts f
