-- What is promised, from the way in which the call ended.
use Rattle.au_top.proofs.EnteredLemmas.{promised}
use Rattle.au_top.proofs.top.austral.Goals as goal

pub returns : goal.returns
returns g c =
    promised _ c.accepted_programs_are_sound.ensures c.lowered_programs_keep_step.ensures c.ended.ensures.ends
    c.ended.ensures.idle c.ended.ensures.crowded c.ended.ensures.files
