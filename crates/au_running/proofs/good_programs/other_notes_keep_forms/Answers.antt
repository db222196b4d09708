use Rattle.au_running.proofs.RenotedLemmas.{form_kept}
use Rattle.au_running.proofs.good_programs.other_notes_keep_forms.Goals as goal

pub returns : goal.returns
returns g c = form_kept _ _ _ _
