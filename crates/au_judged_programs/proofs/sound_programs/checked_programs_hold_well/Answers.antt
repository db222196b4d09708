use Rattle.au_judged_programs.proofs.RunLemmas.{calls_held, runs_held}
use Rattle.au_judged_programs.proofs.sound_programs.checked_programs_hold_well.Goals as goal

pub returns-clause-runs : goal.returns-clause-runs
returns-clause-runs g c = λ program noted owner permits checked. runs_held program noted owner permits checked

pub returns-clause-calls : goal.returns-clause-calls
returns-clause-calls g c = λ program noted owner permits checked. calls_held program noted owner permits checked
