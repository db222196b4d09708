use Rattle.au_judged_programs.proofs.SoundEntriesCallLemmas.{calls_of_programs}
use Rattle.au_judged_programs.proofs.sound_entries.calls_of_programs_run.Goals as goal

pub returns : goal.returns
returns g c = λ program noted calls handed checked allowed key. calls_of_programs program noted calls handed checked
    allowed key
