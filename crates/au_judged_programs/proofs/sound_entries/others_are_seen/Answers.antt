use Rattle.au_judged_programs.proofs.SoundEntriesCallLemmas.{others_seen}
use Rattle.au_judged_programs.proofs.sound_entries.others_are_seen.Goals as goal

pub returns : goal.returns
returns c = λ program noted. others_seen program noted
