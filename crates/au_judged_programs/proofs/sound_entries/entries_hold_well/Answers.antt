use Rattle.au_judged_programs.proofs.EntryLemmas.{entries_held}
use Rattle.au_judged_programs.proofs.sound_entries.entries_hold_well.Goals as goal

pub returns : goal.returns
returns g c = λ program noted permits. entries_held program noted permits
