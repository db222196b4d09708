use Rattle.au_judged_programs.proofs.EntryLemmas.{entries_well}
use Rattle.au_judged_programs.proofs.sound_entries.entries_run_well.Goals as goal

pub returns : goal.returns
returns c = λ program noted checked target entry first input ticks.
    entries_well program noted checked target entry first input ticks
