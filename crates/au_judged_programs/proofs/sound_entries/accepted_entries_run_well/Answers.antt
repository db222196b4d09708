use Rattle.au_closing_laws.specs.Programs.{program_modules}
use Rattle.au_judged_programs.proofs.FitLemmas.{accepted_checked}
use Rattle.au_judged_programs.proofs.EntryLemmas.{entries_well}
use Rattle.au_judged_programs.proofs.sound_entries.accepted_entries_run_well.Goals as goal

pub returns : goal.returns
returns c = λ files names all reads a target entry first input ticks.
    entries_well (program_modules reads) a.noted (accepted_checked files names all reads a) target entry first input
    ticks
