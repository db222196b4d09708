use Rattle.au_judged_programs.proofs.FitLemmas.{accepted_checked}
use Rattle.au_closing_laws.specs.Programs.{program_modules}
use Rattle.au_judged_programs.proofs.RunLemmas.{runs_well_seen}
use Rattle.au_judged_programs.proofs.sound_programs.accepted_programs_run_well.Goals as goal

pub returns-clause-checked : goal.returns-clause-checked
returns-clause-checked c = λ program noted owner checked. runs_well_seen program noted owner checked

pub returns-clause-accepted : goal.returns-clause-accepted
returns-clause-accepted c = λ files names all reads a owner.
    runs_well_seen (program_modules reads) a.noted owner (accepted_checked files names all reads a)
