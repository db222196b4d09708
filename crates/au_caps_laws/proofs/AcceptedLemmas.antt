-- So it is in accepted programs.
use Rattle.au_accepted.specs.Programs.{program_modules}
use Rattle.au_judged_programs.proofs.FitLemmas.{accepted_checked}
use Rattle.au_caps_laws.specs.Reported.{AcceptedBirthsAreMade, AcceptedRunsAreReported}
use Rattle.au_caps_laws.proofs.ReportLemmas.{births_made, births_reported}

pub accepted_births_made : AcceptedBirthsAreMade
accepted_births_made files names all reads a =
    births_made (program_modules reads) a.noted (accepted_checked files names all reads a)

pub accepted_births_reported : AcceptedRunsAreReported
accepted_births_reported files names all reads a =
    births_reported (program_modules reads) a.noted (accepted_checked files names all reads a)
