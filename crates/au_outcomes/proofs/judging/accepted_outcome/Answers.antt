-- The report is that of the modules of the files.
use Rattle.std.proofs.Common.{subst, sym}
use Rattle.au_outcomes.specs.Halts.{Says}
use Rattle.au_outcomes.specs.Programs.{AcceptedCome, ReportComes}
use Rattle.au_outcomes.proofs.judging.accepted_outcome.Goals as goal

pub returns-in-Caps-clause-comes : goal.returns-in-Caps-clause-comes
returns-in-Caps-clause-comes c = λ reads is.
    subst (λ aim. Says c.reported.result (AcceptedCome aim reads) (AcceptedCome aim reads)) (sym c.in-Caps.is)
    (subst (λ program. Says c.reported.result (ReportComes program) (ReportComes program)) is c.reported.ensures.comes)
