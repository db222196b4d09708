-- The notes of the program are derived, and the report is that of the program with these.
use Rattle.au_modules.specs.Slots as slots
use Rattle.au_outcomes.proofs.ReportLemmas.{found_derived}
use Rattle.au_outcomes.proofs.judging.reported.Goals as goal

pub returns-clause-comes : goal.returns-clause-comes
returns-clause-comes c =
    let found = c.in_ok-report.ensures in
    (found.0, found_derived (slots.modules c.args.noted.now) found.0 found.1, found.2)
