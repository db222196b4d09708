use Rattle.au_caps.proofs.ReportLemmas.{one_report}
use Rattle.au_caps.proofs.laws.reports_agree.Goals as goal

pub returns : goal.returns
returns c = λ program noted a b is also. one_report program noted a b is also
