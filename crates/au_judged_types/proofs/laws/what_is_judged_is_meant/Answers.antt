use Rattle.au_judged_types.proofs.AgreementLemmas.{judged_agrees, judged_is_meant, meant_is_judged, region_is_meant}
use Rattle.au_judged_types.proofs.laws.what_is_judged_is_meant.Goals as goal

pub returns-clause-types : goal.returns-clause-types
returns-clause-types c = λ opened params visible heads w t. (
  λ h. judged_is_meant heads params opened visible w t h,
  λ h. meant_is_judged heads params opened visible w
      t h.0 h.1,
)

pub returns-clause-regions : goal.returns-clause-regions
returns-clause-regions c = λ opened params visible heads w r. region_is_meant heads params opened visible w r

pub returns-clause-reasons : goal.returns-clause-reasons
returns-clause-reasons c = λ opened params visible heads w. judged_agrees heads params opened visible w
