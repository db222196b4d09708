use Rattle.au_instances.proofs.AfterClosingLemmas.{holds_closed}
use Rattle.au_instances.proofs.laws.closing_keeps_what_holds.Goals as goal

pub returns : goal.returns
returns c = λ rows heads scope known class t s u table fit met stands holds closes. holds_closed heads scope s
    fit rows known table met class t holds u stands closes
