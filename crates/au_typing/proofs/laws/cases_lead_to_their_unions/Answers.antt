use Rattle.std.proofs.Common.{ap, sym, ◌∙◌}
use Rattle.au_typing.specs.Insides.{cases_defined}
use Rattle.au_typing.proofs.CaseLemmas.{cases_lead, known_stands}
use Rattle.au_typing.proofs.laws.cases_lead_to_their_unions.Goals as goal

pub returns : goal.returns
returns c = λ program place at args d cases known h.
    cases_lead program d args cases (known_stands program place at d known)
    (ap (cases_defined program args) (sym known) ∙ h)
