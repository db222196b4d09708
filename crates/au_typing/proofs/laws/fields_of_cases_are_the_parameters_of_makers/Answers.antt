use Rattle.std.proofs.Common.{ap, sym, ◌∙◌}
use Rattle.au_typing.specs.Insides.{cases_defined}
use Rattle.au_typing.proofs.CaseLemmas.{case_parameters}
use Rattle.au_typing.proofs.laws.fields_of_cases_are_the_parameters_of_makers.Goals as goal

pub returns : goal.returns
returns c = λ program place at args d target one cases found known h stands called k.
    case_parameters program d args target one found cases (ap (cases_defined program args) (sym known) ∙ h)
    stands called k
