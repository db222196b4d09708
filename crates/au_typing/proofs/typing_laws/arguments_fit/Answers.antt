use Rattle.au_typing.specs.Calls.{by_labels, in_order}
use Rattle.au_typing.proofs.Arguments.{labelled_fits, positional_fits}
use Rattle.au_typing.proofs.typing_laws.arguments_fit.Goals as goal

pub returns-clause-positional : goal.returns-clause-positional
returns-clause-positional c = λ scope n name number es good all. positional_fits scope n name
    (in_order number) es good all

pub returns-clause-labelled : goal.returns-clause-labelled
returns-clause-labelled c = λ scope n name labels es good all. labelled_fits scope n name (by_labels labels) es good all
