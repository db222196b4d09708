use Rattle.au_judged_bodies.proofs.OnceParametersApartLemmas.{parameters_once}
use Rattle.au_judged_bodies.proofs.once_parameters.parameters_are_once.Goals as goal

pub returns : goal.returns
returns c = λ program once place m part i d here there. parameters_once program once place m part i d here there
