use Rattle.au_judged_bodies.proofs.OnceFieldsApartLemmas.{fields_once}
use Rattle.au_judged_bodies.proofs.once_fields.fields_are_once.Goals as goal

pub returns : goal.returns
returns c = λ program once place m part i d here there. fields_once program once place m part i d here there
