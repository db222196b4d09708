use Rattle.au_typing.proofs.MakerLemmas.{makes_own_type}
use Rattle.au_typing.proofs.laws.makers_make_the_types_of_their_names.Goals as goal

pub returns : goal.returns
returns c = λ program place m name meaning target d one here means is whole stands h.
    makes_own_type program place m name meaning target d one here means is whole stands h
