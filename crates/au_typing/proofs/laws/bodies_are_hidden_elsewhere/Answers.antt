use Rattle.au_typing.proofs.OfferedLemmas.{hidden_elsewhere}
use Rattle.au_typing.proofs.laws.bodies_are_hidden_elsewhere.Goals as goal

pub returns : goal.returns
returns c = λ program place part space name meaning d h stands body.
    hidden_elsewhere program place part space name meaning d h stands body
