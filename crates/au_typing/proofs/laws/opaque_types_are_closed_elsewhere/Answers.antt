use Rattle.std.proofs.Common.{ap}
use Rattle.au_typing.specs.Insides.{cases_defined, fields_defined}
use Rattle.au_typing.proofs.CaseLemmas.{hidden}
use Rattle.au_typing.proofs.laws.opaque_types_are_closed_elsewhere.Goals as goal

pub returns : goal.returns
returns c = λ program place at args d name stands opaque other.
    let none = hidden program place at d name stands opaque other in
    (ap (fields_defined program args) none, ap (cases_defined program args) none)
