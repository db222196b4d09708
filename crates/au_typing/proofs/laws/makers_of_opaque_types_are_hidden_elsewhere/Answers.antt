use Rattle.std.proofs.Common.{sym, ◌∙◌}
use Rattle.au_types.specs.declared.spaces.Space.TheVariants.{Callables}
use Rattle.au_typing.proofs.OfferedLemmas.{defines_in_body, hidden_elsewhere}
use Rattle.au_typing.proofs.laws.makers_of_opaque_types_are_hidden_elsewhere.Goals as goal

pub returns : goal.returns
returns c = λ program place part name owner meaning at s d stands opaque defines means is.
    let within = defines_in_body program at s d owner stands opaque defines in
    sym within.0 ∙ hidden_elsewhere program place part Callables name meaning d means is within.1
