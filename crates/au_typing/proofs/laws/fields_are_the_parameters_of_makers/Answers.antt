use Rattle.std.proofs.Common.{ap, sym, ◌∙◌}
use Rattle.au_typing.specs.Insides.{fields_defined}
use Rattle.au_typing.proofs.MakerLemmas.{record_parameters}
use Rattle.au_typing.proofs.laws.fields_are_the_parameters_of_makers.Goals as goal

pub returns : goal.returns
returns c = λ program place at args d target one fields known h stands k.
    record_parameters program d args target one fields (ap (fields_defined program args) (sym known) ∙ h) stands k
