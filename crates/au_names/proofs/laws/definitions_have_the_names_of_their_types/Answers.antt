use Rattle.au_names.proofs.DefinitionLemmas.{definition_named}
use Rattle.au_names.proofs.laws.definitions_have_the_names_of_their_types.Goals as goal

pub returns : goal.returns
returns c = λ program place m name meaning d here means is.
    definition_named program place m name meaning d here means is
