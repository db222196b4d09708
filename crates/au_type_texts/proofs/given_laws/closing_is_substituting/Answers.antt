use Rattle.au_type_texts.proofs.GivenLemmas.{closing_substituted}
use Rattle.au_type_texts.proofs.given_laws.closing_is_substituting.Goals as goal

pub returns : goal.returns
returns c = closing_substituted
