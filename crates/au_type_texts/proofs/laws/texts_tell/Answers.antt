use Rattle.au_type_texts.proofs.TellLemmas as lemmas
use Rattle.au_type_texts.proofs.laws.texts_tell.Goals as goal

pub returns : goal.returns
returns c = lemmas.texts_tell
