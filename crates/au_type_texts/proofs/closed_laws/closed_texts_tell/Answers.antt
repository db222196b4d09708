use Rattle.au_type_texts.proofs.ClosedTellLemmas.{texts_tell}
use Rattle.au_type_texts.proofs.closed_laws.closed_texts_tell.Goals as goal

pub returns : goal.returns
returns c = texts_tell
