use Rattle.au_type_texts.proofs.ParameterLemmas.{closes}
use Rattle.au_type_texts.proofs.closed_laws.what_closes.Goals as goal

pub returns : goal.returns
returns c t = closes t
