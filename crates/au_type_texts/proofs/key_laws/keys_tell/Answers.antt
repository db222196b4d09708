use Rattle.au_type_texts.proofs.KeyTellLemmas.{key_one}
use Rattle.au_type_texts.proofs.key_laws.keys_tell.Goals as goal

pub returns : goal.returns
returns c t u r s is = key_one t u r s is
