use Rattle.au_type_texts.proofs.WrittenLemmas.{type_sized}
use Rattle.au_type_texts.proofs.laws.sizes_are_written.Goals as goal

pub returns : goal.returns
returns c = type_sized
