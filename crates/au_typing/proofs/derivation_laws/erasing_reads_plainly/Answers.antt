use Rattle.au_typing.proofs.ErasureLemmas.{module_plain}
use Rattle.au_typing.proofs.derivation_laws.erasing_reads_plainly.Goals as goal

pub returns : goal.returns
returns c m = module_plain m
