use Rattle.au_typing.proofs.RefusalLemmas.{where_refused}
use Rattle.au_typing.proofs.derivation_laws.blocks_are_refused_at_their_first_fault.Goals as goal

pub returns : goal.returns
returns c ss sc fault h = where_refused ss sc fault h
