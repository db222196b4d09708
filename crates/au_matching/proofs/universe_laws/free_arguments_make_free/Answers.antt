use Rattle.au_matching.proofs.LawLemmas.{free_named}
use Rattle.au_matching.proofs.universe_laws.free_arguments_make_free.Goals as goal

pub returns : goal.returns
returns c rows params at args head stands any all = free_named rows params at args head stands any all
