use Rattle.au_instances.proofs.LawLemmas.{one_kept}
use Rattle.au_instances.proofs.laws.closing_keeps_the_row.Goals as goal

pub returns : goal.returns
returns c = λ rows heads scope class t s u one other table is closes instance. one_kept rows heads scope class
    t s u one other table is closes instance
