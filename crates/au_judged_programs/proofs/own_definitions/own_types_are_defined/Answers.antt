use Rattle.au_judged_programs.proofs.OwnLemmas.{own_defined}
use Rattle.au_judged_programs.proofs.own_definitions.own_types_are_defined.Goals as goal

pub returns : goal.returns
returns c = λ program once at d name own found whole number. own_defined program once at d name own found whole number
