use Rattle.au_classes.proofs.GoodLemmas.{instances_accepted, instances_good}
use Rattle.au_classes.proofs.class_laws.good_instances_are_not_refused.Goals as goal

pub returns : goal.returns
returns c = λ program. (instances_good program, instances_accepted program)
