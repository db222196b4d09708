use Rattle.au_matching.proofs.BindingLemmas.{extend_each_other, same_lists}
use Rattle.au_matching.proofs.laws.answers_decide_lists.Goals as goal

pub returns-clause-alike : goal.returns-clause-alike
returns-clause-alike c = λ s r g h alike. same_lists s r g h alike

pub returns-clause-both : goal.returns-clause-both
returns-clause-both c = λ s r g h there back. extend_each_other s r g h there back
