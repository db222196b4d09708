use Rattle.au_classes.proofs.RuleLemmas.{methods_decide}
use Rattle.au_classes.proofs.laws.the_test_decides_the_rule.Goals as goal

pub returns : goal.returns
returns c = λ wanted given class methods. methods_decide wanted given class methods
