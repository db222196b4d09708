use Rattle.au_laws.proofs.RuleLemmas.{formed_rule, rule_formed}
use Rattle.au_laws.proofs.rules.written_types_are_formed.Goals as goal

pub returns : goal.returns
returns c = λ scope written t. (formed_rule scope written t, rule_formed scope written t)
