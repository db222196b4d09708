use Rattle.au_rules.proofs.RuleLemmas.{exact}
use Rattle.au_rules.proofs.RuleRuleLemmas.{all_good, none_refused}
use Rattle.au_rules.proofs.rule_laws.good_declarations_are_not_refused.Goals as goal

pub returns : goal.returns
returns c = λ program. (all_good program (exact program), none_refused program (exact program))
