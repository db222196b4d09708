use Rattle.au_rules.proofs.RuleLemmas.{exact}
use Rattle.au_rules.proofs.laws.no_doubles_exactly_where_names_are_once.Goals as goal

pub returns : goal.returns
returns c = λ program. exact program
