use Rattle.au_closing_laws.proofs.ResolvedLemmas.{call_resolves, class_resolves}
use Rattle.au_closing_laws.proofs.gathered.methods_lead_by_the_rule_of_instances.Goals as goal

pub returns-clause-classes : goal.returns-clause-classes
returns-clause-classes c = class_resolves

pub returns-clause-calls : goal.returns-clause-calls
returns-clause-calls c = call_resolves
