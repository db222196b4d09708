use Rattle.au_safe_steps.proofs.NamedLemmas.{fields_are_bound, labels_are_ordered}
use Rattle.au_safe_steps.proofs.laws.names_bind_in_any_order.Goals as goal

pub returns-clause-fields : goal.returns-clause-fields
returns-clause-fields c = fields_are_bound

pub returns-clause-labels : goal.returns-clause-labels
returns-clause-labels c = labels_are_ordered
