use Rattle.au_caps_laws.proofs.ReachLemmas.{arguments_handed, parameters_held, result_handed, variables_held}
use Rattle.au_caps_laws.proofs.reach.closed_types_are_listed.Goals as goal

pub returns-clause-parameters : goal.returns-clause-parameters
returns-clause-parameters c = parameters_held

pub returns-clause-variables : goal.returns-clause-variables
returns-clause-variables c = variables_held

pub returns-clause-result : goal.returns-clause-result
returns-clause-result c = result_handed

pub returns-clause-arguments : goal.returns-clause-arguments
returns-clause-arguments c = arguments_handed
