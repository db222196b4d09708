use Rattle.au_closing_laws.proofs.PutLemmas.{class_put, parameter_put}
use Rattle.au_closing_laws.proofs.typed_calls.calls_put_what_fits.Goals as goal

pub returns-clause-parameters : goal.returns-clause-parameters
returns-clause-parameters c = parameter_put

pub returns-clause-classes : goal.returns-clause-classes
returns-clause-classes c = class_put
