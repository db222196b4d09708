use Rattle.au_closing_laws.proofs.FactLemmas.{functions_hold, parts_hold}
use Rattle.au_closing_laws.proofs.gathered.gathered_declarations_are_known.Goals as goal

pub returns-clause-parts : goal.returns-clause-parts
returns-clause-parts c = parts_hold

pub returns-clause-functions : goal.returns-clause-functions
returns-clause-functions c = functions_hold
