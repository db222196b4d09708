use Rattle.std.proofs.Common.{refl}
use Rattle.au_shipped.proofs.laws.shipped_are_four_interfaces.Goals as goal

pub returns-clause-names : goal.returns-clause-names
returns-clause-names c = refl

pub returns-clause-parts : goal.returns-clause-parts
returns-clause-parts c = refl

pub returns-clause-imports : goal.returns-clause-imports
returns-clause-imports c = refl

pub returns-clause-pragmas : goal.returns-clause-pragmas
returns-clause-pragmas c = refl
