use Rattle.std.proofs.Common.{refl}
use Rattle.au_shipped.proofs.laws.tables_are_the_interfaces.Goals as goal

pub returns : goal.returns
returns c = λ of. refl
