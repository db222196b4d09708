use Rattle.std.proofs.Common.{refl}
use Rattle.std.specs.Fmt.{digits}
use Rattle.au_cprint.proofs.laws.forms_hold.Goals as goal

pub returns : goal.returns
unfolding digits
returns c = refl
