use Rattle.std.proofs.Common.{refl}
use Rattle.au_caps_text.proofs.laws.an_example_holds.Goals as goal

pub returns : goal.returns
returns c = refl
