use Rattle.std.proofs.Common.{false}
use Rattle.au_clearing.proofs.TouchLemmas.{touched_fits}
use Rattle.au_clearing.proofs.laws.touches_say_how_variables_are_mentioned.Goals as goal

pub returns : goal.returns
returns c x free e = touched_fits x free false e
