use Rattle.std.proofs.Common.{arith}
use Rattle.std.proofs.lemmas.Grind.{common_steps}
use Rattle.au_syntax.proofs.DeclarationLemmas.{opaque_says}
use Rattle.au_parser.specs.DeclarationReading.{opaque_at}
use Rattle.au_parser.proofs.types.opaque.Goals as goal

pub returns-in-Ok : goal.returns-in-Ok
unfolding opaque_at
returns-in-Ok c = grind (arith, common_steps, opaque_says)
