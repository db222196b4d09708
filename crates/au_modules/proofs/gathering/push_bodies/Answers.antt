use Rattle.std.proofs.Common.{arith, append_assoc}
use Rattle.std.proofs.lemmas.List.{drop_more}
use Rattle.au_modules.proofs.gathering.push_bodies.Goals as goal

pub loop-index-preserved : goal.loop-index-preserved
loop-index-preserved c = grind (arith, append_assoc, drop_more)
