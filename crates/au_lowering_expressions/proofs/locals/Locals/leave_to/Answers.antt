use Rattle.std.proofs.Common.{arith}
use Rattle.std.proofs.lemmas.List.{take_all}
use Rattle.au_lowering_expressions.proofs.InnermostLemmas.{taken_one}
use Rattle.au_lowering_expressions.proofs.locals.Locals.leave_to.Goals as goal

pub loop-self-preserved : goal.loop-self-preserved
loop-self-preserved c = grind (arith, taken_one c.loop-self.self c.args.count)

pub returns : goal.returns
returns c = grind (arith, take_all c.args.count c.loop-self.self)
