use Rattle.std.proofs.Common.{arith}
use Rattle.au_typing.proofs.PlaceLemmas.{dropped_none, dropped_one}
use Rattle.au_typing.proofs.variables.Variables.leave_to.Goals as goal

pub loop-self-preserved : goal.loop-self-preserved
loop-self-preserved c = grind (arith, dropped_one c.loop-self.self c.args.count)

pub returns : goal.returns
returns c = grind (arith, dropped_none c.loop-self.self c.args.count)
