use Rattle.std.proofs.Common.{arith}
use Rattle.std.proofs.lemmas.Grind.{common_steps}
use Rattle.au_syntax.proofs.TypeLemmas.{named_written, reference_written}
use Rattle.au_rules.proofs.statements.push_region.Goals as goal

pub returns-in-Named : goal.returns-in-Named
returns-in-Named c = grind (arith, common_steps, named_written)

pub returns-in_ok-push-in-Reference : goal.returns-in_ok-push-in-Reference
returns-in_ok-push-in-Reference c = grind (arith, common_steps, reference_written)
