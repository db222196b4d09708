use Rattle.std.proofs.Common.{arith}
use Rattle.au_modules.proofs.LimitLemmas as lemmas
use Rattle.au_modules.proofs.limits.limit_of.Goals as goal

pub returns-in-Opaque : goal.returns-in-Opaque
returns-in-Opaque g c = grind (arith, lemmas.opaque_limit)

pub returns-in-Record : goal.returns-in-Record
returns-in-Record g c = grind (arith, lemmas.record_limit)

pub returns-in-Union : goal.returns-in-Union
returns-in-Union g c = grind (arith, lemmas.union_limit)

pub returns-in-Function : goal.returns-in-Function
returns-in-Function g c = grind (arith, lemmas.function_limit, lemmas.function_body_limit)

pub returns-in-Class : goal.returns-in-Class
returns-in-Class g c = grind (arith, lemmas.class_limit)

pub returns-in-Instance : goal.returns-in-Instance
returns-in-Instance g c = grind (arith, lemmas.instance_limit)

pub returns-in-InstanceBody : goal.returns-in-InstanceBody
returns-in-InstanceBody g c = grind (arith, lemmas.instance_body_limit)

pub returns-in-Constant : goal.returns-in-Constant
returns-in-Constant g c = grind (arith, lemmas.constant_limit, lemmas.constant_body_limit)

pub returns-in-Constant-2 : goal.returns-in-Constant-2
returns-in-Constant-2 g c = grind (arith, lemmas.constant_limit, lemmas.constant_body_limit)
