use Rattle.std.proofs.Common.{arith}
use Rattle.au_syntax.proofs.DeclarationLemmas.{opaque_says, record_says, union_says, class_says}
use Rattle.au_syntax.proofs.DeclarationLemmas.{function_says, function_body_says, instance_says}
use Rattle.au_syntax.proofs.DeclarationLemmas.{instance_body_says, constant_says, constant_body_says}
use Rattle.au_promises.proofs.scopes.type_parameters.Goals as goal

pub returns-in-Opaque : goal.returns-in-Opaque
returns-in-Opaque c = grind (arith, opaque_says, record_says, union_says)

pub returns-in-Class : goal.returns-in-Class
returns-in-Class c = grind (arith, class_says)

pub returns-in-Function : goal.returns-in-Function
returns-in-Function c = grind (arith, function_says, function_body_says, instance_says, instance_body_says)

pub returns-in-Constant : goal.returns-in-Constant
returns-in-Constant c = grind (arith, constant_says, constant_body_says)
