use Rattle.std.proofs.Common.{arith}
use Rattle.au_syntax.proofs.DeclarationLemmas as says
use Rattle.au_closing.proofs.finding.function_in.Goals as goal

pub returns-in-Constant : goal.returns-in-Constant
returns-in-Constant c = grind (arith, says.constant_says)

pub returns-in-Opaque : goal.returns-in-Opaque
returns-in-Opaque c = grind (arith, says.opaque_says)

pub returns-in-Record : goal.returns-in-Record
returns-in-Record c = grind (arith, says.record_says)

pub returns-in-Union : goal.returns-in-Union
returns-in-Union c = grind (arith, says.union_says)

pub returns-in-Function : goal.returns-in-Function
returns-in-Function c = grind (arith, says.function_says)

pub returns-in-Class : goal.returns-in-Class
returns-in-Class c = grind (arith, says.class_says)

pub returns-in-Instance : goal.returns-in-Instance
returns-in-Instance c = grind (arith, says.instance_says)

pub returns-in-ConstantBody : goal.returns-in-ConstantBody
returns-in-ConstantBody c = grind (arith, says.constant_body_says)

pub returns-in-FunctionBody : goal.returns-in-FunctionBody
returns-in-FunctionBody c = grind (arith, says.function_body_says)

pub returns-in-InstanceBody : goal.returns-in-InstanceBody
returns-in-InstanceBody c = grind (arith, says.instance_body_says)
