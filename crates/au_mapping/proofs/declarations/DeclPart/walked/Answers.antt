use Rattle.std.proofs.Common.{arith}
use Rattle.au_syntax.proofs.DeclarationLemmas.{constant_says, constant_body_says}
use Rattle.au_mapping.proofs.BlockLemmas.{function_body_walked}
use Rattle.au_mapping.proofs.DeclarationLemmas.{opaque_walked, record_walked, union_walked, function_walked}
use Rattle.au_mapping.proofs.DeclarationLemmas.{class_walked, instance_walked, instance_body_walked}
use Rattle.au_mapping.proofs.declarations.DeclPart.walked.Goals as goal

pub returns-in_ok-name-in-Constant : goal.returns-in_ok-name-in-Constant
returns-in_ok-name-in-Constant g c = grind (arith, constant_says)

pub returns-in_ok-name-in-Opaque : goal.returns-in_ok-name-in-Opaque
returns-in_ok-name-in-Opaque g c =
    opaque_walked g.W.Walk c.args.self.now c.in-Opaque.at
    c.in-Opaque.name c.in_ok-name-in-Opaque.name
    c.in-Opaque.parameters c.in_ok-name-in-Opaque.parameters
    c.in-Opaque.universe
    c.in-Opaque.is
    c.in_ok-name-in-Opaque.ensures.first
    c.in_ok-name-in-Opaque.ensures.second

pub returns-in_ok-name-in-Record : goal.returns-in_ok-name-in-Record
returns-in_ok-name-in-Record g c =
    record_walked g.W.Walk c.args.self.now c.in-Record.at
    c.in-Record.name c.in_ok-name-in-Record.name
    c.in-Record.parameters c.in_ok-name-in-Record.parameters
    c.in-Record.universe
    c.in-Record.fields c.in_ok-name-in-Record.fields
    c.in-Record.is
    c.in_ok-name-in-Record.ensures.first
    c.in_ok-name-in-Record.ensures.second
    c.in_ok-name-in-Record.ensures.third

pub returns-in_ok-name-in-Union : goal.returns-in_ok-name-in-Union
returns-in_ok-name-in-Union g c =
    union_walked g.W.Walk c.args.self.now c.in-Union.at
    c.in-Union.name c.in_ok-name-in-Union.name
    c.in-Union.parameters c.in_ok-name-in-Union.parameters
    c.in-Union.universe
    c.in-Union.cases c.in_ok-name-in-Union.cases
    c.in-Union.is
    c.in_ok-name-in-Union.ensures.first
    c.in_ok-name-in-Union.ensures.second
    c.in_ok-name-in-Union.ensures.third

pub returns-in_ok-generics-in-Function : goal.returns-in_ok-generics-in-Function
returns-in_ok-generics-in-Function g c =
    function_walked g.W.Walk c.args.self.now c.in-Function.at
    c.in-Function.generics c.in_ok-generics-in-Function.generics
    c.in-Function.signature c.in_ok-generics-in-Function.signature
    c.in-Function.is
    c.in_ok-generics-in-Function.ensures.first
    c.in_ok-generics-in-Function.ensures.second

pub returns-in_ok-name-in-Class : goal.returns-in_ok-name-in-Class
returns-in_ok-name-in-Class g c =
    class_walked g.W.Walk c.args.self.now c.in-Class.at
    c.in-Class.name c.in_ok-name-in-Class.name
    c.in-Class.parameter c.in_ok-name-in-Class.parameter
    c.in-Class.methods c.in_ok-name-in-Class.methods
    c.in-Class.is
    c.in_ok-name-in-Class.ensures.first
    c.in_ok-name-in-Class.ensures.second
    c.in_ok-name-in-Class.ensures.third

pub returns-in_ok-generics-in-Instance : goal.returns-in_ok-generics-in-Instance
returns-in_ok-generics-in-Instance g c =
    instance_walked g.W.Walk c.args.self.now c.in-Instance.at
    c.in-Instance.generics c.in_ok-generics-in-Instance.generics
    c.in-Instance.name c.in_ok-generics-in-Instance.name
    c.in-Instance.of c.in_ok-generics-in-Instance.of
    c.in-Instance.is
    c.in_ok-generics-in-Instance.ensures.first
    c.in_ok-generics-in-Instance.ensures.second
    c.in_ok-generics-in-Instance.ensures.third

pub returns-in_ok-name-in-ConstantBody : goal.returns-in_ok-name-in-ConstantBody
returns-in_ok-name-in-ConstantBody g c = grind (arith, constant_body_says)

pub returns-in_ok-generics-in-InstanceBody : goal.returns-in_ok-generics-in-InstanceBody
returns-in_ok-generics-in-InstanceBody g c =
    instance_body_walked g.W.Walk c.args.self.now c.in-InstanceBody.at
    c.in-InstanceBody.generics c.in_ok-generics-in-InstanceBody.generics
    c.in-InstanceBody.name c.in_ok-generics-in-InstanceBody.name
    c.in-InstanceBody.of c.in_ok-generics-in-InstanceBody.of
    c.in-InstanceBody.methods c.in_ok-generics-in-InstanceBody.methods
    c.in-InstanceBody.is
    c.in_ok-generics-in-InstanceBody.ensures.first
    c.in_ok-generics-in-InstanceBody.ensures.second
    c.in_ok-generics-in-InstanceBody.ensures.third
    c.in_ok-generics-in-InstanceBody.ensures.fourth

pub returns-in_ok-generics-in-FunctionBody : goal.returns-in_ok-generics-in-FunctionBody
returns-in_ok-generics-in-FunctionBody g c =
    function_body_walked g.W.Walk c.args.self.now c.in-FunctionBody.at
    c.in-FunctionBody.generics c.in_ok-generics-in-FunctionBody.generics
    c.in-FunctionBody.signature c.in_ok-generics-in-FunctionBody.signature
    c.in-FunctionBody.body c.in_ok-generics-in-FunctionBody.body c.in-FunctionBody.end
    c.in-FunctionBody.is c.in_ok-generics-in-FunctionBody.ensures.first
    c.in_ok-generics-in-FunctionBody.ensures.second c.in_ok-generics-in-FunctionBody.ensures.third
