use Rattle.std.proofs.Common.{◌∙◌, ap, sym}
use Rattle.au_sights.specs.contracts.noted.NotedPhase.TheImpl.{ghosts as noted}
use Rattle.au_sights.specs.Sights.{outside_seen}
use Rattle.au_syntax.specs.contracts.parsed.ParsedPhase.TheImpl.{ghosts as parsed}
use Rattle.au_syntax.proofs.DeclarationLemmas.{constant_says, opaque_says, record_says, union_says}
use Rattle.au_syntax.proofs.DeclarationLemmas.{function_says, class_says, instance_says, constant_body_says}
use Rattle.au_syntax.proofs.DeclarationLemmas.{function_body_says, instance_body_says}
use Rattle.au_syntax.specs.Modules.{constant_body}
use Rattle.au_syntax.specs.Views.{declaration, expression, placed, written}
use Rattle.au_noting_programs.proofs.StepLemmas.{noted_as}
use Rattle.au_noting_programs.proofs.declarations.note_declaration.Goals as goal

pub returns-in-Constant : goal.returns-in-Constant
returns-in-Constant c =
    noted_as (declaration noted) c.constant.result (outside_seen c.args.outside.now)
    (declaration parsed c.args.decl.now) _
    (ap (declaration parsed) c.in-Constant.is ∙ constant_says parsed c.in-Constant.at c.in-Constant.name
    c.in-Constant.of) c.constant.ensures

pub returns-in-Opaque : goal.returns-in-Opaque
returns-in-Opaque c =
    noted_as (declaration noted) c.opaque.result (outside_seen c.args.outside.now)
    (declaration parsed c.args.decl.now) _
    (ap (declaration parsed) c.in-Opaque.is ∙ opaque_says parsed c.in-Opaque.at c.in-Opaque.name
    c.in-Opaque.parameters c.in-Opaque.universe) c.opaque.ensures

pub returns-in-Record : goal.returns-in-Record
returns-in-Record c =
    noted_as (declaration noted) c.record_type.result (outside_seen c.args.outside.now)
    (declaration parsed c.args.decl.now) _
    (ap (declaration parsed) c.in-Record.is ∙ record_says parsed c.in-Record.at c.in-Record.name
    c.in-Record.parameters c.in-Record.universe c.in-Record.fields) c.record_type.ensures

pub returns-in-Union : goal.returns-in-Union
returns-in-Union c =
    noted_as (declaration noted) c.union_type.result (outside_seen c.args.outside.now)
    (declaration parsed c.args.decl.now) _
    (ap (declaration parsed) c.in-Union.is ∙ union_says parsed c.in-Union.at c.in-Union.name
    c.in-Union.parameters c.in-Union.universe c.in-Union.cases) c.union_type.ensures

pub returns-in-Function : goal.returns-in-Function
returns-in-Function c =
    noted_as (declaration noted) c.function.result (outside_seen c.args.outside.now)
    (declaration parsed c.args.decl.now) _
    (ap (declaration parsed) c.in-Function.is ∙ function_says parsed c.in-Function.at c.in-Function.generics
    c.in-Function.signature) c.function.ensures

pub returns-in-Class : goal.returns-in-Class
returns-in-Class c =
    noted_as (declaration noted) c.class.result (outside_seen c.args.outside.now) (declaration parsed c.args.decl.now) _
    (ap (declaration parsed) c.in-Class.is ∙ class_says parsed c.in-Class.at c.in-Class.name
    c.in-Class.parameter c.in-Class.methods) c.class.ensures

pub returns-in-Instance : goal.returns-in-Instance
returns-in-Instance c =
    noted_as (declaration noted) c.instance.result (outside_seen c.args.outside.now)
    (declaration parsed c.args.decl.now) _
    (ap (declaration parsed) c.in-Instance.is ∙ instance_says parsed c.in-Instance.at c.in-Instance.generics
    c.in-Instance.name c.in-Instance.of) c.instance.ensures

pub returns-in-ConstantBody : goal.returns-in-ConstantBody
returns-in-ConstantBody c =
    noted_as (declaration noted) c.note_constant_body.result (outside_seen c.args.outside.now)
    (declaration parsed c.args.decl.now)
    (constant_body c.in-ConstantBody.at (placed parsed c.in-ConstantBody.name) (written c.in-ConstantBody.of)
    (expression parsed c.deref.result.now))
    (ap (declaration parsed) c.in-ConstantBody.is
    ∙ constant_body_says parsed c.in-ConstantBody.at c.in-ConstantBody.name c.in-ConstantBody.of c.in-ConstantBody.value
    ∙ ap (λ e. constant_body c.in-ConstantBody.at (placed parsed c.in-ConstantBody.name)
    (written c.in-ConstantBody.of) (expression parsed e)) (sym c.deref.ensures))
    c.note_constant_body.ensures

pub returns-in-FunctionBody : goal.returns-in-FunctionBody
returns-in-FunctionBody c =
    noted_as (declaration noted) c.note_function.result (outside_seen c.args.outside.now)
    (declaration parsed c.args.decl.now) _
    (ap (declaration parsed) c.in-FunctionBody.is ∙ function_body_says parsed c.in-FunctionBody.at
    c.in-FunctionBody.generics c.in-FunctionBody.signature c.in-FunctionBody.body c.in-FunctionBody.stop)
    c.note_function.ensures

pub returns-in-InstanceBody : goal.returns-in-InstanceBody
returns-in-InstanceBody c =
    noted_as (declaration noted) c.note_instance.result (outside_seen c.args.outside.now)
    (declaration parsed c.args.decl.now) _
    (ap (declaration parsed) c.in-InstanceBody.is ∙ instance_body_says parsed c.in-InstanceBody.at
    c.in-InstanceBody.generics c.in-InstanceBody.name c.in-InstanceBody.of c.in-InstanceBody.methods)
    c.note_instance.ensures
