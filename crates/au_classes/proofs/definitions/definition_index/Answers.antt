use Rattle.std.proofs.Common.{arith, ◌≡◌, IfOk, sym, subst}
use Rattle.au_syntax.proofs.DeclarationLemmas.{constant_says, opaque_says, record_says, union_says}
use Rattle.au_syntax.proofs.DeclarationLemmas.{function_says, class_says, constant_body_says}
use Rattle.au_syntax.proofs.DeclarationLemmas.{function_body_says, instance_body_says}
use Rattle.au_syntax.specs.Views.{declaration}
use Rattle.au_promises.specs.Written.{declared_of, sight_in}
use Rattle.au_classes.specs.Texts as spec
use Rattle.au_classes.proofs.definitions.definition_index.Goals as goal

pub returns-in-Constant : goal.returns-in-Constant
returns-in-Constant c = λ all are. grind (arith, constant_says)

pub returns-in-Opaque : goal.returns-in-Opaque
returns-in-Opaque c = λ all are. grind (arith, opaque_says)

pub returns-in-Record : goal.returns-in-Record
returns-in-Record c = λ all are. grind (arith, record_says)

pub returns-in-Union : goal.returns-in-Union
returns-in-Union c = λ all are. grind (arith, union_says)

pub returns-in-Function : goal.returns-in-Function
returns-in-Function c = λ all are. grind (arith, function_says)

pub returns-in-Class : goal.returns-in-Class
returns-in-Class c = λ all are. grind (arith, class_says)

pub returns-in-ConstantBody : goal.returns-in-ConstantBody
returns-in-ConstantBody c = λ all are. grind (arith, constant_body_says)

pub returns-in-FunctionBody : goal.returns-in-FunctionBody
returns-in-FunctionBody c = λ all are. grind (arith, function_body_says)

pub returns-in-InstanceBody : goal.returns-in-InstanceBody
returns-in-InstanceBody c = λ all are. grind (arith, instance_body_says)

pub returns-in-Instance : goal.returns-in-Instance
unfolding declaration
returns-in-Instance c = λ all are.
    subst
    (λ d. IfOk c.index_of.result (λ index. index ≡ spec.definition_index (sight_in c.args.sight.now) all
    (declared_of d)))
    (sym c.in-Instance.is) (c.index_of.ensures all are)
