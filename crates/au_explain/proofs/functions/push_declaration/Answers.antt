use Rattle.std.proofs.Common.{ap, ◌∙◌}
use Rattle.au_base.proofs.ListLemmas.{nothing_added}
use Rattle.au_explain.specs.Programs.{declaration_lives}
use Rattle.au_explain.proofs.PutLemmas as puts
use Rattle.au_sights.specs.Sights.{outside_seen}
use Rattle.au_syntax.proofs.DeclarationLemmas.{constant_says, opaque_says, record_says, union_says}
use Rattle.au_syntax.proofs.DeclarationLemmas.{function_says, class_says, instance_says, constant_body_says}
use Rattle.au_syntax.proofs.DeclarationLemmas.{function_body_says, instance_body_says}
use Rattle.au_syntax.specs.contracts.parsed.ParsedPhase.TheImpl.{ghosts as parsed}
use Rattle.au_syntax.specs.Plain.{PlainDeclaration}
use Rattle.au_syntax.specs.Views.{declaration}
use Rattle.au_explain.proofs.functions.push_declaration.Goals as goal

pub returns-in-Constant : goal.returns-in-Constant
returns-in-Constant c =
    nothing_added c.args.made.now.items _
    (ap (λ (d : PlainDeclaration). declaration_lives (outside_seen c.args.outside.now) c.args.owner.now d)
    (ap (declaration parsed) c.in-Constant.is ∙ constant_says parsed _ _ _))

pub returns-in-Opaque : goal.returns-in-Opaque
returns-in-Opaque c =
    nothing_added c.args.made.now.items _
    (ap (λ (d : PlainDeclaration). declaration_lives (outside_seen c.args.outside.now) c.args.owner.now d)
    (ap (declaration parsed) c.in-Opaque.is ∙ opaque_says parsed _ _ _ _))

pub returns-in-Record : goal.returns-in-Record
returns-in-Record c =
    nothing_added c.args.made.now.items _
    (ap (λ (d : PlainDeclaration). declaration_lives (outside_seen c.args.outside.now) c.args.owner.now d)
    (ap (declaration parsed) c.in-Record.is ∙ record_says parsed _ _ _ _ _))

pub returns-in-Union : goal.returns-in-Union
returns-in-Union c =
    nothing_added c.args.made.now.items _
    (ap (λ (d : PlainDeclaration). declaration_lives (outside_seen c.args.outside.now) c.args.owner.now d)
    (ap (declaration parsed) c.in-Union.is ∙ union_says parsed _ _ _ _ _))

pub returns-in-Function : goal.returns-in-Function
returns-in-Function c =
    nothing_added c.args.made.now.items _
    (ap (λ (d : PlainDeclaration). declaration_lives (outside_seen c.args.outside.now) c.args.owner.now d)
    (ap (declaration parsed) c.in-Function.is ∙ function_says parsed _ _ _))

pub returns-in-Class : goal.returns-in-Class
returns-in-Class c =
    nothing_added c.args.made.now.items _
    (ap (λ (d : PlainDeclaration). declaration_lives (outside_seen c.args.outside.now) c.args.owner.now d)
    (ap (declaration parsed) c.in-Class.is ∙ class_says parsed _ _ _ _))

pub returns-in-Instance : goal.returns-in-Instance
returns-in-Instance c =
    nothing_added c.args.made.now.items _
    (ap (λ (d : PlainDeclaration). declaration_lives (outside_seen c.args.outside.now) c.args.owner.now d)
    (ap (declaration parsed) c.in-Instance.is ∙ instance_says parsed _ _ _ _))

pub returns-in-ConstantBody : goal.returns-in-ConstantBody
returns-in-ConstantBody c =
    nothing_added c.args.made.now.items _
    (ap (λ (d : PlainDeclaration). declaration_lives (outside_seen c.args.outside.now) c.args.owner.now d)
    (ap (declaration parsed) c.in-ConstantBody.is ∙ constant_body_says parsed _ _ _ _))

pub returns-in-FunctionBody : goal.returns-in-FunctionBody
returns-in-FunctionBody c =
    puts.put_as c.push_function.result c.args.made.now.items c.push_function.new.made.items _ _
    (ap (λ (d : PlainDeclaration). declaration_lives (outside_seen c.args.outside.now) c.args.owner.now d)
    (ap (declaration parsed) c.in-FunctionBody.is ∙ function_body_says parsed _ _ _ _ _))
    c.push_function.ensures

pub returns-in-InstanceBody : goal.returns-in-InstanceBody
returns-in-InstanceBody c =
    puts.put_as c.push_methods.result c.args.made.now.items c.push_methods.new.made.items _ _
    (ap (λ (d : PlainDeclaration). declaration_lives (outside_seen c.args.outside.now) c.args.owner.now d)
    (ap (declaration parsed) c.in-InstanceBody.is ∙ instance_body_says parsed _ _ _ _ _))
    c.push_methods.ensures
