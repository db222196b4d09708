use Rattle.std.proofs.Common.{◌≡◌, List, [], ◌++◌, map, sym, ap, subst, ◌∙◌}
use Rattle.std.specs.Prelude.{OnOk}
use Rattle.std.proofs.lemmas.List.{append-nil}
use Rattle.au_modules.specs.Slots as slots
use Rattle.au_sights.specs.Views.{note}
use Rattle.au_syntax.specs.contracts.parsed.ParsedPhase.TheImpl.{ghosts as parsed}
use Rattle.au_syntax.specs.Plain.{plain_declaration}
use Rattle.au_syntax.specs.Views.{declaration}
use Rattle.au_syntax.proofs.DeclarationLemmas.{constant_says, opaque_says, record_says, union_says}
use Rattle.au_syntax.proofs.DeclarationLemmas.{function_says, class_says, instance_says, constant_body_says}
use Rattle.au_syntax.proofs.DeclarationLemmas.{function_body_says, instance_body_says}
use Rattle.au_caps.specs.Calls.{Callee, declared_leads}
use Rattle.au_caps.specs.Views.{callee_said}
use Rattle.au_caps.proofs.calls.add_declared.Goals as goal

-- it leads nowhere
nowhere : (start all : List Callee) → all ≡ [] → start ≡ start ++ all
nowhere start all is = sym (ap (λ r. start ++ r) is ∙ append-nil start)

pub returns-in-Constant : goal.returns-in-Constant
returns-in-Constant c =
    nowhere _ _
    (ap (λ d. declared_leads (slots.modules c.args.program.now) (note c.args.of.now) c.args.target.now
    (plain_declaration parsed.name_bytes d)) (ap (declaration parsed) c.in-Constant.is ∙ constant_says parsed _ _ _))

pub returns-in-Opaque : goal.returns-in-Opaque
returns-in-Opaque c =
    nowhere _ _
    (ap (λ d. declared_leads (slots.modules c.args.program.now) (note c.args.of.now) c.args.target.now
    (plain_declaration parsed.name_bytes d)) (ap (declaration parsed) c.in-Opaque.is ∙ opaque_says parsed _ _ _ _))

pub returns-in-Instance : goal.returns-in-Instance
returns-in-Instance c =
    nowhere _ _
    (ap (λ d. declared_leads (slots.modules c.args.program.now) (note c.args.of.now) c.args.target.now
    (plain_declaration parsed.name_bytes d)) (ap (declaration parsed) c.in-Instance.is ∙ instance_says parsed _ _ _ _))

pub returns-in-ConstantBody : goal.returns-in-ConstantBody
returns-in-ConstantBody c =
    nowhere _ _
    (ap (λ d. declared_leads (slots.modules c.args.program.now) (note c.args.of.now) c.args.target.now
    (plain_declaration parsed.name_bytes d)) (ap (declaration parsed) c.in-ConstantBody.is ∙ constant_body_says parsed _ _ _ _))

pub returns-in-InstanceBody : goal.returns-in-InstanceBody
returns-in-InstanceBody c =
    nowhere _ _
    (ap (λ d. declared_leads (slots.modules c.args.program.now) (note c.args.of.now) c.args.target.now
    (plain_declaration parsed.name_bytes d)) (ap (declaration parsed) c.in-InstanceBody.is ∙ instance_body_says parsed _ _ _ _ _))

pub returns-in-Record : goal.returns-in-Record
returns-in-Record c =
    subst (λ d. OnOk c.add_birth.result (map callee_said c.add_birth.new.found.items
    ≡ map callee_said c.args.found.now.items ++ declared_leads (slots.modules c.args.program.now)
    (note c.args.of.now) c.args.target.now (plain_declaration parsed.name_bytes d)))
    (sym (ap (declaration parsed) c.in-Record.is ∙ record_says parsed _ _ _ _ _)) c.add_birth.ensures

pub returns-in-Union : goal.returns-in-Union
returns-in-Union c =
    subst (λ d. OnOk c.add_birth-in-Union.result (map callee_said c.add_birth-in-Union.new.found.items
    ≡ map callee_said c.args.found.now.items ++ declared_leads (slots.modules c.args.program.now)
    (note c.args.of.now) c.args.target.now (plain_declaration parsed.name_bytes d)))
    (sym (ap (declaration parsed) c.in-Union.is ∙ union_says parsed _ _ _ _ _)) c.add_birth-in-Union.ensures

pub returns-in-Function : goal.returns-in-Function
returns-in-Function c =
    subst (λ d. OnOk c.add_function.result (map callee_said c.add_function.new.found.items
    ≡ map callee_said c.args.found.now.items ++ declared_leads (slots.modules c.args.program.now)
    (note c.args.of.now) c.args.target.now (plain_declaration parsed.name_bytes d)))
    (sym (ap (declaration parsed) c.in-Function.is ∙ function_says parsed _ _ _)) c.add_function.ensures

pub returns-in-Class : goal.returns-in-Class
returns-in-Class c =
    subst (λ d. OnOk c.add_method.result (map callee_said c.add_method.new.found.items
    ≡ map callee_said c.args.found.now.items ++ declared_leads (slots.modules c.args.program.now)
    (note c.args.of.now) c.args.target.now (plain_declaration parsed.name_bytes d)))
    (sym (ap (declaration parsed) c.in-Class.is ∙ class_says parsed _ _ _ _)) c.add_method.ensures

pub returns-in-FunctionBody : goal.returns-in-FunctionBody
returns-in-FunctionBody c =
    subst (λ d. OnOk c.add_function-in-FunctionBody.result (map callee_said c.add_function-in-FunctionBody.new.found.items
    ≡ map callee_said c.args.found.now.items ++ declared_leads (slots.modules c.args.program.now)
    (note c.args.of.now) c.args.target.now (plain_declaration parsed.name_bytes d)))
    (sym (ap (declaration parsed) c.in-FunctionBody.is ∙ function_body_says parsed _ _ _ _ _)) c.add_function-in-FunctionBody.ensures
