use Rattle.std.proofs.Common.{◌≡◌, map, ap, sym, subst, ◌∙◌, arith}
use Rattle.std.specs.Prelude.{IfOk}
use Rattle.au_syntax.specs.contracts.parsed.ParsedPhase.TheImpl.{ghosts as parsed}
use Rattle.au_syntax.specs.Plain.{plain_declaration}
use Rattle.au_syntax.specs.Views.{declaration}
use Rattle.au_syntax.proofs.DeclarationLemmas as says
use Rattle.au_type_texts.specs.Views.{closed_meaning}
use Rattle.au_closed_trees.specs.Parts as spec
use Rattle.au_closed_trees.specs.Views.{cases_said}
use Rattle.au_closed_trees.proofs.cases.declared_cases.Goals as goal

pub returns-in-Constant : goal.returns-in-Constant
returns-in-Constant c = grind (arith, says.constant_says)

pub returns-in-Opaque : goal.returns-in-Opaque
returns-in-Opaque c = grind (arith, says.opaque_says)

pub returns-in-Record : goal.returns-in-Record
returns-in-Record c =
    let d = c.args.defined.now in
    let what =
    ap (declaration parsed) c.in-Record.is
    ∙ says.record_says parsed c.in-Record.field-0 c.in-Record.name c.in-Record.parameters c.in-Record.field-3
    c.in-Record.fields in
    subst (λ t. IfOk c.record_cases.result (λ made. cases_said made.items
    ≡ spec.declared_cases d.names.now d.heads.now (map closed_meaning d.args.now)
    (plain_declaration parsed.name_bytes t)))
    (sym what) c.record_cases.ensures

pub returns-in-Union : goal.returns-in-Union
returns-in-Union c = grind (arith, says.union_says)

pub returns-in-Function : goal.returns-in-Function
returns-in-Function c = grind (arith, says.function_says)

pub returns-in-Class : goal.returns-in-Class
returns-in-Class c = grind (arith, says.class_says)

pub returns-in-Instance : goal.returns-in-Instance
returns-in-Instance c = grind (arith, says.instance_says)

pub returns-in-ConstantBody : goal.returns-in-ConstantBody
returns-in-ConstantBody c = grind (arith, says.constant_body_says)

pub returns-in-FunctionBody : goal.returns-in-FunctionBody
returns-in-FunctionBody c = grind (arith, says.function_body_says)

pub returns-in-InstanceBody : goal.returns-in-InstanceBody
returns-in-InstanceBody c = grind (arith, says.instance_body_says)
