use Rattle.std.proofs.Common.{arith}
use Rattle.au_syntax.proofs.DeclarationLemmas.{record_says, union_says, function_says, class_says}
use Rattle.au_syntax.proofs.DeclarationLemmas.{function_body_says}
use Rattle.au_types.proofs.TableLemmas.{with_all-one}
use Rattle.au_types.proofs.AbsentLemmas.{no_callable, puts_none}
use Rattle.au_types.proofs.declared_names.put_callables.Goals as goal

pub returns-in-Record : goal.returns-in-Record
returns-in-Record g c = grind (arith, record_says, with_all-one)

pub returns-in-Union : goal.returns-in-Union
returns-in-Union g c = grind (arith, union_says)

pub returns-in-Function : goal.returns-in-Function
returns-in-Function g c = grind (arith, function_says, function_body_says, with_all-one)

pub returns-in-Class : goal.returns-in-Class
returns-in-Class g c = grind (arith, class_says)

pub returns-in_default : goal.returns-in_default
returns-in_default g c =
    let k = c.in_default in
    puts_none c.args.table.now c.args.number _
    (no_callable g.P.Phase c.args.decl.now k.not-Record k.not-Union k.not-Function k.not-FunctionBody
    k.not-Class)
