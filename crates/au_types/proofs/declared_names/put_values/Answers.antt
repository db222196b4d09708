use Rattle.std.proofs.Common.{arith}
use Rattle.au_syntax.proofs.DeclarationLemmas.{constant_says, constant_body_says}
use Rattle.au_types.proofs.TableLemmas.{with_all-one}
use Rattle.au_types.proofs.AbsentLemmas.{no_value, puts_none}
use Rattle.au_types.proofs.declared_names.put_values.Goals as goal

pub returns-in-Constant : goal.returns-in-Constant
returns-in-Constant g c = grind (arith, constant_says, constant_body_says, with_all-one)

pub returns-in_default : goal.returns-in_default
returns-in_default g c =
    let k = c.in_default in
    puts_none c.args.table.now c.args.number _
    (no_value g.P.Phase c.args.decl.now k.not-Constant k.not-ConstantBody)
