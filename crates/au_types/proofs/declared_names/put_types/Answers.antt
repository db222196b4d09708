use Rattle.std.proofs.Common.{arith}
use Rattle.au_syntax.proofs.DeclarationLemmas.{opaque_says, record_says, union_says, class_says}
use Rattle.au_types.proofs.TableLemmas.{with_all-one}
use Rattle.au_types.proofs.AbsentLemmas.{no_type, puts_none}
use Rattle.au_types.proofs.declared_names.put_types.Goals as goal

pub returns-in-Opaque : goal.returns-in-Opaque
returns-in-Opaque g c = grind (arith, opaque_says, record_says, union_says, class_says, with_all-one)

pub returns-in_default : goal.returns-in_default
returns-in_default g c =
    let k = c.in_default in
    puts_none c.args.table.now c.args.number _
    (no_type g.P.Phase c.args.decl.now k.not-Opaque k.not-Record k.not-Union k.not-Class)
