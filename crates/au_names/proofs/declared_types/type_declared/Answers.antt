use Rattle.std.proofs.Common.{arith, sym}
use Rattle.au_syntax.proofs.DeclarationLemmas.{opaque_says, record_says, union_says}
use Rattle.au_names.proofs.OtherLemmas.{no_type}
use Rattle.au_names.proofs.declared_types.type_declared.Goals as goal

pub returns-in-Opaque : goal.returns-in-Opaque
returns-in-Opaque c = grind (arith, opaque_says)

pub returns-in-Record : goal.returns-in-Record
returns-in-Record c = grind (arith, record_says, union_says)

pub returns-in_default : goal.returns-in_default
returns-in_default c =
    sym (no_type c.args.decl.now c.in_default.not-Opaque c.in_default.not-Record c.in_default.not-Union)
