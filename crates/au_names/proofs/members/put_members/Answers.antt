use Rattle.std.proofs.Common.{arith, sym, ap, ◌∙◌}
use Rattle.au_syntax.proofs.DeclarationLemmas.{class_says, union_says}
use Rattle.au_types.proofs.TableLemmas.{with_all-none}
use Rattle.au_types.specs.DeclaredNames.{given}
use Rattle.au_types.specs.Tables.{with_all}
use Rattle.au_names.specs.Owned.{targets}
use Rattle.au_names.proofs.OtherLemmas.{no_members}
use Rattle.au_names.proofs.members.put_members.Goals as goal

pub returns-in-Union : goal.returns-in-Union
returns-in-Union c = grind (arith, union_says)

pub returns-in-Class : goal.returns-in-Class
returns-in-Class c = grind (arith, class_says)

pub returns-in_default : goal.returns-in_default
returns-in_default c =
    sym
    (ap (λ names. with_all c.args.table.now (targets c.args.at.«module» (given c.args.at.decl names)))
    (no_members c.args.decl.now c.in_default.not-Union c.in_default.not-Class)
    ∙ with_all-none c.args.table.now)
