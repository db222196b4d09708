use Rattle.std.proofs.Common.{arith}
use Rattle.au_syntax.proofs.DeclarationLemmas.{class_says}
use Rattle.au_names.proofs.MethodLemmas.{no_methods}
use Rattle.au_names.proofs.methods.class_methods.Goals as goal

pub returns-in-Class : goal.returns-in-Class
returns-in-Class c = grind (arith, class_says)

pub returns-in_default : goal.returns-in_default
returns-in_default c = no_methods c.args.decl.now c.in_default.not-Class
