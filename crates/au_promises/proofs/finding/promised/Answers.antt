use Rattle.std.proofs.Common.{sym, arith}
use Rattle.au_syntax.proofs.DeclarationLemmas.{constant_says, opaque_says, function_says, instance_says}
use Rattle.au_promises.proofs.FormLemmas.{no_promise}
use Rattle.au_promises.proofs.finding.promised.Goals as goal

pub returns-in-Constant : goal.returns-in-Constant
returns-in-Constant c = grind (arith, constant_says, opaque_says, instance_says)

pub returns-in-Function : goal.returns-in-Function
returns-in-Function c = grind (arith, function_says)

pub returns-in_default : goal.returns-in_default
returns-in_default c =
    let other = c.in_default in
    sym (no_promise c.args.decl.now other.not-Constant other.not-Opaque other.not-Function
    other.not-Instance).promises
