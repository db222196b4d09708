use Rattle.std.proofs.Common.{sym, ap, ◌∙◌, find, arith}
use Rattle.au_syntax.proofs.DeclarationLemmas.{constant_says, opaque_says, function_says, instance_says}
use Rattle.au_promises.specs.Written.{declarations_of, sight_in}
use Rattle.au_promises.proofs.DefinitionLemmas.{nothing_found}
use Rattle.au_promises.proofs.FormLemmas.{no_promise}
use Rattle.au_promises.proofs.finding.definition_of.Goals as goal

pub returns-in-Constant : goal.returns-in-Constant
returns-in-Constant c = grind (arith, constant_says)

pub returns-in-Opaque : goal.returns-in-Opaque
returns-in-Opaque c = grind (arith, opaque_says)

pub returns-in-Function : goal.returns-in-Function
returns-in-Function c = grind (arith, function_says)

pub returns-in-Instance : goal.returns-in-Instance
returns-in-Instance c = grind (arith, instance_says)

pub returns-in_default : goal.returns-in_default
returns-in_default c =
    let other = c.in_default in
    let all = declarations_of c.args.decls.now.items in
    let none = no_promise c.args.promise.now other.not-Constant other.not-Opaque other.not-Function
    other.not-Instance in
    sym (ap (λ test. find test all) (none.defined (sight_in c.args.sight.now)) ∙ nothing_found all)
