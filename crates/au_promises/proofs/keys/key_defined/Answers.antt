use Rattle.std.proofs.Common.{sym, arith}
use Rattle.au_syntax.proofs.DeclarationLemmas.{instance_body_says}
use Rattle.au_promises.specs.Written.{sight_in}
use Rattle.au_promises.proofs.FormLemmas.{no_instance}
use Rattle.au_promises.proofs.keys.key_defined.Goals as goal

pub returns-in-InstanceBody : goal.returns-in-InstanceBody
returns-in-InstanceBody c = grind (arith, instance_body_says)

pub returns-in_default : goal.returns-in_default
returns-in_default c =
    sym ((no_instance c.args.decl.now c.in_default.not-InstanceBody (sight_in c.args.sight.now)).0
    c.args.sort)
