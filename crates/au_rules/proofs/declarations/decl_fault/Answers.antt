use Rattle.std.proofs.Common.{◌≡◌, IfOk, subst}
use Rattle.au_modules.specs.Slots as slots
use Rattle.au_rules.proofs.TestLemmas.{same_fault}
use Rattle.au_rules.proofs.declarations.decl_fault.Goals as goal

pub returns : goal.returns
returns c =
    let program = slots.modules c.args.resolved.now in
    subst (λ fault. IfOk c.first_fault.result (λ found. found ≡ fault))
    (same_fault program c.in_ok-first.first c.in_ok-first.ensures) c.first_fault.ensures
