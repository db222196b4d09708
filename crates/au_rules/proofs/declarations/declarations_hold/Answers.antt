use Rattle.std.proofs.Common.{sym, ◌∙◌}
use Rattle.au_rules.proofs.RuleLemmas.{exact}
use Rattle.au_modules.specs.Slots as slots
use Rattle.au_rules.proofs.RuleRuleLemmas.{all_good}
use Rattle.au_rules.proofs.declarations.declarations_hold.Goals as goal

pub returns-in-None-clause-good : goal.returns-in-None-clause-good
returns-in-None-clause-good c =
    let program = slots.modules c.args.resolved.now in
    all_good program (exact program) (sym c.in_ok-fault.ensures ∙ c.in-None.is)
