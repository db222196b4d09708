use Rattle.std.proofs.Common.{sym, ◌∙◌}
use Rattle.au_types.specs.Views.{meaning}
use Rattle.au_matching.proofs.FixedLemmas.{fixed_decides}
use Rattle.au_matching.proofs.fixing.fixes.Goals as goal

pub returns-clause-exact : goal.returns-clause-exact
returns-clause-exact c =
    let decides = fixed_decides c.args.s.now (meaning c.args.t.now) in
    (λ h. decides.0 (sym c.type_fixed.ensures ∙ h), λ e. c.type_fixed.ensures ∙ decides.1 e)
