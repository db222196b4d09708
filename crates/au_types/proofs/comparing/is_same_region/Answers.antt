use Rattle.std.proofs.Common.{sym, ◌∙◌}
use Rattle.au_types.proofs.SameLemmas.{region_decides}
use Rattle.au_types.proofs.comparing.is_same_region.Goals as goal

pub returns-clause-exact : goal.returns-clause-exact
returns-clause-exact c =
    let decides = region_decides c.args.one.now c.args.other.now in
    (λ h. decides.0 (sym c.same_regions.ensures ∙ h), λ e. c.same_regions.ensures ∙ decides.1 e)
