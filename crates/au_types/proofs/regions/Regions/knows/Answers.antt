use Rattle.std.proofs.Common.{ap, sym, ◌∙◌}
use Rattle.au_types.specs.Regions.{knows}
use Rattle.au_types.proofs.RegionLemmas.{knows_decides}
use Rattle.au_types.proofs.regions.Regions.knows.Goals as goal

pub returns-clause-exact : goal.returns-clause-exact
returns-clause-exact c =
    let decides = knows_decides c.args.self.now c.args.name.now in
    let known = c.is_known.ensures ∙ ap (λ scope. knows scope c.args.name.now) c.self.view_is in
    (λ h. decides.0 (sym known ∙ h), λ e. known ∙ decides.1 e)
