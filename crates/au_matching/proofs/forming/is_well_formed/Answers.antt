use Rattle.std.proofs.Common.{ap, sym, ◌∙◌}
use Rattle.au_types.specs.Views.{meaning}
use Rattle.au_matching.specs.Forming.{is_formed}
use Rattle.au_matching.proofs.FormedLemmas.{asked_universe}
use Rattle.au_matching.proofs.forming.is_well_formed.Goals as goal

pub returns-clause-test : goal.returns-clause-test
returns-clause-test c =
    let rows = c.args.heads.now in
    let params = c.args.scope.now in
    c.is_formed.ensures ∙ ap (λ test. is_formed test rows params (meaning c.args.of.now)) (asked_universe rows params)

pub returns-clause-exact : goal.returns-clause-exact
returns-clause-exact c = (λ h. sym (returns-clause-test c) ∙ h, λ h. returns-clause-test c ∙ h)
