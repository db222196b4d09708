use Rattle.std.proofs.Common.{sym, ◌∙◌}
use Rattle.au_types.specs.Views.{meaning}
use Rattle.au_types.proofs.SameLemmas.{same_decides}
use Rattle.au_types.proofs.comparing.is_same.Goals as goal

pub returns-clause-exact : goal.returns-clause-exact
returns-clause-exact c =
    let decides = same_decides (meaning c.args.one.now) (meaning c.args.other.now) in
    (λ h. decides.0 (sym c.same_type.ensures ∙ h), λ e. c.same_type.ensures ∙ decides.1 e)
