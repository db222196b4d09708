use Rattle.std.proofs.Common.{sym, ◌∙◌}
use Rattle.au_type_texts.specs.Views.{closed_meaning}
use Rattle.au_type_texts.proofs.SameLemmas.{same_decides}
use Rattle.au_type_texts.proofs.comparing.is_same.Goals as goal

pub returns-clause-exact : goal.returns-clause-exact
returns-clause-exact c =
    let decides = same_decides (closed_meaning c.args.one.now) (closed_meaning c.args.other.now) in
    (λ h. decides.0 (sym c.same_closed.ensures ∙ h), λ e. c.same_closed.ensures ∙ decides.1 e)
