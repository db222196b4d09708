use Rattle.std.proofs.Common.{ap, ◌∙◌, sym}
use Rattle.au_types.specs.Rows.{head_of}
use Rattle.au_types.proofs.headings.Heads.at.Goals as goal

pub returns-clause-found : goal.returns-clause-found
returns-clause-found c = ap (λ rows. head_of rows c.in-Some.at.now) (sym c.self.view_is) ∙ c.in-Some.ensures.value
