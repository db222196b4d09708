use Rattle.std.proofs.Common.{ap, ◌∙◌}
use Rattle.au_types.specs.Rows.{head_of}
use Rattle.au_types.proofs.headings.Heads.row.Goals as goal

pub returns : goal.returns
returns c = c.get.ensures.value ∙ ap (λ rows. head_of rows c.args.at) c.self.view_is
