use Rattle.au_lives.proofs.StepLemmas.{step_rows}
use Rattle.au_lives.proofs.steps.step.Goals as goal

pub returns : goal.returns
returns c = step_rows c.args.s c.args.c c.row.result c.row.ensures
